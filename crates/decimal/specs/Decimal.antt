-- Decimal text, as bytes of ASCII: a number's digits by repeated division by ten. Definitions only; `specs/Laws.antt` says that they are right.
use Rattle.std.specs.Prelude.{cond, List, [], ◌∷◌, ◌++◌, ℕ, zero, suc, ◌+◌, ◌/◌, ◌%◌, ltb, ℤ, pos, negsuc}

-- the digits of n, at most k of them: those of n / 10, where n has more than one, and then the last
unfoldable pub digits : ℕ → ℕ → List ℕ
digits zero n = []
digits (suc k) n = cond (ltb n 10) [] (digits k (n / 10)) ++ ((48 + n % 10) ∷ [])

-- n in decimal, for n below 10 ^ 10, which every u32 is
unfoldable pub decimal_of : ℕ → List ℕ
decimal_of n = digits 10 n

-- a minus sign below zero
unfoldable pub int_text : ℤ → List ℕ
int_text (pos n) = decimal_of n
int_text (negsuc n) = 45 ∷ decimal_of (suc n)
