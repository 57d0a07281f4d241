-- `decimal_of n` is the decimal text of every n below 10 ^ 10: it obeys the rule of repeated division with no bound on the digits; each of
-- its bytes is a digit; they read back as n; and none leads with a 0 but 0 itself. Each goes by induction on the bound k, since
-- n / 10 is below 10 ^ k where n is below 10 ^ (k + 1). Assumes nothing.
use Rattle.std.proofs.Common.{sym, ap, inl, inr, arith, ltb-true, ltb-false}
use Rattle.std.proofs.Math.Bool.{true, false}
use Rattle.std.proofs.Math.Dec.{ltb}
use Rattle.std.proofs.Math.Nat.{pow-succ'}
use Rattle.std.proofs.Math.Path.{refl}
use Rattle.std.specs.Prelude.{◌≡◌, ◌⊎◌, Bool, cond, ℕ, zero, suc, ◌+◌, ◌-◌, ◌*◌, ◌≤◌, ◌<◌, ◌/◌, ◌%◌, ◌^◌, get_or, List, [], ◌∷◌, ◌++◌}
use Rattle.decimal.specs.Decimal.{digits, decimal_of}

-- ---- what is said of a text

-- '0' is 48 and '9' is 57
abbrev pub AllDigits : List ℕ → Type 0
AllDigits [] = Unit {0}
AllDigits (x ∷ xs) = ((48 ≤ x) × (x ≤ 57)) × AllDigits xs

-- the number that digits stand for, read from the first on: v is what those before them gave
unfoldable pub value_after : ℕ → List ℕ → ℕ
value_after v [] = v
value_after v (x ∷ xs) = value_after (10 * v + (x - 48)) xs

abbrev pub value_of : List ℕ → ℕ
value_of xs = value_after 0 xs

-- xs is n in decimal: digits alone, which read back as n, with no leading 0 but for 0 itself
pub record IsDecimal (n : ℕ) (xs : List ℕ) : Type 0 where
  pub digital : AllDigits xs
  pub value : value_of xs ≡ n
  pub first : (xs ≡ 48 ∷ []) ⊎ (49 ≤ get_or xs 0 0)

-- ---- one more digit at the end

all_more : (xs : List ℕ) (d : ℕ) → AllDigits xs → d < 10 → AllDigits (xs ++ ((48 + d) ∷ []))
all_more [] d a h = ((omega arith, omega arith), tt)
all_more (x ∷ xs) d a h = (a.0, all_more xs d a.1 h)

value_more : (xs : List ℕ) (d v : ℕ) → value_after v (xs ++ ((48 + d) ∷ [])) ≡ 10 * value_after v xs + d
unfolding value_after
value_more [] d v = omega arith
value_more (x ∷ xs) d v = value_more xs d (10 * v + (x - 48))

first_more : (xs ys : List ℕ) → 49 ≤ get_or xs 0 0 → 49 ≤ get_or (xs ++ ys) 0 0
first_more [] ys h = absurd (omega arith)
first_more (x ∷ xs) ys h = h

-- ---- digits by repeated division

tenth : (k n : ℕ) → n < 10 ^ suc k → n / 10 < 10 ^ k
tenth k n h = omega (arith, pow-succ' 10 k)

-- by the test whether n has one digit
module _ (P : List ℕ → Type 0) (k n : ℕ) where
  digits_by : (n < 10 → P ((48 + n % 10) ∷ [])) → (10 ≤ n → P (digits k (n / 10) ++ ((48 + n % 10) ∷ []))) → P (digits (suc k) n)
  unfolding digits
  digits_by one more = by (ltb n 10) refl
    where
      by : (t : Bool) → ltb n 10 ≡ t → P (cond t [] (digits k (n / 10)) ++ ((48 + n % 10) ∷ []))
      by true e = one (ltb-true n 10 e)
      by false e = more (ltb-false n 10 e)

digits-all : (k n : ℕ) → AllDigits (digits k n)
unfolding digits
digits-all zero n = tt
digits-all (suc k) n =
    digits_by AllDigits k n
    (λ h. all_more [] (n % 10) tt (omega arith))
    (λ h. all_more (digits k (n / 10)) (n % 10) (digits-all k (n / 10)) (omega arith))

digits_value : (k n : ℕ) → n < 10 ^ k → value_of (digits k n) ≡ n
unfolding digits value_after
digits_value zero n h = omega arith
digits_value (suc k) n h =
    digits_by (λ (xs : List ℕ). value_of xs ≡ n) k n
    (λ l. omega (arith, value_more [] (n % 10) 0))
    (λ l. omega (arith, value_more (digits k (n / 10)) (n % 10) 0, digits_value k (n / 10) (tenth k n h)))

digits-first : (k n : ℕ) → 0 < n → n < 10 ^ k → 49 ≤ get_or (digits k n) 0 0
digits-first zero n p h = absurd (omega arith)
digits-first (suc k) n p h =
    digits_by (λ (xs : List ℕ). 49 ≤ get_or xs 0 0) k n
    (λ l. omega arith)
    (λ l. first_more (digits k (n / 10)) ((48 + n % 10) ∷ []) (digits-first k (n / 10) (omega arith) (tenth k n h)))

-- a larger bound gives no more digits
digits_more : (k n : ℕ) → n < 10 ^ suc k → digits (suc (suc k)) n ≡ digits (suc k) n
unfolding digits
digits_more zero n h =
    digits_by (λ (xs : List ℕ). xs ≡ digits 1 n) 1 n
    (λ l. sym (digits_by (λ (xs : List ℕ). xs ≡ (48 + n % 10) ∷ []) 0 n (λ _. refl) (λ _. refl)))
    (λ l. absurd (omega arith))
digits_more (suc k) n h = ap (λ (xs : List ℕ). cond (ltb n 10) [] xs ++ ((48 + n % 10) ∷ [])) (digits_more k (n / 10) (tenth (suc k) n h))

-- ---- the decimal text

pub decimal_step : (n : ℕ) → n < 10 ^ 10 → decimal_of n ≡ cond (ltb n 10) [] (decimal_of (n / 10)) ++ ((48 + n % 10) ∷ [])
unfolding decimal_of digits
decimal_step n h = ap (λ (xs : List ℕ). cond (ltb n 10) [] xs ++ ((48 + n % 10) ∷ [])) (sym (digits_more 8 (n / 10) (tenth 9 n h)))

pub decimal_right : (n : ℕ) → n < 10 ^ 10 → IsDecimal n (decimal_of n)
unfolding decimal_of digits
decimal_right n h = record { digital = digits-all 10 n; value = digits_value 10 n h; first = by n h }
  where
    by : (m : ℕ) → m < 10 ^ 10 → (digits 10 m ≡ 48 ∷ []) ⊎ (49 ≤ get_or (digits 10 m) 0 0)
    by zero h = inl refl
    by (suc m) h = inr (digits-first 10 (suc m) (omega arith) h)
