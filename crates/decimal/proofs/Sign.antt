-- The sign of an integer, as the test `z < 0` finds it, and what it says of the text. Assumes nothing.
use Rattle.std.proofs.Common.{◌≡◌, refl, sym, ap, ◌∙◌, ℕ, ◌+◌, List, [], ◌∷◌, length, true, false, arith, le-ltb}
use Rattle.std.specs.Prelude.{ℤ, pos, negsuc, nat_abs, int_lt}
use Rattle.std.specs.Int.{from_bool}
use Rattle.wire.specs.Puts.{Puts, puts_then, puts_as}
use Rattle.decimal.specs.Decimal.{decimal_of, int_text}

no_sign : (n : ℕ) → int_lt (pos n) (pos 0) ≡ false
no_sign n = le-ltb n 0 (omega arith)

pub text_length : (z : ℤ) → length (int_text z) ≡ length (decimal_of (nat_abs z)) + from_bool (int_lt z (pos 0))
unfolding int_text
text_length (pos n) = rw (no_sign n) (omega arith)
text_length (negsuc n) = omega arith

pub plain_text : (z : ℤ) → int_lt z (pos 0) ≡ false → int_text z ≡ decimal_of (nat_abs z)
unfolding int_text
plain_text (pos n) e = refl
plain_text (negsuc n) e = cc

pub minus_text : (z : ℤ) → int_lt z (pos 0) ≡ true → int_text z ≡ 45 ∷ decimal_of (nat_abs z)
unfolding int_text
minus_text (pos n) e = let f = no_sign n in cc
minus_text (negsuc n) e = refl

-- a minus sign, and then the digits of m, the magnitude
pub puts_minus : {l l' l'' : List ℕ} {at p r : ℕ} (z : ℤ) (m : ℕ) → int_lt z (pos 0) ≡ true → m ≡ nat_abs z
    → Puts l at (45 ∷ []) l' p → Puts l' p (decimal_of m) l'' r → Puts l at (int_text z) l'' r
puts_minus z m e f a b = puts_as (puts_then a b) (ap (λ (k : ℕ). 45 ∷ decimal_of k) f ∙ sym (minus_text z e))
