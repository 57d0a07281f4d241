-- Which patterns are a NaN's: with the sign's bit taken off, those above infinity's, 2047 * 2 ^ 52; and all those are one NaN, 0.0 / 0.0.
-- Assumes nothing.
use Rattle.std.proofs.Common.{◌≡◌, refl, sym, ◌∙◌, true, not, ℕ, ◌*◌, ◌%◌, ◌^◌, ◌≤◌, ◌<◌, T}
use Rattle.std.proofs.Math.Bool.{false≢true}
use lib.Ieee.{Float, nan, inf, fin, binary64, is_nan, nan_bits, of_bits, div}
use lib.Ieee.Bits.{nan_bits_is, nan_bits_above}
use borrow.Author.Tests.{lt-ltb, le-ltb}
use Rattle.std.proofs.lemmas.Float.{T_from_false}

-- 0.0 / 0.0, with 0.0 by its bit pattern
zero_by_zero : div binary64 (of_bits binary64 0) (of_bits binary64 0) ≡ nan
unfolding div of_bits
zero_by_zero = refl

pub only_nan : (x : Float) → is_nan x ≡ true → nan ≡ x
unfolding is_nan
only_nan nan h = refl
only_nan (inf s) h = absurd (false≢true h)
only_nan (fin s m e) h = absurd (false≢true h)

pub number : (b : ℕ) → b % 2 ^ 63 ≤ 2047 * 2 ^ 52 → T (not (nan_bits binary64 b))
number b h = T_from_false _ (nan_bits_above binary64 b ∙ le-ltb _ _ h)

pub one-nan : (b : ℕ) → 2047 * 2 ^ 52 < b % 2 ^ 63 → div binary64 (of_bits binary64 0) (of_bits binary64 0) ≡ of_bits binary64 b
one-nan b h = zero_by_zero ∙ only_nan _ (sym (nan_bits_is binary64 b) ∙ nan_bits_above binary64 b ∙ lt-ltb _ _ h)

pub ruleset patterns = (number, one-nan)
