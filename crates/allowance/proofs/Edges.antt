-- `allowed_of` at the edges of the format, computed: it is total, and the clamp and the NaN rule decide what overflows or is no number.
-- Assumes nothing.
use Rattle.std.proofs.Common.{◌≡◌, refl, ℕ, ℤ, pos, negsuc}
use lib.Ieee.{binary64, of_bits, of_int, mul, to_signed}
use Rattle.allowance.specs.Allowance.{product, half_up, rounded, allowed_of}

-- W, and the multiplier by its 64 bits
abbrev at : ℕ → ℕ → ℤ
at w b = allowed_of w (of_bits binary64 b)

-- the least subnormal, at the largest W that a job can have
least : at 4000000 1 ≡ pos 0
unfolding allowed_of product rounded half_up of_bits of_int mul to_signed
least = refl

-- the largest finite f64 and its negative: out of range at W 1, and the product overflows to an infinity at a larger W
largest : (at 1 0x7fef_ffff_ffff_ffff ≡ pos 2147483647) × (at 4000000 0xffef_ffff_ffff_ffff ≡ negsuc 2147483647)
unfolding allowed_of product rounded half_up of_bits of_int mul to_signed
largest = (refl, refl)

-- the ends of the range: 2147483647.5 and -2147483648.5 as products of W 1
ends : (at 1 0x41df_ffff_ffe0_0000 ≡ pos 2147483647) × (at 1 0xc1e0_0000_0010_0000 ≡ negsuc 2147483647)
unfolding allowed_of product rounded half_up of_bits of_int mul to_signed
ends = (refl, refl)

minus-infinity : at 12 0xfff0_0000_0000_0000 ≡ negsuc 2147483647
unfolding allowed_of product rounded half_up of_bits of_int mul to_signed
minus-infinity = refl

-- NaN patterns of either sign, quiet and signalling
not_a_number : (at 12 0x7ff8_0000_0000_0000 ≡ pos 0) × (at 12 0xfff0_0000_0000_0001 ≡ pos 0)
unfolding allowed_of product rounded half_up of_bits of_int mul to_signed
not_a_number = (refl, refl)
