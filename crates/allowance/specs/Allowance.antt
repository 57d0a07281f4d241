-- Document 01, "Allowance": allowed = `(W as f64 * m).round() as i32`, over the values of IEEE 754 as `lib.Ieee` has them:
-- `fin s m e` is m * 2 ^ e, which is m * up e / down e, negative where s is true. Definitions only.
use Rattle.std.specs.Prelude.{ℕ, ◌+◌, ◌*◌, ◌/◌, ℤ, pos, Float}
use Rattle.std.specs.Float.{nan, inf, fin, binary64}
use Rattle.std.specs.Float.Ieee.{up, down, of_int, mul, to_signed}

-- "an IEEE 754 product rounded once": of `W as f64`, exact for every u32, and m
unfoldable pub product : ℕ → Float → Float
product w m = mul binary64 (of_int binary64 (pos w)) m

-- a / c to the nearest whole number, and half way between two to the larger: the whole part of a / c + 1 / 2 (`half-nearest` in proofs/Half.antt)
unfoldable pub half_up : ℕ → ℕ → ℕ
half_up a c = (2 * a + c) / (2 * c)

-- "then to whole, halves away from zero". Rust's documentation of `round`: "Returns the nearest integer to self. If a value is
-- half-way between two integers, round away from 0.0." So the magnitude goes half up and the sign stays. No NaN or infinity changes.
unfoldable pub rounded : Float → Float
rounded nan = nan
rounded (inf s) = inf s
rounded (fin s m e) = fin s (half_up (m * up e) (down e)) (pos 0)

-- "then clamped to i32, NaN giving 0". Rust Reference, a float `as` an integer: "NaN will return 0"; "Values larger than the maximum
-- integer value, including INFINITY, will saturate to the maximum value of the integer type", and those smaller to the minimum.
-- `to_signed 31` is `as i32`: from -2 ^ 31 to 2 ^ 31 - 1.
abbrev pub to_i32 : Float → ℤ
to_i32 x = to_signed 31 x

-- "allowed = `(W as f64 * m).round() as i32`"
unfoldable pub allowed_of : ℕ → Float → ℤ
allowed_of w m = to_i32 (rounded (product w m))
