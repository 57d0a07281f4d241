-- From the fields of a bit pattern to `rounded`: of a pattern that is no NaN's, sign, biased exponent and trailing digits give, by
-- `magnitude` and `signed`, what its value rounds to. A field of 0 has no leading digit, but then the value is far below a half,
-- with the digit or without; infinity reads as 2 ^ 1024, which clamps alike. Assumes nothing.
use Rattle.std.proofs.Common.{◌≡◌, refl, sym, ap, ◌∙◌, subst, Bool, true, false, not, cond, ℕ, zero, suc, ◌+◌, ◌*◌, ◌/◌, ◌%◌, ◌^◌, ◌<◌, lt_of_lt_of_le, mul_assoc, mod-lt, pow-suc, arith, pos, T, leb, eqb, lit<, lit≤, eqb→eq, pow_pos}
use Rattle.std.proofs.Math.Nat.{pow-succ'}
use lib.Ieee.{Float, nan, inf, fin, binary64, up, down, odd, fits, is_nan, of_fields, of_bits, to_bits, to_signed}
use lib.Ieee.Bits.{of_bits-to_bits}
use lib.Ieee.Exact.{HasValue, odd_sign}
use lib.Ieee.Fits.{down_pos}
use Rattle.allowance.specs.Allowance.{half_up, rounded, to_i32}
use Rattle.allowance.proofs.Half.{half-same, half-none}
use Rattle.allowance.proofs.Patterns.{only_nan}
use Rattle.allowance.proofs.Ranges.{size, size_none}
use Rattle.allowance.proofs.Clamp.{clamped, clamped_min}

-- what a finite value rounds to, by a fraction that it equals
pub of_value : (v : Float) (s : Bool) (a c : ℕ) → 0 < c → HasValue v s a c → to_i32 (rounded v) ≡ clamped s (half_up a c)
unfolding rounded
of_value nan s a c C h = absurd h
of_value (inf t) s a c C h = absurd h
of_value (fin t m e) s a c C h =
    ap (λ (b : Bool). clamped b (half_up (m * up e) (down e))) h.0
    ∙ ap (λ (k : ℕ). clamped s k) (half-same (m * up e) (down e) a c (down_pos e) C h.1)

at-infinity : (s : Bool) → to_i32 (rounded (inf s)) ≡ clamped s (size 2047 0)
unfolding rounded to_signed half_up
at-infinity true = refl
at-infinity false = refl

-- a field of all ones: infinity, or a NaN, which is left out
at_top : (s : Bool) (t : ℕ) → T (not (is_nan (cond (eqb t 0) (inf s) nan))) → to_i32 (rounded (cond (eqb t 0) (inf s) nan)) ≡ clamped s (size 2047 t)
unfolding is_nan
at_top s t n = go (eqb t 0) (eqb→eq t 0) n
  where
    go : (b : Bool) → (T b → t ≡ 0) → T (not (is_nan (cond b (inf s) nan))) → to_i32 (rounded (cond b (inf s) nan)) ≡ clamped s (size 2047 t)
    go true e k = at-infinity s ∙ ap (λ (x : ℕ). clamped s (size 2047 x)) (sym (e tt))
    go false e k = absurd k

-- a field of 0: below 2 ^ -1021
at_zero : (s : Bool) (t : ℕ) → t < 2 ^ 52 → to_i32 (rounded (odd 53 s t 0 1074)) ≡ clamped s (size 0 t)
at_zero s t h =
    let tiny : 2 * (t * 2 ^ 0) < 2 ^ 1074 = lt_of_lt_of_le {m = 2 ^ 53} (omega arith) (lit≤ tt) in
    of_value (odd 53 s t 0 1074) s (t * 2 ^ 0) (2 ^ 1074) (pow_pos 1074) (odd_sign 53 s t 0 1074)
    ∙ ap (λ (k : ℕ). clamped s k) (half-none (t * 2 ^ 0) (2 ^ 1074) tiny ∙ size_none 0 t h (lit< tt))

-- any other field, j + 1: q * 2 ^ j / 2 ^ 1074, with q the digits and the leading one
between : (s : Bool) (j t : ℕ) → to_i32 (rounded (odd 53 s (2 ^ 52 + t) j 1074)) ≡ clamped s (size (suc j) t)
between s j t =
    of_value (odd 53 s q j 1074) s (q * 2 ^ j) (2 ^ 1074) (pow_pos 1074) (odd_sign 53 s q j 1074)
    ∙ ap (λ (y : ℕ). clamped s y) (half-same (q * 2 ^ j) (2 ^ 1074) (q * 2 ^ suc j) (2 ^ 1075) (pow_pos 1074) (pow_pos 1075) cross)
    ∙ sym (clamped_min s (half_up (q * 2 ^ suc j) (2 ^ 1075)))
  where
    q : ℕ
    q = 2 ^ 52 + t

    cross : q * 2 ^ j * 2 ^ 1075 ≡ q * 2 ^ suc j * 2 ^ 1074
    cross =
        ap (λ (y : ℕ). q * 2 ^ j * y) (pow-succ' 2 1074)
        ∙ sym (mul_assoc (q * 2 ^ j) 2 (2 ^ 1074))
        ∙ ap (λ (y : ℕ). y * 2 ^ 1074) (mul_assoc q (2 ^ j) 2 ∙ ap (λ (y : ℕ). q * y) (sym (pow-suc 2 j)))

of_fields_lem : (s : Bool) (x t : ℕ) → t < 2 ^ 52 → T (not (is_nan (of_fields binary64 s x t))) → to_i32 (rounded (of_fields binary64 s x t)) ≡ clamped s (size x t)
unfolding of_fields
of_fields_lem s zero t h n = at_zero s t h
of_fields_lem s (suc j) t h n = go (eqb (suc j) 2047) (eqb→eq (suc j) 2047) n
  where
    go : (b : Bool) → (T b → suc j ≡ 2047) → T (not (is_nan (cond b (cond (eqb t 0) (inf s) nan) (odd 53 s (2 ^ 52 + t) j 1074))))
        → to_i32 (rounded (cond b (cond (eqb t 0) (inf s) nan) (odd 53 s (2 ^ 52 + t) j 1074))) ≡ clamped s (size (suc j) t)
    go true e k = at_top s t k ∙ ap (λ (x : ℕ). clamped s (size x t)) (sym (e tt))
    go false e k = between s j t

of_bits_is : (b : ℕ) → of_bits binary64 b ≡ of_fields binary64 (leb (2 ^ 63) b) (b % 2 ^ 63 / 2 ^ 52) (b % 2 ^ 52)
unfolding of_bits
of_bits_is b = refl

-- a value that is no NaN, by its pattern b
pub by_pattern : (p : Float) → T (fits binary64 p) → T (not (is_nan p))
    → clamped (leb (2 ^ 63) (to_bits binary64 p)) (size (to_bits binary64 p % 2 ^ 63 / 2 ^ 52) (to_bits binary64 p % 2 ^ 52)) ≡ to_i32 (rounded p)
by_pattern p f n =
    let b = to_bits binary64 p in
    let is : of_fields binary64 (leb (2 ^ 63) b) (b % 2 ^ 63 / 2 ^ 52) (b % 2 ^ 52) ≡ p = sym (of_bits_is b) ∙ of_bits-to_bits binary64 p f in
    sym (of_fields_lem (leb (2 ^ 63) b) (b % 2 ^ 63 / 2 ^ 52) (b % 2 ^ 52) (mod-lt b (pow_pos 52)) (subst (λ (v : Float). T (not (is_nan v))) (sym is) n))
    ∙ ap (λ (v : Float). to_i32 (rounded v)) is

nan-zero : pos 0 ≡ to_i32 (rounded nan)
unfolding rounded to_signed
nan-zero = refl

pub from_nan : (p : Float) → true ≡ is_nan p → pos 0 ≡ to_i32 (rounded p)
from_nan p h = nan-zero ∙ ap (λ (v : Float). to_i32 (rounded v)) (only_nan p (sym h))
