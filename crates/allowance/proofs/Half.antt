-- Laws of `half_up`: what it gives is the nearest whole number, halves going up; it depends on the fraction's value alone; and over a
-- power of two it is what a shift, plus one, halved gives. Assumes nothing.
use Rattle.std.proofs.Common.{◌≡◌, sym, ap, ◌∙◌, ℕ, suc, ◌+◌, ◌*◌, ◌/◌, ◌^◌, ◌≤◌, ◌<◌, mul_comm, mul_left_comm, add-mul, pow-suc, div-lt_iff_lt-mul, le-div_iff_mul-le, div-mul-le_self, arith, lit<, pow_pos}
use Rattle.std.proofs.Math.Nat.{mul-mul-mul_comm, pow-succ', div-eq_of_lt, add-div_right, div-div-eq-div-mul, mul-div-mul_left, lt-div-mul-add}
use lib.Ieee.Nearest.{div_same}
use Rattle.allowance.specs.Allowance.{half_up}

twice_pos : (c : ℕ) → 0 < c → 0 < 2 * c
twice_pos c h = omega arith

-- half_up a c - 1 / 2 ≤ a / c < half_up a c + 1 / 2
pub half-nearest : (a c : ℕ) → 0 < c → (2 * (half_up a c * c) ≤ 2 * a + c) × (2 * a < 2 * (half_up a c * c) + c)
unfolding half_up
half-nearest a c C =
    let n : ℕ = (2 * a + c) / (2 * c) in
    let e : n * (2 * c) ≡ 2 * (n * c) = mul_left_comm n 2 c in
    (omega (arith, div-mul-le_self (2 * a + c) (2 * c)), omega (arith, lt-div-mul-add {a = 2 * a + c} (twice_pos c C)))

-- equal fractions round alike
pub half-same : (a c b d : ℕ) → 0 < c → 0 < d → a * d ≡ b * c → half_up a c ≡ half_up b d
unfolding half_up
half-same a c b d C D e = div_same (2 * a + c) (2 * c) (2 * b + d) (2 * d) (twice_pos c C) (twice_pos d D) cross
  where
    open_up : (x y z : ℕ) → (2 * x + y) * (2 * z) ≡ 4 * (x * z) + 2 * (y * z)
    open_up x y z = omega (arith, add-mul (2 * x) y (2 * z), mul-mul-mul_comm 2 x 2 z, mul_left_comm y 2 z)

    cross : (2 * a + c) * (2 * d) ≡ (2 * b + d) * (2 * c)
    cross = omega (arith, open_up a c d, open_up b d c, mul_comm c d)

-- less than a half is 0
pub half-none : (a c : ℕ) → 2 * a < c → half_up a c ≡ 0
unfolding half_up
half-none a c h = div-eq_of_lt {n = 2 * a + c} {m = 2 * c} (omega arith)

-- n at least rounds to n at least
pub half-least : (n a c : ℕ) → 0 < c → n * c ≤ a → n ≤ half_up a c
unfolding half_up
half-least n a c C h = (le-div_iff_mul-le (twice_pos c C)).1 (omega (arith, mul_left_comm n 2 c))

-- below n rounds to n at most
pub half-most : (n a c : ℕ) → 0 < c → a < n * c → half_up a c ≤ n
unfolding half_up
half-most n a c C h =
    let few : 2 * a + c < (n + 1) * (2 * c) = omega (arith, add-mul n 1 (2 * c), mul_left_comm n 2 c) in
    omega (arith, (div-lt_iff_lt-mul (twice_pos c C)).1 few)

-- over 2 ^ (k + 1): the digits from the half on, one more, halved
pub half_shift : (q k : ℕ) → (q / 2 ^ k + 1) / 2 ≡ half_up q (2 ^ suc k)
unfolding half_up
half_shift q k =
    let e : 2 * (q + 2 ^ k) ≡ 2 * q + 2 ^ suc k = omega (arith, pow-succ' 2 k) in
    ap (λ (x : ℕ). x / 2) (sym (add-div_right q (pow_pos k)))
    ∙ div-div-eq-div-mul (q + 2 ^ k) (2 ^ k) 2
    ∙ ap (λ (x : ℕ). (q + 2 ^ k) / x) (sym (pow-suc 2 k))
    ∙ sym (mul-div-mul_left (q + 2 ^ k) (2 ^ suc k) (lit< tt))
    ∙ ap (λ (x : ℕ). x / (2 * 2 ^ suc k)) e
