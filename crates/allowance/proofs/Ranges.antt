-- The three ranges of the biased exponent in `magnitude`: below a half the answer is 0, from 2 ^ 31 on it is 2 ^ 31, and between them the
-- value is q over a power of two, which `half_shift` rounds. Assumes nothing.
use Rattle.std.proofs.Common.{◌≡◌, sym, ap, ◌∙◌, ℕ, suc, ◌+◌, ◌-◌, ◌*◌, ◌/◌, ◌^◌, ◌≤◌, ◌<◌, min, le_trans, le_of_eq, lt_of_lt_of_le, mul_assoc, mul-le-mul_right, le-add_right, arith, lit<, pow-add, pow_pos, pow_mono, shl_lt}
use Rattle.std.proofs.Math.Nat.{mul-lt-mul_of_pos_left}
use Rattle.allowance.specs.Allowance.{half_up}
use Rattle.allowance.proofs.Half.{half-same, half-none, half-least, half-most, half_shift}

-- what `magnitude` ensures
abbrev pub size : ℕ → ℕ → ℕ
size e t = min (half_up ((2 ^ 52 + t) * 2 ^ e) (2 ^ 1075)) (2 ^ 31)

module _ (e t : ℕ) (t-low : t < 2 ^ 52) where
  -- q * 2 ^ e, with q below 2 ^ 53, is below 2 ^ n where 53 + e is at most n
  below : (n : ℕ) → 53 + e ≤ n → (2 ^ 52 + t) * 2 ^ e < 2 ^ n
  below n h = lt_of_lt_of_le (shl_lt 53 e (omega arith)) (pow_mono h)

  pub size_none : e < 1022 → 0 ≡ size e t
  size_none h = omega (arith, half-none ((2 ^ 52 + t) * 2 ^ e) (2 ^ 1075) (mul-lt-mul_of_pos_left (below 1074 (omega arith)) (lit< tt)))

  pub size-full : 1054 ≤ e → 2 ^ 31 ≡ size e t
  size-full h = omega (arith, half-least (2 ^ 31) ((2 ^ 52 + t) * 2 ^ e) (2 ^ 1075) (pow_pos 1075) large)
    where
      large : 2 ^ 31 * 2 ^ 1075 ≤ (2 ^ 52 + t) * 2 ^ e
      large = le_trans (pow_mono {i = 1106} {j = 52 + e} (omega arith)) (le_trans (le_of_eq (pow-add 2 52 e)) (mul-le-mul_right (2 ^ e) (le-add_right (2 ^ 52) t)))

  pub size_mid : 1022 ≤ e → e < 1054 → ((2 ^ 52 + t) / 2 ^ (1074 - e) + 1) / 2 ≡ size e t
  size_mid lo hi =
      half_shift q k
      ∙ half-same q (2 ^ suc k) (q * 2 ^ e) (2 ^ 1075) (pow_pos (suc k)) (pow_pos 1075) cross
      ∙ omega (arith, half-most (2 ^ 31) (q * 2 ^ e) (2 ^ 1075) (pow_pos 1075) (below 1106 (omega arith)))
    where
      q : ℕ
      q = 2 ^ 52 + t

      k : ℕ
      k = 1074 - e

      join : 1075 ≡ e + suc k
      join = omega arith

      cross : q * 2 ^ 1075 ≡ q * 2 ^ e * 2 ^ suc k
      cross = ap (λ (x : ℕ). q * 2 ^ x) join ∙ ap (λ (x : ℕ). q * x) (pow-add 2 e (suc k)) ∙ sym (mul_assoc q (2 ^ e) (2 ^ suc k))

pub ruleset sizes = (size_none, size_mid, size-full)
