-- A whole number with a sign, `as i32`: what clamping gives, that 2 ^ 31 stands for every larger magnitude, and the two answers of
-- `signed`. The code makes -n in 64 bits, since 2 ^ 31 is no `i32` and -(2 ^ 31) is one. Assumes nothing.
use Rattle.std.proofs.Common.{◌≡◌, refl, sym, ap, ◌∙◌, Bool, true, false, cond, ℕ, zero, suc, ◌-◌, ◌*◌, ◌^◌, ◌≤◌, ◌<◌, min, mul-one, div-one, arith, ℤ, pos, negsuc, neg_ℤ, ◌-ℤ◌, pow_pos}
use lib.Ieee.{fin, to_signed}
use borrow.Author.Tests.{lt-ltb}
use mir.Syntax.{Width, w32, w64}
use mir.Val.{SFits, hbits, to_z, of_z}
use mir.ValLaws.{to_z_pos, to_z-of_z}
use Rattle.allowance.specs.Allowance.{to_i32}

abbrev pub clamped : Bool → ℕ → ℤ
clamped s n = to_i32 (fin s n (pos 0))

pub clamped_is : (s : Bool) (n : ℕ) → clamped s n ≡ cond s (neg_ℤ (pos (min n (2 ^ 31)))) (pos (min n (2 ^ 31 - 1)))
unfolding to_signed
clamped_is s n = ap (λ (k : ℕ). cond s (neg_ℤ (pos (min k (2 ^ 31)))) (pos (min k (2 ^ 31 - 1)))) (div-one (n * 1) ∙ mul-one n)

pub clamped_min : (s : Bool) (n : ℕ) → clamped s (min n (2 ^ 31)) ≡ clamped s n
clamped_min s n = clamped_is s (min n (2 ^ 31)) ∙ go s ∙ sym (clamped_is s n)
  where
    low : min (min n (2 ^ 31)) (2 ^ 31) ≡ min n (2 ^ 31)
    low = omega arith

    high : min (min n (2 ^ 31)) (2 ^ 31 - 1) ≡ min n (2 ^ 31 - 1)
    high = omega arith

    go : (b : Bool) → cond b (neg_ℤ (pos (min (min n (2 ^ 31)) (2 ^ 31)))) (pos (min (min n (2 ^ 31)) (2 ^ 31 - 1))) ≡ cond b (neg_ℤ (pos (min n (2 ^ 31)))) (pos (min n (2 ^ 31 - 1)))
    go true = ap (λ (k : ℕ). neg_ℤ (pos k)) low
    go false = ap pos high

-- the code's -n, in 64 bits and then in 32
minus_is : (n : ℕ) → pos 0 -ℤ pos n ≡ neg_ℤ (pos n)
minus_is zero = refl
minus_is (suc k) = rw (lt-ltb 0 (suc k) (omega arith)) (ap negsuc (omega arith))

minus-fits : (w : Width) (n : ℕ) → n ≤ 2 ^ hbits w → SFits w (neg_ℤ (pos n))
minus-fits w zero h = record { sfits = pow_pos (hbits w) }
minus-fits w (suc k) h = record { sfits = h }

pub clamped_minus : (n : ℕ) → n ≤ 2 ^ 31 → to_z w32 (of_z w32 (to_z w64 (of_z w64 (pos 0 -ℤ to_z w64 n)))) ≡ clamped true n
clamped_minus n h =
    let wide : n < 2 ^ 63 = omega arith in
    let e : n ≡ min n (2 ^ 31) = omega arith in
    ap (λ (z : ℤ). to_z w32 (of_z w32 (to_z w64 (of_z w64 (pos 0 -ℤ z))))) (to_z_pos w64 n wide)
    ∙ ap (λ (z : ℤ). to_z w32 (of_z w32 (to_z w64 (of_z w64 z)))) (minus_is n)
    ∙ ap (λ (z : ℤ). to_z w32 (of_z w32 z)) (to_z-of_z w64 (neg_ℤ (pos n)) (minus-fits w64 n (omega arith)))
    ∙ to_z-of_z w32 (neg_ℤ (pos n)) (minus-fits w32 n h)
    ∙ ap (λ (k : ℕ). neg_ℤ (pos k)) e
    ∙ sym (clamped_is true n)

pub clamped_plus : (n : ℕ) → to_z w32 (min n (2 ^ 31 - 1)) ≡ clamped false n
clamped_plus n = to_z_pos w32 (min n (2 ^ 31 - 1)) (omega arith) ∙ sym (clamped_is false n)

pub ruleset clamps = (clamped_minus, clamped_plus)
