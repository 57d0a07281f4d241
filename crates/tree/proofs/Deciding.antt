-- Laws of Boolean tests, and the three ways in which two numbers compare.
use Rattle.std.proofs.Common.{ℕ, ◌<◌, arith, ◌≡◌, refl, sym, subst, ◌⊎◌, inl, inr, Bool, true, false, ◌&&◌, ◌||◌, T}
use Rattle.std.proofs.Math.Decide.{dec_lt}
use Rattle.geometry.specs.Signed.{no_way}

pub never : {X : Type 0} → true ≡ false → X
never e = absurd (subst T e tt)

pub or_split : (a b : Bool) → a || b ≡ true → (a ≡ true) ⊎ (b ≡ true)
or_split true b e = inl refl
or_split false b e = inr e

pub and_split : (a b : Bool) → a && b ≡ true → (a ≡ true) × (b ≡ true)
and_split true b e = (refl, e)
and_split false b e = no_way e

pub and-join : (a b : Bool) → a ≡ true → b ≡ true → a && b ≡ true
and-join a b e f = subst (λ (x : Bool). x && b ≡ true) (sym e) f

pub or_left : (a b : Bool) → a ≡ true → a || b ≡ true
or_left a b e = subst (λ (x : Bool). x || b ≡ true) (sym e) refl

pub or_right : (a b : Bool) → b ≡ true → a || b ≡ true
or_right true b e = refl
or_right false b e = e

pub both_ways : (a b : Bool) → (a ≡ true → b ≡ true) → (b ≡ true → a ≡ true) → a ≡ b
both_ways true b f g = sym (f refl)
both_ways false true f g = g refl
both_ways false false f g = refl

-- ---- two numbers
pub data Tri (a b : ℕ) : Type 0 where
  less : a < b → Tri a b
  equal : a ≡ b → Tri a b
  more : b < a → Tri a b

pub tri : (a b : ℕ) → Tri a b
tri a b = by (dec_lt a b) (dec_lt b a)
  where
    by : Dec (a < b) → Dec (b < a) → Tri a b
    by (yes h) d = less h
    by (no h) (yes k) = more k
    by (no h) (no k) = equal (omega arith)
