-- Laws of one interval within another: what contains an interval contains its numbers.
-- As in Laws.antt, numbers go to ℕ by a bias above those at hand.
use Rattle.std.specs.Prelude.{◌≡◌, true, ℕ, ◌≤◌, ℤ}
use Rattle.std.proofs.Common.{arith}
use Rattle.std.specs.Cmp.{first_so, second_so}
use Rattle.std.specs.Int.Signed.{le_z}
use Rattle.geometry.specs.declared.Interval.{Interval}
use Rattle.geometry.specs.Geometry.{min_z, max_z, hull, inside, covers}
use Rattle.geometry.specs.Signed.{is_true, bias, bias_inj, In, in_a, in_b, in_c, le_yes, le_in, min_in, max_in, bias-min, bias-max}

-- ---- order
pub le-back : {K : ℕ} (x y : ℤ) → In K x → In K y → bias K x ≤ bias K y → le_z x y ≡ true
le-back x y f g h = is_true (le_z x y) (le_in x y f g h).le

module _ (a b c : ℤ) where
  pub le_trans : le_z a b ≡ true → le_z b c ≡ true → le_z a c ≡ true
  le_trans e f = le-back a c (in_a a b c) (in_c a b c) (omega (arith, le_yes a b (in_a a b c) (in_b a b c) e, le_yes b c (in_b a b c) (in_c a b c) f))

  le-min-left : le_z a (min_z b c) ≡ true → le_z a b ≡ true
  le-min-left e = le-back a b (in_a a b c) (in_b a b c) (omega (arith, le_yes a (min_z b c) (in_a a b c) (min_in b c (in_b a b c) (in_c a b c)) e, bias-min b c (in_b a b c) (in_c a b c)))

  max-le-left : le_z (max_z b c) a ≡ true → le_z b a ≡ true
  max-le-left e = le-back b a (in_b a b c) (in_a a b c) (omega (arith, le_yes (max_z b c) a (max_in b c (in_b a b c) (in_c a b c)) (in_a a b c) e, bias-max b c (in_b a b c) (in_c a b c)))

  le-min : le_z a b ≡ true → le_z a c ≡ true → le_z a (min_z b c) ≡ true
  le-min e f = le-back a (min_z b c) (in_a a b c) (min_in b c (in_b a b c) (in_c a b c)) (omega (arith, le_yes a b (in_a a b c) (in_b a b c) e, le_yes a c (in_a a b c) (in_c a b c) f, bias-min b c (in_b a b c) (in_c a b c)))

  max-le : le_z b a ≡ true → le_z c a ≡ true → le_z (max_z b c) a ≡ true
  max-le e f = le-back (max_z b c) a (max_in b c (in_b a b c) (in_c a b c)) (in_a a b c) (omega (arith, le_yes b a (in_b a b c) (in_a a b c) e, le_yes c a (in_c a b c) (in_a a b c) f, bias-max b c (in_b a b c) (in_c a b c)))

-- ---- intervals
module _ (o : Interval) (a b : ℤ) where
  -- an interval that contains that of a and b has a
  pub covers-hull : covers o (hull a b) ≡ true → inside o a ≡ true
  unfolding covers inside
  covers-hull e =
      rw (le-min-left o.lb a b (first_so (le_z o.lb (min_z a b)) (le_z (max_z a b) o.ub) e), max-le-left o.ub a b (second_so (le_z o.lb (min_z a b)) (le_z (max_z a b) o.ub) e))

  -- one that has both contains theirs
  pub hull_covered : inside o a ≡ true → inside o b ≡ true → covers o (hull a b) ≡ true
  unfolding covers inside
  hull_covered e f =
      rw (
        le-min o.lb a b (first_so (le_z o.lb a) (le_z a o.ub) e) (first_so (le_z o.lb b) (le_z b o.ub) f),
        max-le o.ub a b (second_so (le_z o.lb a) (le_z a o.ub) e) (second_so (le_z o.lb b) (le_z b o.ub) f),
      )

pub hull-has : (a b : ℤ) → inside (hull a b) a ≡ true
unfolding inside
hull-has a b =
    rw (
      le-back (min_z a b) a (min_in a b (in_a a b b) (in_b a b b)) (in_a a b b) (omega (arith, bias-min a b (in_a a b b) (in_b a b b))),
      le-back a (max_z a b) (in_a a b b) (max_in a b (in_a a b b) (in_b a b b)) (omega (arith, bias-max a b (in_a a b b) (in_b a b b))),
    )

-- ---- of two numbers exchanged
pub min-sym : (a b : ℤ) → min_z a b ≡ min_z b a
min-sym a b = bias_inj (min_z a b) (min_z b a) (min_in a b (in_a a b b) (in_b a b b)) (min_in b a (in_b a b b) (in_a a b b)) (omega (arith, bias-min a b (in_a a b b) (in_b a b b), bias-min b a (in_b a b b) (in_a a b b)))

pub max-sym : (a b : ℤ) → max_z a b ≡ max_z b a
max-sym a b = bias_inj (max_z a b) (max_z b a) (max_in a b (in_a a b b) (in_b a b b)) (max_in b a (in_b a b b) (in_a a b b)) (omega (arith, bias-max a b (in_a a b b) (in_b a b b), bias-max b a (in_b a b b) (in_a a b b)))
