-- The tests of the order, one after the other: each early answer of the definition's three keys is what the keys' comparison gives.
use Rattle.std.proofs.Common.{◌<◌, ◌≡◌, refl, sym, ◌∙◌, true, false, ◌&&◌, ◌||◌, arith, ℤ, pos, negsuc}
use lib.Signed.{le_z, lt_z}
use borrow.Author.Tests.{ltb-true, ltb-false, lt-ltb, le-ltb, le-leb, lt-leb, eq-eqb, ne_eqb}
use Rattle.geometry.specs.Geometry.{dist}
use Rattle.geometry.specs.declared.Point.{Point}
use Rattle.tree.specs.Route.{ordered}

pub not_gt : (a b : ℤ) → lt_z b a ≡ true → le_z a b ≡ false
not_gt (pos a) (pos b) e = lt-leb a b (ltb-true b a e)
not_gt (pos a) (negsuc b) e = refl
not_gt (negsuc a) (pos b) e = sym e
not_gt (negsuc a) (negsuc b) e = lt-leb b a (ltb-true a b e)

pub not-lt : (a b : ℤ) → lt_z b a ≡ false → le_z a b ≡ true
not-lt (pos a) (pos b) e = le-leb a b (ltb-false b a e)
not-lt (pos a) (negsuc b) e = sym e
not-lt (negsuc a) (pos b) e = refl
not-lt (negsuc a) (negsuc b) e = le-leb b a (ltb-false a b e)

module _ (s p q : Point) where
  pub ord_near : dist s p < dist s q → true ≡ ordered s p q
  unfolding ordered
  ord_near h = sym (rw (lt-ltb _ _ h))

  pub ord_far : dist s q < dist s p → false ≡ ordered s p q
  unfolding ordered
  ord_far h = sym (rw (le-ltb (dist s p) (dist s q) (omega arith), ne_eqb (dist s p) (dist s q) (λ e. omega arith)))

  module _ (e : dist s p ≡ dist s q) where
    even : ordered s p q ≡ (lt_z p.xcoord q.xcoord || ((le_z p.xcoord q.xcoord && le_z q.xcoord p.xcoord) && le_z p.ycoord q.ycoord))
    unfolding ordered
    even = rw (le-ltb (dist s p) (dist s q) (omega arith), eq-eqb (dist s p) (dist s q) e)

    pub ord_left : lt_z p.xcoord q.xcoord ≡ true → true ≡ ordered s p q
    ord_left h = sym (even ∙ rw h)

    module _ (h : lt_z p.xcoord q.xcoord ≡ false) where
      pub ord_right : lt_z q.xcoord p.xcoord ≡ true → false ≡ ordered s p q
      ord_right k = sym (even ∙ rw (h, not_gt p.xcoord q.xcoord k))

      module _ (k : lt_z q.xcoord p.xcoord ≡ false) where
        pub ord_above : lt_z q.ycoord p.ycoord ≡ true → false ≡ ordered s p q
        ord_above l = sym (even ∙ rw (h, not-lt p.xcoord q.xcoord k, not-lt q.xcoord p.xcoord h, not_gt p.ycoord q.ycoord l))

        pub ord_below : lt_z q.ycoord p.ycoord ≡ false → true ≡ ordered s p q
        ord_below l = sym (even ∙ rw (h, not-lt p.xcoord q.xcoord k, not-lt q.xcoord p.xcoord h, not-lt p.ycoord q.ycoord l))
