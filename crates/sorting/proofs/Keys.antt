-- Within reach a point's key orders as the point does, and gives the point back.
use Rattle.std.proofs.Common.{ℕ, suc, ◌+◌, ◌-◌, ◌*◌, ◌/◌, ◌%◌, ◌≤◌, ◌<◌, ◌≡◌, refl, ap, ◌∙◌, Bool, true, false, not, arith, ltb, ℤ, pos, negsuc, nat_abs, ◌-ℤ◌}
use Rattle.std.proofs.Math.Decide.{dec_lt}
use Rattle.std.proofs.Math.IntN.{sub_ℕ}
use lib.Signed.{lt_z}
use borrow.Author.Tests.{lt-ltb, le-ltb}
use Rattle.tree.specs.Limits.{reach}
use Rattle.geometry.specs.declared.Point.{Point}
use Rattle.geometry.specs.Signed.{In, bias, lt_yes, lt_no, gap-bias}
use Rattle.geometry.specs.Geometry.{gap, dist}
use Rattle.geometry.specs.Laws.{Within}
use Rattle.tree.specs.Route.{ordered}
use Rattle.sorting.specs.Keys.{least, part, key_of, point_of}
use Rattle.sorting.proofs.Tests.{ord_near, ord_far, ord_left, ord_right, ord_above, ord_below}

-- ---- a coordinate as a part
abbrev K : ℕ
K = 1000001

in_reach : (z : ℤ) → nat_abs z ≤ reach → In K z
in_reach (pos n) h = record { below = omega arith }
in_reach (negsuc n) h = record { below = omega arith }

bias-some : (z : ℤ) → nat_abs z ≤ reach → 0 < bias K z
unfolding bias
bias-some (pos n) h = omega arith
bias-some (negsuc n) h = omega arith

least-bias : bias K least ≡ 1
unfolding bias
least-bias = refl

part-bias : (z : ℤ) → nat_abs z ≤ reach → gap z least + 1 ≡ bias K z
part-bias z h = omega (arith, gap-bias z least (in_reach z h) (in_reach least (omega arith)), bias-some z h, least-bias)

bias-few : (z : ℤ) → nat_abs z ≤ reach → bias K z ≤ 2000001
unfolding bias
bias-few (pos n) h = omega arith
bias-few (negsuc n) h = omega arith

pub part_small : (z : ℤ) → nat_abs z ≤ reach → gap z least < part
part_small z h = omega (arith, part-bias z h, bias-few z h)

part-lt : (x y : ℤ) → nat_abs x ≤ reach → nat_abs y ≤ reach → lt_z x y ≡ true → gap x least < gap y least
part-lt x y f g e = omega (arith, lt_yes x y (in_reach x f) (in_reach y g) e, part-bias x f, part-bias y g)

part_ge : (x y : ℤ) → nat_abs x ≤ reach → nat_abs y ≤ reach → lt_z x y ≡ false → gap y least ≤ gap x least
part_ge x y f g e = omega (arith, lt_no x y (in_reach x f) (in_reach y g) e, part-bias x f, part-bias y g)

sub_back : (n : ℕ) → sub_ℕ (n + reach) reach ≡ pos n
sub_back n =
    let l : reach ≤ n + reach = omega arith in
    let t : ltb (n + reach) reach ≡ false = le-ltb _ _ l in
    let e : n + reach - reach ≡ n = omega arith in
    rw t (ap pos e)

sub_under : (m n : ℕ) → m + suc n ≡ reach → sub_ℕ m reach ≡ negsuc n
sub_under m n h =
    let l : m < reach = omega arith in
    let t : ltb m reach ≡ true = lt-ltb _ _ l in
    let e : reach - suc m ≡ n = omega arith in
    rw t (ap negsuc e)

part-back : (z : ℤ) → nat_abs z ≤ reach → pos (gap z least) -ℤ pos reach ≡ z
unfolding bias
part-back (pos n) h =
    let e : gap (pos n) least ≡ n + reach = omega (arith, part-bias (pos n) h) in
    (λ i. pos (e i) -ℤ pos reach) ∙ sub_back n
part-back (negsuc n) h =
    let e : gap (negsuc n) least ≡ reach - suc n = omega (arith, part-bias (negsuc n) h) in
    (λ i. pos (e i) -ℤ pos reach) ∙ sub_under (reach - suc n) n (omega arith)

-- ---- the order of keys
module _ (s p q : Point) (f : Within reach p) (g : Within reach q) where
  abbrev px : ℤ
  px = p.xcoord

  abbrev qx : ℤ
  qx = q.xcoord

  abbrev py : ℤ
  py = p.ycoord

  abbrev qy : ℤ
  qy = q.ycoord

  by_y : (t : Bool) → dist s p ≡ dist s q → lt_z px qx ≡ false → lt_z qx px ≡ false → lt_z qy py ≡ t → ltb (key_of s q) (key_of s p) ≡ not (ordered s p q)
  unfolding key_of
  by_y true e h k l =
      let lt : key_of s q < key_of s p = omega (arith, part_ge px qx f.xcoord g.xcoord h, part_ge qx px g.xcoord f.xcoord k, part-lt qy py g.ycoord f.ycoord l) in
      lt-ltb _ _ lt ∙ ap not (ord_above s p q e h k l)
  by_y false e h k l =
      let le : key_of s p ≤ key_of s q = omega (arith, part_ge px qx f.xcoord g.xcoord h, part_ge qx px g.xcoord f.xcoord k, part_ge qy py g.ycoord f.ycoord l) in
      le-ltb _ _ le ∙ ap not (ord_below s p q e h k l)

  by_right : (t : Bool) → dist s p ≡ dist s q → lt_z px qx ≡ false → lt_z qx px ≡ t → ltb (key_of s q) (key_of s p) ≡ not (ordered s p q)
  unfolding key_of
  by_right true e h k =
      let lt : key_of s q < key_of s p = omega (arith, part-lt qx px g.xcoord f.xcoord k, part_small qy g.ycoord) in
      lt-ltb _ _ lt ∙ ap not (ord_right s p q e h k)
  by_right false e h k = by_y (lt_z qy py) e h k refl

  by_left : (t : Bool) → dist s p ≡ dist s q → lt_z px qx ≡ t → ltb (key_of s q) (key_of s p) ≡ not (ordered s p q)
  unfolding key_of
  by_left true e h =
      let le : key_of s p ≤ key_of s q = omega (arith, part-lt px qx f.xcoord g.xcoord h, part_small py f.ycoord) in
      le-ltb _ _ le ∙ ap not (ord_left s p q e h)
  by_left false e h = by_right (lt_z qx px) e h refl

  by_dist : Dec (dist s p < dist s q) → Dec (dist s q < dist s p) → ltb (key_of s q) (key_of s p) ≡ not (ordered s p q)
  unfolding key_of
  by_dist (yes h) d =
      let le : key_of s p ≤ key_of s q = omega (arith, part_small px f.xcoord, part_small py f.ycoord) in
      le-ltb _ _ le ∙ ap not (ord_near s p q h)
  by_dist (no h) (yes k) =
      let lt : key_of s q < key_of s p = omega (arith, part_small qx g.xcoord, part_small qy g.ycoord) in
      lt-ltb _ _ lt ∙ ap not (ord_far s p q k)
  by_dist (no h) (no k) = by_left (lt_z px qx) (omega arith) refl

  pub key_order : ltb (key_of s q) (key_of s p) ≡ not (ordered s p q)
  key_order = by_dist (dec_lt (dist s p) (dist s q)) (dec_lt (dist s q) (dist s p))

pub key_back : (s p : Point) → Within reach p → point_of (key_of s p) ≡ p
unfolding key_of point_of
key_back s p f =
    let x = part_small p.xcoord f.xcoord in
    let y = part_small p.ycoord f.ycoord in
    let ey : key_of s p % part ≡ gap p.ycoord least = omega arith in
    let ed : key_of s p / part ≡ dist s p * part + gap p.xcoord least = omega arith in
    let em : (dist s p * part + gap p.xcoord least) % part ≡ gap p.xcoord least = omega arith in
    let ex : key_of s p / part % part ≡ gap p.xcoord least = (λ i. ed i % part) ∙ em in
    λ i. record {
      xcoord = ((λ j. pos (ex j) -ℤ pos reach) ∙ part-back p.xcoord f.xcoord) i;
      ycoord = ((λ j. pos (ey j) -ℤ pos reach) ∙ part-back p.ycoord f.ycoord) i;
    }
