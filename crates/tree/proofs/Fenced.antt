-- A keepout that touches neither the box of a branch nor a line of the point stops nothing on the branch; for every rectangle, also one with lower above upper.
use Rattle.std.proofs.Common.{◌≡◌, refl, sym, ap, ◌∙◌, Bool, true, false, ◌&&◌, ◌||◌, ⊎_elim, arith, ℤ}
use lib.Signed.{le_z}
use Rattle.geometry.specs.declared.Point.{Point}
use Rattle.geometry.specs.declared.Interval.{Interval}
use Rattle.geometry.specs.declared.Rectangle.{Rectangle}
use Rattle.geometry.specs.Geometry.{min_z, max_z, hull, box, clip, inside, contains, covers, blocks}
use Rattle.geometry.specs.Signed.{in_a, in_b, in_c, min_in, max_in, clip_in, bias-min, bias-max, bias-clip}
use Rattle.geometry.specs.Intervals.{le-back, le_trans, covers-hull, hull_covered, hull-has, min-sym, max-sym}
use Rattle.tree.specs.Search.{nearest_on, stops}
use Rattle.tree.proofs.Deciding.{and_split, and-join, or_split, or_left, or_right}

-- two intervals meet, or the first lies in the second
abbrev pub touches : Interval → Interval → Bool
touches i b = (le_z i.lb b.ub && le_z b.lb i.ub) || covers b i

abbrev pub touching : Rectangle → Rectangle → Bool
touching k b = touches k.xcoord b.xcoord && touches k.ycoord b.ycoord

-- an interval of the keepout has the point's coordinate
abbrev pub in_line : Rectangle → Point → Bool
in_line k q = inside k.xcoord q.xcoord || inside k.ycoord q.ycoord

module _ (i b : Interval) (n p : ℤ) where
  share : inside i n ≡ true → inside b n ≡ true → touches i b ≡ true
  unfolding inside
  share e f =
      let x = and_split (le_z i.lb n) (le_z n i.ub) e in
      let y = and_split (le_z b.lb n) (le_z n b.ub) f in
      or_left _ _ (and-join _ _ (le_trans i.lb n b.ub x.0 y.1) (le_trans b.lb n i.ub y.0 x.1))

  over : covers i (hull n p) ≡ true → inside b n ≡ true → touches i b ≡ true
  over e f = share (covers-hull i n p e) f

  under : covers (hull n p) i ≡ true → inside b n ≡ true → inside b p ≡ true → touches i b ≡ true
  unfolding covers
  under e f g =
      let x = and_split (le_z (min_z n p) i.lb) (le_z i.ub (max_z n p)) e in
      let y = and_split (le_z b.lb (min_z n p)) (le_z (max_z n p) b.ub) (hull_covered b n p f g) in
      or_right (le_z i.lb b.ub && le_z b.lb i.ub) _ (and-join _ _ (le_trans b.lb (min_z n p) i.lb y.0 x.0) (le_trans i.ub (max_z n p) b.ub x.1 y.1))

-- the nearest point, P and C lie in the box
hull-clip : (a b v : ℤ) → inside (hull a b) (clip (hull a b) v) ≡ true
unfolding inside
hull-clip a b v =
    let A = in_a a b v in
    let B = in_b a b v in
    let m = min_in a b A B in
    let M = max_in a b A B in
    let X = in_c a b v in
    and-join _ _
    (le-back (min_z a b) (clip (hull a b) v) m (clip_in (hull a b) v m M X) (omega (arith, bias-clip (hull a b) v m M X)))
    (le-back (clip (hull a b) v) (max_z a b) (clip_in (hull a b) v m M X) M (omega (arith, bias-clip (hull a b) v m M X, bias-min a b A B, bias-max a b A B)))

hull_end : (a b : ℤ) → inside (hull a b) b ≡ true
hull_end a b = ap (λ (i : Interval). inside i b) (λ j. record { lb = min-sym a b j; ub = max-sym a b j }) ∙ hull-has b a

-- a keepout against a branch: what stops it touches the branch's box, or has a line of the point
module _ (k : Rectangle) (q P C : Point) where
  abbrev N : Point
  N = nearest_on P C q

  in_box : contains k N ≡ true → touching k (box P C) ≡ true
  unfolding contains
  in_box e =
      let r = and_split (inside k.xcoord N.xcoord) (inside k.ycoord N.ycoord) e in
      and-join _ _ (share k.xcoord (box P C).xcoord N.xcoord N.xcoord r.0 (hull-clip P.xcoord C.xcoord q.xcoord))
      (share k.ycoord (box P C).ycoord N.ycoord N.ycoord r.1 (hull-clip P.ycoord C.ycoord q.ycoord))

  -- the box of N with a point of the branch's box
  part : (z : Point) → inside (box P C).xcoord z.xcoord ≡ true → inside (box P C).ycoord z.ycoord ≡ true → blocks k (box N z) ≡ true → touching k (box P C) ≡ true
  unfolding blocks
  part z fx fy e =
      ⊎_elim
      (λ h. let r = and_split (covers k.xcoord (hull N.xcoord z.xcoord)) (covers (hull N.ycoord z.ycoord) k.ycoord) h in
      and-join _ _ (over k.xcoord (box P C).xcoord N.xcoord z.xcoord r.0 nx) (under k.ycoord (box P C).ycoord N.ycoord z.ycoord r.1 ny fy))
      (λ h. let r = and_split (covers k.ycoord (hull N.ycoord z.ycoord)) (covers (hull N.xcoord z.xcoord) k.xcoord) h in
      and-join _ _ (under k.xcoord (box P C).xcoord N.xcoord z.xcoord r.1 nx fx) (over k.ycoord (box P C).ycoord N.ycoord z.ycoord r.0 ny))
      (or_split (covers k.xcoord (hull N.xcoord z.xcoord) && covers (hull N.ycoord z.ycoord) k.ycoord) _ e)
    where
      nx : inside (box P C).xcoord N.xcoord ≡ true
      nx = hull-clip P.xcoord C.xcoord q.xcoord

      ny : inside (box P C).ycoord N.ycoord ≡ true
      ny = hull-clip P.ycoord C.ycoord q.ycoord

  -- an interval that contains that of a and b has b
  has_end : (o : Interval) (a b : ℤ) → covers o (hull a b) ≡ true → inside o b ≡ true
  has_end o a b e = covers-hull o b a (ap (covers o) (λ j. record { lb = min-sym b a j; ub = max-sym b a j }) ∙ e)

  -- the box of N with the point
  line : blocks k (box N q) ≡ true → in_line k q ≡ true
  unfolding blocks
  line e =
      ⊎_elim
      (λ h. or_left _ _ (has_end k.xcoord N.xcoord q.xcoord (and_split (covers k.xcoord (hull N.xcoord q.xcoord)) _ h).0))
      (λ h. or_right (inside k.xcoord q.xcoord) _ (has_end k.ycoord N.ycoord q.ycoord (and_split (covers k.ycoord (hull N.ycoord q.ycoord)) _ h).0))
      (or_split (covers k.xcoord (hull N.xcoord q.xcoord) && covers (hull N.ycoord q.ycoord) k.ycoord) _ e)

  pub fenced : touching k (box P C) ≡ false → in_line k q ≡ false → stops q P C N k ≡ false
  unfolding stops
  fenced off out =
      rw (
        not_so (contains k N) (λ e. sym (in_box e) ∙ off),
        not_so (blocks k (box N q)) (λ e. sym (line e) ∙ out),
        not_so (blocks k (box N P)) (λ e. sym (part P (hull-has P.xcoord C.xcoord) (hull-has P.ycoord C.ycoord) e) ∙ off),
        not_so (blocks k (box N C)) (λ e. sym (part C (hull_end P.xcoord C.xcoord) (hull_end P.ycoord C.ycoord) e) ∙ off),
      )
    where
      not_so : (a : Bool) → (a ≡ true → true ≡ false) → a ≡ false
      not_so true f = f refl
      not_so false f = refl
