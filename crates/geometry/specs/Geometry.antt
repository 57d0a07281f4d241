-- Points, intervals and rectangles, over ℤ (document 01, "Points and rectangles"; the documentation of point.rs and interval.rs). Definitions only.
use Rattle.std.specs.Prelude.{ℕ, ◌+◌, Bool, ◌&&◌, ◌||◌, ℤ, pos, nat_abs, ◌-ℤ◌}
use Rattle.std.specs.Int.{int_min, int_max}
use Rattle.std.specs.Int.Signed.{le_z, lt_z}
use Rattle.geometry.specs.declared.Point.{Point}
use Rattle.geometry.specs.declared.Interval.{Interval}
use Rattle.geometry.specs.declared.Rectangle.{Rectangle}

-- |a - b|
unfoldable pub gap : ℤ → ℤ → ℕ
gap a b = nat_abs (a -ℤ b)

-- "d(p, q) = |px − qx| + |py − qy|."
unfoldable pub dist : Point → Point → ℕ
dist p q = gap p.xcoord q.xcoord + gap p.ycoord q.ycoord

-- the lesser and the greater of two numbers: the library's words, which proofs leave closed
unfoldable pub min_z : ℤ → ℤ → ℤ
min_z a b = int_min a b

unfoldable pub max_z : ℤ → ℤ → ℤ
max_z a b = int_max a b

-- the interval of two numbers
abbrev pub hull : ℤ → ℤ → Interval
hull a b = record { lb = min_z a b; ub = max_z a b }

-- "The box of p and q has the min and max of each coordinate."
abbrev pub box : Point → Point → Rectangle
box p q = record { xcoord = hull p.xcoord q.xcoord; ycoord = hull p.ycoord q.ycoord }

-- v clipped to an interval
unfoldable pub clip : Interval → ℤ → ℤ
clip i v = max_z i.lb (min_z v i.ub)

-- "nearest(box, p) clips each coordinate to the box"
abbrev pub nearest : Rectangle → Point → Point
nearest b p = record { xcoord = clip b.xcoord p.xcoord; ycoord = clip b.ycoord p.ycoord }

-- "a box's distance to p is d(nearest, p)."
abbrev pub dist_to : Rectangle → Point → ℕ
dist_to b p = dist (nearest b p) p

-- "lower above upper"
unfoldable pub invalid : Interval → Bool
invalid i = lt_z i.ub i.lb

-- within the bounds, "ends included"
unfoldable pub inside : Interval → ℤ → Bool
inside i v = le_z i.lb v && le_z v i.ub

-- "A keepout contains a point when both coordinates lie within its bounds, ends included."
unfoldable pub contains : Rectangle → Point → Bool
contains k p = inside k.xcoord p.xcoord && inside k.ycoord p.ycoord

-- the interval o contains the interval s
unfoldable pub covers : Interval → Interval → Bool
covers o s = le_z o.lb s.lb && le_z s.ub o.ub

-- "It blocks a box when its x interval contains the box's and the box's y interval contains its own, or the same with x and y exchanged."
unfoldable pub blocks : Rectangle → Rectangle → Bool
blocks k b =
    (covers k.xcoord b.xcoord && covers b.ycoord k.ycoord)
    || (covers k.ycoord b.ycoord && covers b.xcoord k.xcoord)

abbrev pub eq_z : ℤ → ℤ → Bool
eq_z a b = le_z a b && le_z b a

-- equal in both coordinates
unfoldable pub same : Point → Point → Bool
same p q = eq_z p.xcoord q.xcoord && eq_z p.ycoord q.ycoord

abbrev pub origin : Point
origin = record { xcoord = pos 0; ycoord = pos 0 }
