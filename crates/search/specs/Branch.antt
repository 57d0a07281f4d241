-- One branch: the keepouts against it, the take rule, and what is found with it. Each is a definition of tree/specs/Search on the structs of the code.
use Rattle.std.specs.Prelude.{ℕ, ◌+◌, ◌≤◌, Bool, true, false, not, ◌&&◌, ◌||◌, cond, List, get_or, leb, ltb, ℤ, pos}
use Rattle.std.specs.Int.Signed.{le_z}
use Rattle.geometry.specs.declared.Point.{Point}
use Rattle.geometry.specs.declared.Rectangle.{Rectangle}
use Rattle.geometry.specs.Geometry.{dist, inside, contains, blocks, same}
use Rattle.geometry.specs.Laws.{Within}
use Rattle.tree.specs.Limits.{longest_path, reach}
use Rattle.tree.specs.Search.{nearest_on, blocked}
use Rattle.search.specs.declared.Join.{Join}
use Rattle.search.specs.declared.Join.TheVariants.{Onto, Split}
use Rattle.search.specs.declared.Best.{Best}
use Rattle.search.specs.declared.Query.{Query}
use Rattle.search.specs.declared.NodeView.{NodeView}
use Rattle.search.specs.declared.Examined.{Examined}

-- ---- keepouts
-- a keepout against a point and three boxes: `stops` of tree/specs/Search.antt, once the boxes are made (`stops_is`, proofs/Keepouts.antt)
unfoldable pub stops_by : Rectangle → Point → Rectangle → Rectangle → Rectangle → Bool
stops_by k n a b c = contains k n || (blocks k a || (blocks k b || blocks k c))

-- an interval of the keepout has the point's coordinate
abbrev pub beside_of : Rectangle → Point → Bool
beside_of k n = inside k.xcoord n.xcoord || inside k.ycoord n.ycoord

abbrev pub keepout_at : List ℤ → ℕ → Rectangle
keepout_at l i =
    record { xcoord = record { lb = get_or l i (pos 0); ub = get_or l (i + 1) (pos 0) }; ycoord = record { lb = get_or l (i + 2) (pos 0); ub = get_or l (i + 3) (pos 0) } }

-- ---- one branch
abbrev pub join_at : Point → NodeView → NodeView → Join
join_at n P C = cond (same n P.point) (Onto P.node) (cond (same n C.point) (Onto C.node) (Split P.node C.node))

abbrev pub take_it : Bool → ℕ → ℕ → ℕ → Best → Bool
take_it w D L limit b = cond w (cond b.within (ltb D b.best) true) ((not b.within && leb L limit) && ltb D b.best)

-- the run to q by way of n
abbrev pub run_to : Point → NodeView → Point → ℕ
run_to q P n = P.path + dist P.point n + dist n q

abbrev pub is_taken : Query → NodeView → Point → Best → Bool
is_taken a P n b = take_it (le_z (pos (run_to a.point P n)) a.allowed) (dist n a.point) (run_to a.point P n) a.limit b

unfoldable pub judge : Query → NodeView → NodeView → Point → Best → Best
judge a P C n b =
    cond (is_taken a P n b)
    (record { join = join_at n P C; best = dist n a.point; within = le_z (pos (run_to a.point P n)) a.allowed || b.within }) b

-- the branch from P to C
unfoldable pub is_blocked : List Rectangle → Query → NodeView → NodeView → Bool
is_blocked ks a P C =
    let n = nearest_on P.point C.point a.point in
    blocked ks a.point P.point C.point n

abbrev pub examine_branch : List Rectangle → Query → NodeView → NodeView → Best → Examined
examine_branch ks a P C b =
    cond (is_blocked ks a P C) (record { found = b; pushed = false })
    (record { found = judge a P C (nearest_on P.point C.point a.point) b; pushed = true })

-- the points of a query and of a branch are within the limit, and its path fits
pub record Near (a : Query) (P C : NodeView) : Type 0 where
  pub within : Within reach a.point
  pub p : Within reach P.point
  pub c : Within reach C.point
  pub path : P.path ≤ longest_path
