-- The search, `_find_insertion_point` (document 01, "Sorting, search, joining"). Definitions only.
use Rattle.std.specs.Prelude.{ℕ, zero, suc, ◌+◌, max, Bool, true, false, not, ◌&&◌, ◌||◌, cond, List, [], ◌∷◌, length, leb, ltb, ℤ, pos}
use Rattle.std.specs.Int.Signed.{le_z}
use Rattle.geometry.specs.declared.Point.{Point}
use Rattle.geometry.specs.declared.Rectangle.{Rectangle}
use Rattle.geometry.specs.Geometry.{dist, box, nearest, contains, blocks, same}
use Rattle.tree.specs.Tree.{Node, node_at}

-- where the point joins: at a node, or at a new node on the branch from a node to its child
pub data Join : Type 0 where
  onto : ℕ → Join
  split : ℕ → ℕ → Join

-- a branch, from a node to its child, or none
pub data Taken : Type 0 where
  nothing : Taken
  the : ℕ → ℕ → Taken

-- what the search has found: where to join, best, and whether a branch has had L ≤ allowed
pub record Best : Type 0 where
  pub join : Join
  pub best : ℕ
  pub within : Bool

-- a search under way: what it has found, and its stack
pub record Walk : Type 0 where
  pub found : Best
  pub stack : List ℕ

unfoldable pub any_of : {A : Type 0} → (A → Bool) → List A → Bool
any_of f [] = false
any_of f (k ∷ ks) = f k || any_of f ks

-- one keepout "contains N, or blocks the box of N with the point, P or C"
unfoldable pub stops : Point → Point → Point → Point → Rectangle → Bool
stops q P C n k = contains k n || (blocks k (box n q) || (blocks k (box n P) || blocks k (box n C)))

-- "If any keepout .."
unfoldable pub blocked : List Rectangle → Point → Point → Point → Point → Bool
blocked ks q P C n = any_of (stops q P C n) ks

-- "N = nearest(box of P and C, point)"
abbrev pub nearest_on : Point → Point → Point → Point
nearest_on P C q = nearest (box P C) q

-- "D = d(N, point)"; "L = path(P) + d(P, N) + D"
pub record Branch : Type 0 where
  pub near : Point
  pub D : ℕ
  pub L : ℕ

abbrev pub branch : Node → Node → Point → Branch
branch P C q =
    let n = nearest_on P.point C.point q in
    record { near = n; D = dist n q; L = P.path + dist P.point n + dist n q }

-- "If L ≤ allowed: take it when it is the first such, or D < best. Otherwise take it only when no branch has had L ≤ allowed, L ≤ tree limit and
-- D < best." The Bool says L ≤ allowed
unfoldable pub takes : ℕ → Bool → Branch → Best → Bool
takes limit true b f = not f.within || ltb b.D f.best
takes limit false b f = not f.within && (leb b.L limit && ltb b.D f.best)

-- "N = P joins at P; else N = C joins at C; else the branch is to be split."
abbrev pub join_at : ℕ → Node → ℕ → Node → Point → Join
join_at p P c C n = cond (same n P.point) (onto p) (cond (same n C.point) (onto c) (split p c))

-- "starts with nearest = source and best = max(tree limit, 1)"
abbrev pub fresh : ℕ → Best
fresh limit = record { join = onto 0; best = max limit 1; within = false }

module _ (shut : Point → Point → Point → Point → Bool) (nodes : List Node) (limit : ℕ) (allowed : ℤ) (q : Point) where
  -- what is found after a branch that is not skipped: "Taking sets best = D."
  unfoldable pub judge : ℕ → ℕ → Best → Best
  judge p c f =
      let P = node_at nodes p in
      let C = node_at nodes c in
      let b = branch P C q in
      let w = le_z (pos b.L) allowed in
      cond (takes limit w b f) (record { join = join_at p P c C b.near; best = b.D; within = w || f.within }) f

  -- the branch from p to its child c: if a keepout is in the way, "the branch is skipped and C isn't pushed"; else "C is pushed"
  unfoldable pub examine : ℕ → ℕ → Walk → Walk
  examine p c e =
      let P = (node_at nodes p).point in
      let C = (node_at nodes c).point in
      cond (shut q P C (nearest_on P C q)) e (record { found = judge p c e.found; stack = c ∷ e.stack })

  -- "Each popped node P has its children C examined last to first"
  unfoldable pub branches : ℕ → List ℕ → Walk → Walk
  branches p [] e = e
  branches p (c ∷ cs) e = examine p c (branches p cs e)

  -- the top of the stack is popped, and its branches are examined; at most k nodes are popped, and as many as there are nodes are enough
  -- (`walk_ends` in proofs/Fuel.antt)
  unfoldable pub walk : ℕ → List ℕ → Best → Walk
  walk zero stack f = record { found = f; stack = stack }
  walk (suc k) [] f = record { found = f; stack = [] }
  walk (suc k) (p ∷ rest) f =
      let e = branches p (node_at nodes p).children (record { found = f; stack = rest }) in
      walk k e.stack e.found

  -- C-16: "the number of branches examined, blocked ones included": each popped node has its children examined, each once
  unfoldable pub looks : ℕ → List ℕ → Best → ℕ
  looks zero stack f = 0
  looks (suc k) [] f = 0
  looks (suc k) (p ∷ rest) f =
      let e = branches p (node_at nodes p).children (record { found = f; stack = rest }) in
      length (node_at nodes p).children + looks k e.stack e.found

  -- "on a stack holding the source"
  abbrev pub ended : Best
  ended = (walk (length nodes) (0 ∷ []) (fresh limit)).found

  -- No branch taken: the source
  unfoldable pub find : Join
  find = ended.join

  -- how many branches the search examines
  abbrev pub looked : ℕ
  looked = looks (length nodes) (0 ∷ []) (fresh limit)
