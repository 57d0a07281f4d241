-- Sorting, joining and routing (document 01, "Sorting, search, joining" and "Measures, edits, text"). Definitions only.
use Rattle.std.specs.Prelude.{ℕ, zero, suc, ◌+◌, max, Bool, ◌&&◌, ◌||◌, cond, ◌≡◌, length, eqb, ltb, ℤ, pos, List, [], ◌∷◌, ◌++◌}
use mathlib.Core.List.{foldr, Memᴰ}
use Rattle.std.specs.Int.Signed.{le_z, lt_z}
use Rattle.tree.specs.Limits.{no_limit}
use Rattle.geometry.specs.declared.Point.{Point}
use Rattle.geometry.specs.declared.Rectangle.{Rectangle}
use Rattle.geometry.specs.Geometry.{dist, same, eq_z}
use Rattle.tree.specs.Tree.{one}
use Rattle.tree.specs.Tree.{zero_figure, Node, Tree, Name, source, steiner, terminal, none, at, node_at, change, with_parent, adopt, replace_last}
use Rattle.tree.specs.Search.{Join, onto, split, find, looked, blocked, branch}

-- ---- sorting
-- "Terminals are sorted by d from source, then x, then y." p stands no later than q
unfoldable pub ordered : Point → Point → Point → Bool
ordered s p q =
    ltb (dist s p) (dist s q)
    || (eqb (dist s p) (dist s q) && (lt_z p.xcoord q.xcoord || (eq_z p.xcoord q.xcoord && le_z p.ycoord q.ycoord)))

-- p in its place in a sorted list. That the sorted list is in order and has each point as often is `sort_sorted` and `times-sort` in
-- proofs/Order.antt
unfoldable pub place : Point → Point → List Point → List Point
place s p [] = p ∷ []
place s p (q ∷ qs) = cond (ordered s p q) (p ∷ q ∷ qs) (q ∷ place s p qs)

abbrev pub sort : Point → List Point → List Point
sort s = foldr (place s) []

-- "W, the farthest distance, is the largest d(source, terminal), 0 with no terminals."
abbrev pub farthest : Point → List Point → ℕ
farthest s = foldr (λ p w. max (dist s p) w) 0

-- the sum of the direct distances
abbrev pub directs : Point → List Point → ℕ
directs s = foldr (λ p w. dist s p + w) 0

-- ---- joining
abbrev pub new_node : Name → ℕ → Point → List ℕ → ℕ → Node
new_node n p q cs l = record { name = n; parent = at p; point = q; children = cs; path = l; capacitance = zero_figure; delay = zero_figure }

-- one more node, last among the children of p
unfoldable pub attach : List Node → ℕ → Node → List Node
attach ns p n = change ns p (adopt (length ns)) ++ (n ∷ [])

-- one more node on the branch from p to its child c, which becomes its one child
unfoldable pub splice : List Node → ℕ → ℕ → Node → List Node
splice ns p c n = change (change ns p (replace_last c (length ns))) c (with_parent (length ns)) ++ (n ∷ [])

-- The nodes with a terminal at q joined, its number te, and st that of a Steiner node. "the terminal is created before the search", so it has the
-- lower index. "A split creates a Steiner node at N: C leaves P's children, the Steiner node goes last among them, and its own children are C, then
-- the terminal. New path lengths are the parent's plus d."
unfoldable pub joined : List Node → ℕ → ℕ → Point → Join → List Node
joined ns st te q (onto p) =
    let P = node_at ns p in
    attach ns p (new_node (terminal te) p q [] (P.path + dist P.point q))
joined ns st te q (split p c) =
    let i = length ns in
    let s = suc i in
    let P = node_at ns p in
    let b = branch P (node_at ns c) q in
    change (change ns p (replace_last c s)) c (with_parent s)
    ++ (new_node (terminal te) s q [] b.L ∷ new_node (steiner st) p b.near (c ∷ i ∷ []) (P.path + dist P.point b.near) ∷ [])

-- the next Steiner number
abbrev pub next_after : ℕ → Join → ℕ
next_after st (onto p) = st
next_after st (split p c) = suc st

abbrev pub join : Tree → Point → Join → Tree
join t q j =
    record {
      nodes = joined t.nodes t.next_steiner t.next_terminal q j;
      allowed = t.allowed;
      farthest = t.farthest;
      limit = t.limit;
      next_steiner = next_after t.next_steiner j;
      next_terminal = suc t.next_terminal;
    }

unfoldable pub insert : List Rectangle → Tree → Point → Tree
insert ks t q = join t q (find (blocked ks) t.nodes t.limit t.allowed q)

-- "the node of least d, lowest index on ties", among the first k (`closest-least`, `closest-first` in proofs/Routing.antt)
unfoldable pub closest : List Node → Point → ℕ → ℕ
closest ns q zero = 0
closest ns q (suc k) =
    let b = closest ns q k in
    cond (ltb (dist (node_at ns k).point q) (dist (node_at ns b).point q)) k b

-- the numbers that come next, after a name is given out
abbrev pub steiner_after : Name → ℕ → ℕ
steiner_after source n = n
steiner_after (steiner k) n = suc n
steiner_after (terminal k) n = n

abbrev pub terminal_after : Name → ℕ → ℕ
terminal_after source n = n
terminal_after (steiner k) n = n
terminal_after (terminal k) n = suc n

-- the tree with other nodes, after a name is given out
abbrev pub grown : Tree → Name → List Node → Tree
grown t n ns =
    record {
      nodes = ns;
      allowed = t.allowed;
      farthest = t.farthest;
      limit = t.limit;
      next_steiner = steiner_after n t.next_steiner;
      next_terminal = terminal_after n t.next_terminal;
    }

-- "leave the new node's path length 0 and add it last among its parent's children": of mode 0 and of the inserts by hand
abbrev pub attached : Tree → Name → Point → ℕ → Tree
attached t n q p = grown t n (attach t.nodes p (new_node n p q [] 0))

-- "Mode 0 .. join the node of least d"
unfoldable pub insert_simple : Tree → Point → Tree
insert_simple t q = attached t (terminal t.next_terminal) q (closest t.nodes q (length t.nodes))

-- the points are joined in order
unfoldable pub inserts : (Tree → Point → Tree) → List Point → Tree → Tree
inserts f [] t = t
inserts f (q ∷ qs) t = inserts f qs (f t q)

-- "A route starts from a tree of the source alone."
abbrev pub rooted : Point → ℤ → ℕ → ℕ → Tree
rooted s allowed w limit =
    record {
      nodes = record { name = source; parent = none; point = s; children = []; path = 0; capacitance = zero_figure; delay = zero_figure } ∷ [];
      allowed = allowed;
      farthest = w;
      limit = limit;
      next_steiner = 1;
      next_terminal = 1;
    }

-- with constraints the allowance is computed from W, by the multiplier
pub data Mode : Type 0 where
  simple : Mode
  steiners : Mode
  constraints : (ℕ → ℤ) → Mode

-- The tree that a job gets. "Tree limit: `worst_wirelength` is 2147483647 on a fresh tree, W in mode 2." "Mode 1 .. use allowed = tree limit"; "In
-- modes 0 and 1 allowed is 2147483647"
abbrev pub route : Mode → Point → List Point → List Rectangle → Tree
route simple s ts ks = inserts insert_simple (sort s ts) (rooted s (pos no_limit) (farthest s ts) no_limit)
route steiners s ts ks = inserts (insert ks) (sort s ts) (rooted s (pos no_limit) (farthest s ts) no_limit)
route (constraints allowance) s ts ks =
    let w = farthest s ts in
    inserts (insert ks) (sort s ts) (rooted s (allowance w) w w)

-- ---- how much is searched
-- how many branches are examined as the points are joined in order, each in the tree as it then is
unfoldable pub looks_for : List Rectangle → List Point → Tree → ℕ
looks_for ks [] t = 0
looks_for ks (q ∷ qs) t = looked (blocked ks) t.nodes t.limit t.allowed q + looks_for ks qs (insert ks t q)

-- C-16: "The result of a Steiner or constrained route carries the number of branches examined". Mode 0 examines none
abbrev pub route_looks : Mode → Point → List Point → List Rectangle → ℕ
route_looks simple s ts ks = 0
route_looks steiners s ts ks = looks_for ks (sort s ts) (rooted s (pos no_limit) (farthest s ts) no_limit)
route_looks (constraints allowance) s ts ks =
    let w = farthest s ts in
    looks_for ks (sort s ts) (rooted s (allowance w) w w)

-- ---- jobs that are alike but for order
-- how often p stands in a list
unfoldable pub times : Point → List Point → ℕ
times p [] = 0
times p (q ∷ qs) = one (same p q) + times p qs

-- the same terminals, each as often
abbrev pub SameTerminals : List Point → List Point → Type 0
SameTerminals ts us = (p : Point) → times p ts ≡ times p us

-- each keepout of either is also in the other
pub record SameKeepouts (ks ls : List Rectangle) : Type 0 where
  pub there : {k : Rectangle} → Memᴰ k ks → Memᴰ k ls
  pub back : {k : Rectangle} → Memᴰ k ls → Memᴰ k ks
