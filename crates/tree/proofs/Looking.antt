-- How many branches are examined (C-16): fewer than there are nodes, in each search; with nothing in the way one for each node but the source; and at most
-- (T - 1)² in a route of T terminals. The idea: the children of the popped nodes, with the source, are distinct nodes of the tree.
use Rattle.std.proofs.Common.{◌≡◌, refl, sym, ap, ap₂, ◌∙◌, Bool, true, false, cond, List, [], ◌∷◌, ◌++◌, ℕ, zero, suc, ◌+◌, ◌*◌, ◌-◌, ◌≤◌, ◌<◌, mul-suc, suc-mul, arith, length, length-append, eqb, ℤ, pos}
use Rattle.std.proofs.Math.Decide.{dec_lt}
use Rattle.geometry.specs.declared.Point.{Point}
use Rattle.geometry.specs.declared.Rectangle.{Rectangle}
use Rattle.geometry.specs.Geometry.{dist}
use Rattle.tree.specs.Limits.{no_limit}
use Rattle.tree.specs.Tree.{one, Node, Tree, Parent, none, at, node_at, terminal}
use Rattle.tree.specs.Search.{Join, onto, split, Best, branches, walk, fresh, looks, looked, find, blocked}
use Rattle.tree.specs.Route.{new_node, ordered, place, joined, insert, rooted, sort, farthest, looks_for, route_looks, Mode, simple, steiners, constraints}
use Rattle.tree.specs.Shape.{Linked, count, is_at}
use Rattle.tree.specs.WellFormed.{Fits}
use Rattle.tree.proofs.Counting.{one-ne, one-eq, count-append}
use Rattle.tree.proofs.Linking.{child_in, parent_in_lem, not_own, none-at}
use Rattle.tree.proofs.Nodes.{length-attach, length-split}
use Rattle.tree.proofs.Fuel.{one-most, pigeon, pigeon_all, Visit, visit_start, visit_pop, visit_room, pushes, Whole, whole-start, whole-after, all_popped}
use Rattle.tree.proofs.Routing.{linked-joined, routed-start}
use Rattle.tree.proofs.Fitting.{find-fits}

module _ (ns : List Node) (g : Linked ns) where
  -- the children of several nodes
  kids_all : List ℕ → List ℕ
  kids_all [] = []
  kids_all (p ∷ ps) = (node_at ns p).children ++ kids_all ps

  abbrev parent_in : List ℕ → Parent → ℕ
  parent_in ps none = 0
  parent_in ps (at y) = count y ps

  count_kids : (x : ℕ) (ps : List ℕ) → count x (kids_all ps) ≡ parent_in ps (node_at ns x).parent
  unfolding kids_all count
  count_kids x [] = by (node_at ns x).parent
    where
      by : (y : Parent) → 0 ≡ parent_in [] y
      by none = refl
      by (at y) = refl
  count_kids x (p ∷ ps) = count-append x (node_at ns p).children (kids_all ps) ∙ ap₂ ◌+◌ (g.links p x) (count_kids x ps) ∙ by (node_at ns x).parent
    where
      by : (y : Parent) → is_at p y + parent_in ps y ≡ parent_in (p ∷ ps) y
      by none = refl
      by (at y) = refl

  -- the source and the children of popped nodes: each node at most once, and once if its parent has been popped
  module _ (popped stack : List ℕ) (v : Visit ns g popped stack) where
    once : (x : ℕ) → count x (0 ∷ kids_all popped) ≤ 1
    unfolding count
    once x = by (node_at ns x).parent refl
      where
        by : (y : Parent) → (node_at ns x).parent ≡ y → one (eqb 0 x) + count x (kids_all popped) ≤ 1
        by none e = omega (arith, one-most (eqb 0 x), count_kids x popped, ap (parent_in popped) e)
        by (at y) e =
            omega (
              arith,
              count_kids x popped,
              ap (parent_in popped) e,
              v.once y,
              one-ne 0 x (λ z. none-at (sym g.top ∙ ap (λ (i : ℕ). (node_at ns i).parent) z ∙ e)),
            )

    inside : (x : ℕ) → 0 < count x (0 ∷ kids_all popped) → x < length ns
    unfolding count
    inside x h = by (node_at ns x).parent refl (dec_lt x 1)
      where
        by : (y : Parent) → (node_at ns x).parent ≡ y → Dec (x < 1) → x < length ns
        by y e (yes l) = omega (arith, g.some)
        by none e (no l) = absurd (omega (arith, one-ne 0 x (omega arith), count_kids x popped, ap (parent_in popped) e))
        by (at y) e (no l) = child_in g x y e

    kids_room : length (kids_all popped) < length ns
    kids_room = pigeon (length ns) (0 ∷ kids_all popped) once inside

    kids_all_lem : ((x : ℕ) → x < length ns → 0 < count x popped) → length (kids_all popped) + 1 ≡ length ns
    unfolding count
    kids_all_lem all = omega (arith, pigeon_all (length ns) (0 ∷ kids_all popped) inside exactly)
      where
        exactly : (x : ℕ) → x < length ns → one (eqb 0 x) + count x (kids_all popped) ≡ 1
        exactly x l = by (node_at ns x).parent refl
          where
            by : (y : Parent) → (node_at ns x).parent ≡ y → one (eqb 0 x) + count x (kids_all popped) ≡ 1
            by none e = omega (arith, once x, one-eq 0 x (sym (g.others x l e)))
            by (at y) e = omega (arith, once x, count_kids x popped, ap (parent_in popped) e, all y (parent_in_lem g x y e))

  module _ (shut : Point → Point → Point → Point → Bool) (limit : ℕ) (allowed : ℤ) (q : Point) where
    looks-room : (k : ℕ) (popped stack : List ℕ) (f : Best) → Visit ns g popped stack → length (kids_all popped) + looks shut ns limit allowed q k stack f < length ns
    unfolding looks kids_all
    looks-room zero popped stack f v = omega (arith, kids_room popped stack v)
    looks-room (suc k) popped [] f v = omega (arith, kids_room popped [] v)
    looks-room (suc k) popped (p ∷ rest) f v =
        let e = branches shut ns limit allowed q p (node_at ns p).children (record { found = f; stack = rest }) in
        omega (
          arith,
          length-append (node_at ns p).children (kids_all popped),
          looks-room k (p ∷ popped) e.stack e.found (visit_pop ns g popped rest e.stack p v (pushes ns g shut limit allowed q p (node_at ns p).children (record { found = f; stack = rest }))),
        )

    -- fewer branches are examined than there are nodes
    pub looks-few : looked shut ns limit allowed q < length ns
    unfolding kids_all
    looks-few = omega (arith, looks-room (length ns) [] (0 ∷ []) (fresh limit) (visit_start ns g))

    -- with nothing in the way, every branch is
    module _ (clear : (a b c d : Point) → shut a b c d ≡ false) where
      looks-whole : (k : ℕ) (popped stack : List ℕ) (f : Best) → Visit ns g popped stack → Whole ns g popped stack → k + length popped ≡ length ns
          → length (kids_all popped) + looks shut ns limit allowed q k stack f + 1 ≡ length ns
      unfolding looks kids_all
      looks-whole zero popped [] f v w e = omega (arith, kids_all_lem popped [] v (all_popped ns g popped w))
      looks-whole zero popped (p ∷ rest) f v w e = absurd (omega (arith, visit_room ns g popped (p ∷ rest) v))
      looks-whole (suc k) popped [] f v w e = omega (arith, kids_all_lem popped [] v (all_popped ns g popped w))
      looks-whole (suc k) popped (p ∷ rest) f v w e =
          let z = branches shut ns limit allowed q p (node_at ns p).children (record { found = f; stack = rest }) in
          omega (
            arith,
            length-append (node_at ns p).children (kids_all popped),
            looks-whole k (p ∷ popped) z.stack z.found
                (visit_pop ns g popped rest z.stack p v (pushes ns g shut limit allowed q p (node_at ns p).children (record { found = f; stack = rest })))
                (whole-after ns g shut limit allowed q clear popped rest p f w) (omega arith),
          )

      pub looks_every : looked shut ns limit allowed q + 1 ≡ length ns
      unfolding kids_all
      looks_every = omega (arith, looks-whole (length ns) [] (0 ∷ []) (fresh limit) (visit_start ns g) (whole-start ns g) (omega arith))

-- ---- a route
-- a joining adds two nodes at most
length-joined : (ns : List Node) (st te : ℕ) (q : Point) → Linked ns → (j : Join) → Fits ns j → length (joined ns st te q j) ≤ suc (suc (length ns))
unfolding joined
length-joined ns st te q g (onto p) h = omega (arith, length-attach ns p (new_node (terminal te) p q [] ((node_at ns p).path + dist (node_at ns p).point q)) h)
length-joined ns st te q g (split p c) h = omega (arith, length-split ns st te q p c (parent_in_lem g c p h) (child_in g c p h) (not_own g c p h))

module _ (ks : List Rectangle) where
  linked-insert : (t : Tree) (q : Point) → Linked t.nodes → Linked (insert ks t q).nodes
  unfolding insert
  linked-insert t q g = linked-joined q t.nodes _ _ q g _ (find-fits t.nodes g (blocked ks) t.limit t.allowed q)

  size-insert : (t : Tree) (q : Point) → Linked t.nodes → length (insert ks t q).nodes ≤ suc (suc (length t.nodes))
  unfolding insert
  size-insert t q g = length-joined t.nodes t.next_steiner t.next_terminal q g _ (find-fits t.nodes g (blocked ks) t.limit t.allowed q)

  square : (a : ℕ) → suc a * suc a ≡ a * a + 2 * a + 1
  square a = omega (arith, suc-mul a (suc a), mul-suc a a)

  -- a + 1 terminals are placed
  looks_square : (a : ℕ) (qs : List Point) (t : Tree) → Linked t.nodes → length t.nodes ≤ 2 * suc a → looks_for ks qs t + a * a ≤ (a + length qs) * (a + length qs)
  unfolding looks_for
  looks_square a [] t g l = omega (arith, ap (λ (x : ℕ). x * x) (plus_zero a))
    where
      plus_zero : (x : ℕ) → x + 0 ≡ x
      plus_zero x = omega arith
  looks_square a (q ∷ qs) t g l =
      omega (
        arith,
        square a,
        looks-few t.nodes g (blocked ks) t.limit t.allowed q,
        looks_square (suc a) qs (insert ks t q) (linked-insert t q g) (omega (arith, size-insert t q g)),
        ap (λ (x : ℕ). x * x) (over a (length qs)),
      )
    where
      over : (x y : ℕ) → suc x + y ≡ x + suc y
      over x y = omega arith

  -- the first terminal joins the source, and no branch is examined for it
  first-node : (s q : Point) (allowed : ℤ) (w limit : ℕ) → length (insert ks (rooted s allowed w limit) q).nodes ≡ 2
  unfolding insert find walk branches node_at joined
  first-node s q allowed w limit = length-attach (rooted s allowed w limit).nodes 0 (new_node (terminal 1) 0 q [] (0 + dist s q)) (omega arith)

  looks-routed : (s : Point) (qs : List Point) (allowed : ℤ) (w limit : ℕ) → looks_for ks qs (rooted s allowed w limit) ≤ (length qs - 1) * (length qs - 1)
  unfolding looks_for
  looks-routed s [] allowed w limit = omega arith
  looks-routed s (q ∷ qs) allowed w limit =
      let g = (routed-start s allowed w limit).linked in
      omega (
        arith,
        looks-few (rooted s allowed w limit).nodes g (blocked ks) limit allowed q,
        looks_square 0 qs (insert ks (rooted s allowed w limit) q) (linked-insert (rooted s allowed w limit) q g) (omega (arith, first-node s q allowed w limit)),
        ap (λ (x : ℕ). x * x) (zero_plus (length qs)),
        ap (λ (x : ℕ). x * x) (less (length qs)),
      )
    where
      zero_plus : (x : ℕ) → 0 + x ≡ x
      zero_plus x = omega arith

      less : (x : ℕ) → suc x - 1 ≡ x
      less x = omega arith

length-place : (s p : Point) (l : List Point) → length (place s p l) ≡ suc (length l)
unfolding place
length-place s p [] = refl
length-place s p (q ∷ qs) = by (ordered s p q) (length-place s p qs)
  where
    by : (t : Bool) → length (place s p qs) ≡ suc (length qs) → length (cond t (p ∷ q ∷ qs) (q ∷ place s p qs)) ≡ suc (suc (length qs))
    by true ih = refl
    by false ih = omega (arith, ih)

length-sort : (s : Point) (ts : List Point) → length (sort s ts) ≡ length ts
length-sort s [] = refl
length-sort s (p ∷ ts) = omega (arith, length-place s p (sort s ts), length-sort s ts)

-- C-16: "For T terminals, T at least 1, it is at most (T − 1) × (T − 1). With none it is 0." Of none, T - 1 is 0 here
pub looks-most : (m : Mode) (s : Point) (ts : List Point) (ks : List Rectangle) → route_looks m s ts ks ≤ (length ts - 1) * (length ts - 1)
looks-most simple s ts ks = omega arith
looks-most steiners s ts ks =
    omega (arith, looks-routed ks s (sort s ts) (pos no_limit) (farthest s ts) no_limit, ap (λ (n : ℕ). (n - 1) * (n - 1)) (length-sort s ts))
looks-most (constraints al) s ts ks =
    let w = farthest s ts in
    omega (arith, looks-routed ks s (sort s ts) (al w) w w, ap (λ (n : ℕ). (n - 1) * (n - 1)) (length-sort s ts))
