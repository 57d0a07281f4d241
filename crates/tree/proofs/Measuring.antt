-- Joining keeps the measures: path lengths are Manhattan sums, and the total grows by the length that is added.
use Rattle.std.proofs.Common.{◌≡◌, refl, sym, ap, ap₂, ◌∙◌, ◌≢◌, ⊎_elim, List, [], ℕ, suc, ◌+◌, ◌<◌, arith, length}
use Rattle.geometry.specs.declared.Point.{Point}
use Rattle.geometry.specs.Geometry.{dist}
use Rattle.tree.specs.Tree.{Node, Name, terminal, steiner, at, node_at, replace_last}
use Rattle.tree.specs.Search.{split, branch}
use Rattle.tree.specs.Route.{attach, joined}
use Rattle.tree.proofs.Bounds.{Measured}
use Rattle.tree.specs.Shape.{Linked, PathSums}
use Rattle.geometry.specs.Laws.{on_edge}
use Rattle.tree.proofs.Nodes.{AtNode, new, joint, old, at_node_lem, AtSplit, tip, knot, start, end, rest, at_split}
use Rattle.tree.proofs.Linking.{at_inj, child_in, parent_in_lem, not_own, parent-attach, Over, over_c, over_t, over_s, over_old, parent-split}

-- what no joining changes of a node
pub record Core : Type 0 where
  pub name : Name
  pub point : Point
  pub path : ℕ

abbrev pub core : Node → Core
core n = record { name = n.name; point = n.point; path = n.path }

module _ (ns : List Node) (p : ℕ) (n : Node) (h : p < length ns) where
  pub core_new : core (node_at (attach ns p n) (length ns)) ≡ core n
  core_new = by (at_node_lem ns p n h (length ns))
    where
      by : AtNode ns p n h (length ns) → core (node_at (attach ns p n) (length ns)) ≡ core n
      by (new e f) = ap core f
      by (joint e f) = absurd (omega arith)
      by (old e d f) = absurd (e refl)

  pub core_old : (j : ℕ) → j ≢ length ns → core (node_at (attach ns p n) j) ≡ core (node_at ns j)
  core_old j ne = by (at_node_lem ns p n h j)
    where
      by : AtNode ns p n h j → core (node_at (attach ns p n) j) ≡ core (node_at ns j)
      by (new e f) = absurd (ne e)
      by (joint e f) = ap core f ∙ ap (λ (i : ℕ). core (node_at ns i)) (sym e)
      by (old e d f) = ap core f

module _ (ns : List Node) (st te : ℕ) (q : Point) (p c : ℕ) (g : Linked ns) (link : (node_at ns c).parent ≡ at p) where
  abbrev M : List Node
  M = joined ns st te q (split p c)

  abbrev B : Point
  B = (branch (node_at ns p) (node_at ns c) q).near

  abbrev View : ℕ → Type 0
  View j = AtSplit ns st te q p c (parent_in_lem g c p link) (child_in g c p link) (not_own g c p link) j

  view : (j : ℕ) → View j
  view j = at_split ns st te q p c (parent_in_lem g c p link) (child_in g c p link) (not_own g c p link) j

  pub core_tip : core (node_at M (length ns)) ≡ record { name = terminal te; point = q; path = (node_at ns p).path + dist (node_at ns p).point B + dist B q }
  core_tip = by (view (length ns))
    where
      by : View (length ns) → core (node_at M (length ns)) ≡ record { name = terminal te; point = q; path = (node_at ns p).path + dist (node_at ns p).point B + dist B q }
      by (tip e f) = ap core f
      by (knot e f) = absurd (omega arith)
      by (start e f) = absurd (omega (arith, parent_in_lem g c p link))
      by (end e f) = absurd (omega (arith, child_in g c p link))
      by (rest d e e' e'' f) = absurd (d refl)

  pub core_knot : core (node_at M (suc (length ns))) ≡ record { name = steiner st; point = B; path = (node_at ns p).path + dist (node_at ns p).point B }
  core_knot = by (view (suc (length ns)))
    where
      by : View (suc (length ns)) → core (node_at M (suc (length ns))) ≡ record { name = steiner st; point = B; path = (node_at ns p).path + dist (node_at ns p).point B }
      by (tip e f) = absurd (omega arith)
      by (knot e f) = ap core f
      by (start e f) = absurd (omega (arith, parent_in_lem g c p link))
      by (end e f) = absurd (omega (arith, child_in g c p link))
      by (rest d e e' e'' f) = absurd (e refl)

  pub core_rest : (j : ℕ) → j ≢ length ns → j ≢ suc (length ns) → core (node_at M j) ≡ core (node_at ns j)
  unfolding replace_last
  core_rest j ne nf = by (view j)
    where
      by : View j → core (node_at M j) ≡ core (node_at ns j)
      by (tip e f) = absurd (ne e)
      by (knot e f) = absurd (nf e)
      by (start e f) = ap core f ∙ ap (λ (i : ℕ). core (node_at ns i)) (sym e)
      by (end e f) = ap core f ∙ ap (λ (i : ℕ). core (node_at ns i)) (sym e)
      by (rest d e e' e'' f) = ap core f

-- ---- path lengths
-- the length of the way from the parent's end
abbrev Right : List Node → ℕ → ℕ → Type 0
Right ns c p = (node_at ns c).path ≡ (node_at ns p).path + dist (node_at ns p).point (node_at ns c).point

right : (ns : List Node) (c p : ℕ) (C P : Core) → core (node_at ns c) ≡ C → core (node_at ns p) ≡ P → C.path ≡ P.path + dist P.point C.point → Right ns c p
right ns c p C P e f h = ap (λ (x : Core). x.path) e ∙ h ∙ ap₂ (λ (x y : Core). x.path + dist x.point y.point) (sym f) (sym e)

module _ (ns : List Node) (p : ℕ) (n : Node) (h : p < length ns) (g : Linked ns) (up : n.parent ≡ at p) (leaf : n.children ≡ [])
    (run : n.path ≡ (node_at ns p).path + dist (node_at ns p).point n.point) where
  pub sums-attach : PathSums ns → PathSums (attach ns p n)
  sums-attach sums c x e =
      ⊎_elim
      (λ r. let f : p ≡ x = at_inj (sym r.1 ∙ e) in
      right _ c x _ _ (ap (λ (j : ℕ). core (node_at (attach ns p n) j)) r.0 ∙ core_new ns p n h)
      (core_old ns p n h x (omega arith) ∙ ap (λ (j : ℕ). core (node_at ns j)) (sym f)) run)
      (λ r. let f : (node_at ns c).parent ≡ at x = sym r.1 ∙ e in
      right _ c x _ _ (core_old ns p n h c r.0) (core_old ns p n h x (omega (arith, parent_in_lem g c x f))) (sums c x f))
      (parent-attach ns p n h g up leaf c)

  pub measured_attach : (s : Point) → Measured s ns → Measured s (attach ns p n)
  measured_attach s m =
      record {
        source-point = ap (λ (x : Core). x.point) (core_old ns p n h 0 (omega (arith, g.some))) ∙ m.source-point;
        source-path = ap (λ (x : Core). x.path) (core_old ns p n h 0 (omega (arith, g.some))) ∙ m.source-path;
        paths = sums-attach m.paths;
      }

module _ (ns : List Node) (st te : ℕ) (q : Point) (p c : ℕ) (g : Linked ns) (link : (node_at ns c).parent ≡ at p) where
  abbrev SN : List Node
  SN = joined ns st te q (split p c)

  pub sums-split : PathSums ns → PathSums SN
  sums-split sums b x e = by (parent-split ns st te q p c g link b)
    where
      is : {y : ℕ} → (node_at SN b).parent ≡ at y → x ≡ y
      is r = at_inj (sym e ∙ r)

      for : (j k : ℕ) → j ≡ k → core (node_at SN j) ≡ core (node_at SN k)
      for j k f = ap (λ (i : ℕ). core (node_at SN i)) f

      by : Over ns st te q p c g link b → Right SN b x
      by (over_c f r) =
          right _ b x (core (node_at ns c)) _ (for b c f ∙ core_rest ns st te q p c g link c (omega (arith, child_in g c p link)) (omega (arith, child_in g c p link)))
          (for x _ (is r) ∙ core_knot ns st te q p c g link)
          (omega (arith, sums c p link, on_edge (node_at ns p).point (node_at ns c).point q))
      by (over_t f r) = right _ b x _ _ (for b _ f ∙ core_tip ns st te q p c g link) (for x _ (is r) ∙ core_knot ns st te q p c g link) refl
      by (over_s f r) =
          right _ b x _ (core (node_at ns p)) (for b _ f ∙ core_knot ns st te q p c g link)
          (for x _ (is r) ∙ core_rest ns st te q p c g link p (omega (arith, parent_in_lem g c p link)) (omega (arith, parent_in_lem g c p link))) refl
      by (over_old f f' f'' r) =
          let d : (node_at ns b).parent ≡ at x = sym r ∙ e in
          right _ b x _ _ (core_rest ns st te q p c g link b f' f'')
          (core_rest ns st te q p c g link x (omega (arith, parent_in_lem g b x d)) (omega (arith, parent_in_lem g b x d))) (sums b x d)

  pub measured_split : (s : Point) → Measured s ns → Measured s SN
  measured_split s m =
      record {
        source-point = ap (λ (x : Core). x.point) (core_rest ns st te q p c g link 0 (omega (arith, g.some)) (omega arith)) ∙ m.source-point;
        source-path = ap (λ (x : Core). x.path) (core_rest ns st te q p c g link 0 (omega (arith, g.some)) (omega arith)) ∙ m.source-path;
        paths = sums-split m.paths;
      }
