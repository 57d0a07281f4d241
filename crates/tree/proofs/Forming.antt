-- Every insertion keeps a tree well formed, and a route's counts of nodes.
-- The idea: one lemma for one more node, whoever gives it its place, name and path, and one for a branch that is split.
use Rattle.std.proofs.Common.{◌≡◌, refl, ap, List, [], ◌∷◌, ℕ, zero, suc, ◌+◌, ◌-◌, ◌*◌, ◌≤◌, ◌<◌, arith, length, length-append, ℤ}
use Rattle.geometry.specs.declared.Point.{Point}
use Rattle.geometry.specs.declared.Rectangle.{Rectangle}
use Rattle.geometry.specs.Geometry.{dist}
use Rattle.geometry.specs.Laws.{Within, dist-small, nearest-within, via-parent}
use Rattle.tree.specs.Limits.{across, reach}
use Rattle.tree.specs.Tree.{Node, Tree, Name, source, steiner, terminal, at, node_at, terminals}
use Rattle.tree.specs.Search.{Join, onto, split, blocked}
use Rattle.tree.specs.Route.{new_node, attach, joined, join, insert, closest, insert_simple, rooted, terminal_after, grown, attached}
use Rattle.tree.specs.Edits.{Next}
use Rattle.tree.specs.Shape.{Linked}
use Rattle.tree.specs.WellFormed.{WellFormed, Counted, Fits}
use Rattle.tree.proofs.Nodes.{length-attach, length-split}
use Rattle.tree.proofs.Linking.{child_in, parent_in_lem, not_own, linked-attach}
use Rattle.tree.proofs.Measuring.{Core}
use Rattle.tree.proofs.Naming.{terminals-joined}
use Rattle.tree.proofs.Adding.{Adds, adds_attach, every_adds, named_adds, counts_adds, terminals_fewer}
use Rattle.tree.proofs.Routing.{linked-joined, named-joined, routed-start, closest_in}
use Rattle.tree.proofs.Every.{every_split}
use Rattle.tree.proofs.Spread.{spread_joined}
use Rattle.tree.proofs.Fitting.{find-fits}

-- the source is no terminal, so there are fewer terminals than nodes
pub terminals-few : {t : Tree} → WellFormed t → t.next_terminal ≤ length t.nodes
terminals-few f = omega (arith, f.terminals, terminals_fewer _ f.linked.some f.named.source_name)

-- ---- one more node
module _ (t : Tree) (f : WellFormed t) (n : Node) (next : Next t.next_steiner t.next_terminal n.name) (near : Within reach n.point)
    (short : n.path ≤ across * (terminal_after n.name t.next_terminal - 1)) where
  no_fewer : t.next_terminal ≤ terminal_after n.name t.next_terminal
  no_fewer = by n.name
    where
      by : (x : Name) → t.next_terminal ≤ terminal_after x t.next_terminal
      by source = omega arith
      by (steiner k) = omega arith
      by (terminal k) = omega arith

  pub formed_adds : (ns : List Node) → Adds t.nodes n ns → Linked ns → WellFormed (grown t n.name ns)
  formed_adds ns a g =
      record {
        linked = g;
        named = named_adds a _ _ f.linked.some next f.named;
        near = every_adds a (λ (x : Core). Within reach x.point) f.near near;
        short = every_adds a (λ (x : Core). x.path ≤ across * (terminal_after n.name t.next_terminal - 1)) (λ i. omega (arith, f.short i, no_fewer)) short;
        terminals = counts_adds a _ _ next f.terminals;
      }

  -- last among the children of p
  pub formed-attach : (p : ℕ) → p < length t.nodes → n.parent ≡ at p → n.children ≡ [] → WellFormed (grown t n.name (attach t.nodes p n))
  formed-attach p h up leaf = formed_adds _ (adds_attach t.nodes p n h) (linked-attach t.nodes p n h f.linked up leaf)

-- by hand, with path 0
pub formed-attached : (t : Tree) → WellFormed t → (n : Name) → Next t.next_steiner t.next_terminal n → (q : Point) → Within reach q
    → (p : ℕ) → p < length t.nodes → WellFormed (attached t n q p)
formed-attached t f n next q near p h = formed-attach t f (new_node n p q [] 0) next near (omega arith) p h refl refl

-- ---- a terminal joins
module _ (t : Tree) (f : WellFormed t) (q : Point) (near : Within reach q) where
  -- the path of a node that is reached from p
  from : (p : ℕ) (r : Point) → Within reach r → (node_at t.nodes p).path + dist (node_at t.nodes p).point r ≤ across * t.next_terminal
  from p r w = omega (arith, f.short p, f.named.terminals, dist-small (f.near p) w)

  short-split : (p c : ℕ) → (node_at t.nodes c).parent ≡ at p → (i : ℕ) → (node_at (join t q (split p c)).nodes i).path ≤ across * (suc t.next_terminal - 1)
  short-split p c link =
      every_split (λ (x : Core). x.path ≤ across * (suc t.next_terminal - 1)) t.nodes (λ i. omega (arith, f.short i)) t.next_steiner t.next_terminal q p c f.linked link
      (omega (arith, from p q near, via-parent (node_at t.nodes p).point (node_at t.nodes c).point q))
      (omega (arith, from p _ (nearest-within q (f.near p) (f.near c))))

  pub formed-join : (j : Join) → Fits t.nodes j → WellFormed (join t q j)
  unfolding joined
  formed-join (onto p) h = formed-attach t f (new_node (terminal t.next_terminal) p q [] _) refl near (omega (arith, from p q near)) p h refl refl
  formed-join (split p c) h =
      record {
        linked = linked-joined q t.nodes _ _ q f.linked (split p c) h;
        named = named-joined q t.nodes _ _ q f.linked (split p c) h f.named;
        near = spread_joined reach q t.nodes _ _ q f.linked f.near near (split p c) h;
        short = short-split p c h;
        terminals = omega (arith, ap length (terminals-joined t.nodes t.next_steiner t.next_terminal q (split p c)), length-append (terminals t.nodes) ((t.next_terminal, q) ∷ []), f.terminals);
      }

  pub formed-insert : (ks : List Rectangle) → WellFormed (insert ks t q)
  unfolding insert
  formed-insert ks = formed-join _ (find-fits t.nodes f.linked (blocked ks) t.limit t.allowed q)

  pub formed-simple : WellFormed (insert_simple t q)
  unfolding insert_simple
  formed-simple = formed-attached t f (terminal t.next_terminal) refl q near _ (closest_in t.nodes q f.linked.some (length t.nodes) (omega arith))

-- ---- a route's counts
module _ (t : Tree) (f : WellFormed t) (k : Counted t) (q : Point) where
  pub counted-join : (j : Join) → Fits t.nodes j → Counted (join t q j)
  unfolding joined
  counted-join (onto p) h =
      record {
        size = omega (arith, length-attach t.nodes p (new_node (terminal t.next_terminal) p q [] ((node_at t.nodes p).path + dist (node_at t.nodes p).point q)) h, k.size);
        steiners = omega (arith, k.steiners);
      }
  counted-join (split p c) h =
      record {
        size = omega (arith, length-split t.nodes t.next_steiner t.next_terminal q p c (parent_in_lem f.linked c p h) (child_in f.linked c p h) (not_own f.linked c p h), k.size);
        steiners = omega (arith, k.steiners);
      }

  pub counted-insert : (ks : List Rectangle) → Counted (insert ks t q)
  unfolding insert
  counted-insert ks = counted-join _ (find-fits t.nodes f.linked (blocked ks) t.limit t.allowed q)

  pub counted-simple : Counted (insert_simple t q)
  unfolding insert_simple
  counted-simple =
      let p = closest t.nodes q (length t.nodes) in
      record {
        size = omega (arith, length-attach t.nodes p (new_node (terminal t.next_terminal) p q [] 0) (closest_in t.nodes q f.linked.some (length t.nodes) (omega arith)), k.size);
        steiners = omega (arith, k.steiners);
      }

-- ---- the source alone
module _ (s : Point) (near : Within reach s) (allowed : ℤ) (w limit : ℕ) where
  abbrev t₀ : Tree
  t₀ = rooted s allowed w limit

  alone : (i : ℕ) → Within reach (node_at t₀.nodes i).point
  unfolding node_at
  alone zero = near
  alone (suc i) = record { xcoord = omega arith; ycoord = omega arith }

  still : (i : ℕ) → (node_at t₀.nodes i).path ≤ across * (1 - 1)
  unfolding node_at
  still zero = omega arith
  still (suc i) = omega arith

  pub formed-start : WellFormed t₀
  unfolding terminals
  formed-start = record { linked = (routed-start s allowed w limit).linked; named = (routed-start s allowed w limit).named; near = alone; short = still; terminals = refl }

  pub counted_start : Counted t₀
  counted_start = record { size = refl; steiners = omega arith }
