-- The columns store the tree with more nodes: after a row is attached, and after a branch is split.
use Rattle.std.proofs.Common.{ℕ, suc, ◌+◌, ◌<◌, ◌≡◌, refl, ap, sym, subst, ◌∙◌, List, [], ◌∷◌, arith, length}
use Rattle.geometry.specs.declared.Point.{Point}
use Rattle.geometry.specs.Geometry.{dist}
use Rattle.tree.specs.Tree.{zero_figure, Node, Tree, Name, at, node_at, terminal, steiner}
use Rattle.tree.specs.Search.{nearest_on, split}
use Rattle.tree.specs.Route.{new_node, attach, join, grown, steiner_after, terminal_after}
use Rattle.tree.specs.WellFormed.{WellFormed}
use Rattle.tree.proofs.Nodes.{length-attach, length-split}
use Rattle.tree.proofs.Linking.{child_in, parent_in_lem, not_own}
use Rattle.joining.specs.declared.Counts.{Counts}
use Rattle.joining.specs.declared.Row.{Row}
use Rattle.joining.specs.Store.{Store, columns_of, row_at, set_row, set_parent, node_from, SizedStore, Keeps, Backs}
use Rattle.joining.specs.Links.{Appended, Spliced}
use Rattle.joining.specs.Join.{view_in, terminal_row, path_below, split_rows, one_more, two_more, RowAttached, BranchSplit}
use Rattle.joining.specs.Standing.{Stores}
use Rattle.joining.proofs.Steps.{parent-at}
use Rattle.joining.proofs.Attaching.{keeps-attach, backs-attach, sized-attach}
use Rattle.joining.proofs.Splitting.{terminal_node, steiner_node, keeps-split, backs-split, sized-split}

-- k' counts one more node than k, for which a name is given out
pub record CountsOne (x : Name) (k k' : Counts) : Type 0 where
  pub nodes : k'.nodes ≡ k.nodes + 1
  pub steiner : k'.steiner.0 ≡ steiner_after x k.steiner.0
  pub terminal : k'.terminal.0 ≡ terminal_after x k.terminal.0

module _ (t : Tree) (f : WellFormed t) (k : Counts) (c : Store) (s : Stores t k c) (m : ℕ) (z : SizedStore m c) where
  abbrev ns : List Node
  ns = t.nodes

  -- ---- one more node, wherever it goes
  pub stores-grown : (x : Name) (ms : List Node) → length ms ≡ suc (length t.nodes) → (k' : Counts) → CountsOne x k k' → (c' : Store) → Keeps ms (columns_of c') → Backs ms c'.links.next → Stores (grown t x ms) k' c'
  stores-grown x ms el k' e c' keeps backs =
      record {
        size = omega (arith, el, s.size, e.nodes);
        steiner = ap (steiner_after x) s.steiner ∙ sym e.steiner;
        terminal = ap (terminal_after x) s.terminal ∙ sym e.terminal;
        keeps = keeps;
        backs = backs;
      }

  -- last among the children of p
  module _ (room : k.nodes < m) (p : ℕ) (h : p < length t.nodes) (new : Node) (row : Row) (c' : Store)
      (er : c'.rows ≡ set_row c.rows k.nodes row) (v : Appended c.links p k.nodes c'.links) (is : node_from row [] ≡ new) where
    rows_new : c'.rows ≡ set_row c.rows (length ns) row
    rows_new = er ∙ ap (λ (n : ℕ). set_row c.rows n row) (sym s.size)

    links_new : Appended c.links p (length ns) c'.links
    links_new = subst (λ (n : ℕ). Appended c.links p n c'.links) (sym s.size) v

    pub stores-attach : (k' : Counts) → CountsOne new.name k k' → Stores (grown t new.name (attach ns p new)) k' c'
    stores-attach k' e =
        stores-grown new.name (attach ns p new) (length-attach ns p new h) k' e c'
        (keeps-attach m ns c z s.keeps s.backs f.linked p h (omega (arith, s.size)) new row c' rows_new links_new is)
        (backs-attach m ns c z s.keeps s.backs f.linked p h (omega (arith, s.size)) new row c' rows_new links_new is)

    pub sized-attach_in : SizedStore m c'
    sized-attach_in = sized-attach m ns c z s.keeps s.backs f.linked p h (omega (arith, s.size)) new row c' rows_new links_new is

  -- a terminal below p, with a path of length l
  module _ (room : k.nodes < m) (p : ℕ) (h : p < length t.nodes) (q : Point) (l l' : ℕ) (el : l ≡ l') (c' : Store)
      (o : RowAttached c k.nodes (terminal_row p q l k.terminal) c') where
    abbrev new : Node
    new = new_node (terminal t.next_terminal) p q [] l'

    new_is : node_from (terminal_row p q l k.terminal) [] ≡ new
    new_is =
        λ i. record {
          name = terminal (sym s.terminal i);
          parent = parent-at p (omega (arith, h, s.size, z.links.few)) i;
          point = q;
          children = [];
          path = el i;
          capacitance = zero_figure;
          delay = zero_figure;
        }

    pub stores-terminal : Stores (grown t (terminal t.next_terminal) (attach ns p new)) (one_more k) c'
    stores-terminal = stores-attach room p h new (terminal_row p q l k.terminal) c' o.rows o.links new_is (one_more k) (record { nodes = refl; steiner = refl; terminal = omega arith })

    pub sized-terminal : SizedStore m c'
    sized-terminal = sized-attach_in room p h new (terminal_row p q l k.terminal) c' o.rows o.links new_is

  -- the path at p, and d from it
  pub path_below_lem : (p : ℕ) → p < length t.nodes → (q : Point) → path_below (view_in c.rows p) q ≡ (node_at t.nodes p).path + dist (node_at t.nodes p).point q
  path_below_lem p h q = ap (λ (n : Node). n.path + dist n.point q) (sym (s.keeps.rows p h))

  -- ---- on the branch from p to d
  module _ (room : k.nodes + 1 < m) (p d : ℕ) (link : (node_at t.nodes d).parent ≡ at p) (q : Point) (c' : Store) (o : BranchSplit c k p d q c') where
    in_p : p < length ns
    in_p = parent_in_lem f.linked d p link

    in_d : d < length ns
    in_d = child_in f.linked d p link

    Pe : node_from (row_at c.rows p) (node_at ns p).children ≡ node_at ns p
    Pe = sym (s.keeps.rows p in_p)

    De : node_from (row_at c.rows d) (node_at ns d).children ≡ node_at ns d
    De = sym (s.keeps.rows d in_d)

    top : k.nodes + 1 ≡ suc (length ns)
    top = omega (arith, s.size)

    terminal_is : node_from (split_rows k (view_in c.rows p) (view_in c.rows d) q).terminal [] ≡ terminal_node ns t.next_steiner t.next_terminal q p d
    terminal_is =
        λ i. record {
          name = terminal (sym s.terminal i);
          parent = (parent-at (k.nodes + 1) (omega (arith, z.links.few)) ∙ ap at top) i;
          point = q;
          children = [];
          path = (Pe i).path + dist (Pe i).point (nearest_on (Pe i).point (De i).point q) + dist (nearest_on (Pe i).point (De i).point q) q;
          capacitance = zero_figure;
          delay = zero_figure;
        }

    steiner_is : node_from (split_rows k (view_in c.rows p) (view_in c.rows d) q).steiner (d ∷ length ns ∷ []) ≡ steiner_node ns t.next_steiner t.next_terminal q p d
    steiner_is =
        λ i. record {
          name = steiner (sym s.steiner i);
          parent = parent-at p (omega (arith, in_p, s.size, z.links.few)) i;
          point = nearest_on (Pe i).point (De i).point q;
          children = d ∷ length ns ∷ [];
          path = (Pe i).path + dist (Pe i).point (nearest_on (Pe i).point (De i).point q);
          capacitance = zero_figure;
          delay = zero_figure;
        }

    links-there : Spliced c.links p d (length ns) (suc (length ns)) c'.links
    links-there =
        subst (λ (n : ℕ). Spliced c.links p d (length ns) n c'.links) top
        (subst (λ (n : ℕ). Spliced c.links p d n (k.nodes + 1) c'.links) (sym s.size) o.links)

    abbrev T : Row
    T = (split_rows k (view_in c.rows p) (view_in c.rows d) q).terminal

    abbrev S : Row
    S = (split_rows k (view_in c.rows p) (view_in c.rows d) q).steiner

    rows-there : c'.rows ≡ set_parent (set_row (set_row c.rows (length ns) T) (suc (length ns)) S) d (suc (length ns))
    rows-there = o.rows ∙ (λ i. set_parent (set_row (set_row c.rows (sym s.size i) T) (top i) S) d (top i))

    pub stores-split : Stores (join t q (split p d)) (two_more k) c'
    stores-split =
        record {
          size = omega (arith, length-split ns t.next_steiner t.next_terminal q p d in_p in_d (not_own f.linked d p link), s.size);
          steiner = omega (arith, s.steiner);
          terminal = omega (arith, s.terminal);
          keeps = keeps-split m ns c z s.keeps s.backs f.linked p d link (omega (arith, s.size)) t.next_steiner t.next_terminal q c' links-there T S rows-there terminal_is steiner_is;
          backs = backs-split m ns c z s.keeps s.backs f.linked p d link (omega (arith, s.size)) t.next_steiner t.next_terminal q c'.links links-there;
        }

    pub sized-split_in : SizedStore m c'
    sized-split_in = sized-split m ns c z s.keeps s.backs f.linked p d link (omega (arith, s.size)) t.next_steiner t.next_terminal q c' links-there T S rows-there
