-- The loop over the terminals: its start, a turn, its end. The idea: at its head the columns hold the tree of the terminals so far, whatever the farthest distance.
use Rattle.std.proofs.Common.{ℕ, zero, suc, ◌+◌, ◌*◌, ◌≤◌, ◌<◌, ◌≡◌, refl, ap, sym, subst, ◌∙◌, List, [], ◌∷◌, ◌++◌, reverse, arith, add-one, length, get_or, length-set, get_or-set_same, ℤ}
use Rattle.geometry.specs.declared.Point.{Point}
use Rattle.geometry.specs.Laws.{Within}
use Rattle.tree.specs.Limits.{most_nodes, no_node, reach}
use Rattle.tree.specs.Tree.{Tree, node_at}
use Rattle.tree.specs.Route.{insert, insert_simple, inserts, rooted}
use Rattle.tree.specs.WellFormed.{WellFormed, Counted}
use Rattle.tree.proofs.Routing.{routed-start}
use Rattle.tree.proofs.Fitting.{sums-inserts}
use Rattle.tree.proofs.Forming.{formed-insert, formed-simple, formed-start, counted-insert, counted-simple, counted_start}
use Rattle.search.specs.declared.Query.{Query}
use Rattle.tree.specs.Memory.{point_at, keepouts_of}
use Rattle.search.specs.Columns.{Chain}
use Rattle.joining.specs.declared.Counts.{Counts}
use Rattle.joining.specs.declared.Row.{Row}
use Rattle.joining.specs.Store.{Rows, Store, columns_of, row_at, node_from, parent_from, nodes_of, up_to, SizedStore, SizedRows, Keeps, Backs}
use Rattle.joining.specs.Links.{BackedBy}
use Rattle.joining.proofs.Steps.{row_same, sized_row}
use Rattle.joining.proofs.Reading.{sized-columns, nodes_are}
use Rattle.inserting.specs.declared.Way.{Way}
use Rattle.inserting.specs.declared.Way.TheVariants.{Simple, Search}
use Rattle.inserting.specs.Insert.{Inserted, Insertable, step_of, SummedFor}
use Rattle.inserting.specs.Route.{source_row, first_counts, firsts, tree_after, tree_in, query_at, Routable, Holds, Begun, SourceAlone, RoutedColumns}

-- ---- what holds at its head
-- i terminals are in
pub record Under (way : Way) (ks px py : List ℤ) (a : Query) (i : ℕ) (k : Counts) (c : Store) : Type 0 where
  pub low : i ≤ length px
  pub next : k.terminal.0 ≡ i + 1
  pub sized : SizedStore most_nodes c
  pub holds : (w : ℕ) → Holds a w k c (tree_after way ks px py a w i)

-- ---- one more terminal
formed_step : (way : Way) (ks : List ℤ) (t : Tree) (q : Point) → WellFormed t → Within reach q → WellFormed (step_of way ks t q)
formed_step Simple ks t q f w = formed-simple t f q w
formed_step Search ks t q f w = formed-insert t f q w (keepouts_of ks)

counted_step : (way : Way) (ks : List ℤ) (t : Tree) (q : Point) → WellFormed t → Counted t → Counted (step_of way ks t q)
counted_step Simple ks t q f n = counted-simple t f n q
counted_step Search ks t q f n = counted-insert t f n q (keepouts_of ks)

-- a step gives out a terminal number, and leaves the rest as it is
record Carried (t t' : Tree) : Type 0 where
  limit : t'.limit ≡ t.limit
  allowed : t'.allowed ≡ t.allowed
  farthest : t'.farthest ≡ t.farthest
  next : t'.next_terminal ≡ suc t.next_terminal

carried_step : (way : Way) (ks : List ℤ) (t : Tree) (q : Point) → Carried t (step_of way ks t q)
unfolding insert insert_simple
carried_step Simple ks t q = record { limit = refl; allowed = refl; farthest = refl; next = refl }
carried_step Search ks t q = record { limit = refl; allowed = refl; farthest = refl; next = refl }

inserts_snoc : (g : Tree → Point → Tree) (qs : List Point) (q : Point) (t : Tree) → inserts g (qs ++ (q ∷ [])) t ≡ g (inserts g qs t) q
unfolding inserts
inserts_snoc g [] q t = refl
inserts_snoc g (p ∷ qs) q t = inserts_snoc g qs q (g t p)

tree-next : (way : Way) (ks px py : List ℤ) (a : Query) (w i : ℕ) → tree_after way ks px py a w (i + 1) ≡ step_of way ks (tree_after way ks px py a w i) (point_at px py i)
unfolding tree_after up_to
tree-next way ks px py a w i =
    ap (λ (n : ℕ). inserts (step_of way ks) (firsts px py n) (rooted a.point a.allowed w a.limit)) (add-one i)
    ∙ inserts_snoc (step_of way ks) (firsts px py i) (point_at px py i) (rooted a.point a.allowed w a.limit)

-- path lengths of the search's tree are sums
sums-tree : (way : Way) (ks px py : List ℤ) (a : Query) (w i : ℕ) → SummedFor way (tree_after way ks px py a w i)
unfolding tree_after
sums-tree Simple ks px py a w i = tt
sums-tree Search ks px py a w i =
    let r = routed-start a.point a.allowed w a.limit in
    sums-inserts (keepouts_of ks) (firsts px py i) (rooted a.point a.allowed w a.limit) r.linked r.measured.paths

-- ---- the source alone
module _ (s : Point) (allowed : ℤ) (w limit : ℕ) (m : ℕ) (c c' : Store) (z : SizedStore m c) (room : 0 < m) (b : Begun c s c') where
  abbrev t₀ : Tree
  t₀ = rooted s allowed w limit

  row-start : row_at c'.rows 0 ≡ source_row s
  row-start = ap (λ (r : Rows). row_at r 0) b.rows ∙ row_same m c.rows 0 (source_row s) z.rows room

  end_start : get_or c'.links.last 0 0 ≡ no_node
  end_start = ap (λ (l : List ℕ). get_or l 0 0) b.last ∙ get_or-set_same c.links.last 0 no_node 0 (omega (arith, z.links.last))

  keeps-start : Keeps t₀.nodes (columns_of c')
  keeps-start = record { rows = rows; children = children }
    where
      rows : (i : ℕ) → i < 1 → node_at t₀.nodes i ≡ node_from (row_at c'.rows i) (node_at t₀.nodes i).children
      rows zero h = unfold node_at parent_from in ap (λ (r : Row). node_from r []) (sym row-start)
      rows (suc i) h = absurd (omega arith)

      children : (i : ℕ) → i < 1 → Chain c'.links.prev (get_or c'.links.last i 0) (reverse (node_at t₀.nodes i).children)
      children zero h = unfold node_at Chain in end_start
      children (suc i) h = absurd (omega arith)

  -- the source has no children
  backs-start : Backs t₀.nodes c'.links.next
  backs-start zero h = unfold node_at BackedBy in tt
  backs-start (suc i) h = absurd (omega arith)

  sized-start : SizedStore m c'
  sized-start =
      record {
        rows = subst (SizedRows m) (sym b.rows) (sized_row m c.rows 0 (source_row s) z.rows);
        links = record {
          last = ap length b.last ∙ length-set c.links.last 0 no_node ∙ z.links.last;
          prev = ap length b.prev ∙ z.links.prev;
          next = ap length b.next ∙ z.links.next;
          few = z.links.few;
        };
      }

-- ---- the loop
module _ (px py : List ℤ) (a : Query) (c₀ : Store) (v : Routable px py a c₀) where
  -- before it, when the source is stored
  module _ (c : Store) (b : Begun c₀ a.point c) where
    still_routable : Routable px py a c
    still_routable =
        record {
          sized = sized-start a.point a.allowed 0 a.limit most_nodes c₀ c v.sized (omega arith) b;
          few = v.few;
          both = v.both;
          source = v.source;
          near = v.near;
        }

    alone : SourceAlone a first_counts c
    alone w =
        record {
          formed = formed-start a.point v.source a.allowed w a.limit;
          counted = counted_start a.point v.source a.allowed w a.limit;
          stores = record {
            size = refl;
            steiner = refl;
            terminal = refl;
            keeps = keeps-start a.point a.allowed w a.limit most_nodes c₀ c v.sized (omega arith) b;
            backs = backs-start a.point a.allowed w a.limit most_nodes c₀ c v.sized (omega arith) b;
          };
          query = record { limit = refl; allowed = refl };
          farthest = refl;
        }

    pub may_insert : (k : Counts) → k ≡ first_counts → Routable px py a c × SourceAlone a k c
    may_insert k e = (still_routable, subst (λ (x : Counts). SourceAlone a x c) (sym e) alone)

  module _ (way : Way) (ks : List ℤ) where
    pub starts : (k : Counts) → SourceAlone a k c₀ → Under way ks px py a 0 k c₀
    unfolding tree_after up_to inserts
    starts k holds = record { low = omega arith; next = sym (holds 0).stores.terminal; sized = v.sized; holds = holds }

    module _ (i : ℕ) (k : Counts) (c : Store) (u : Under way ks px py a i k c) where
      -- each terminal brought at most two nodes
      nodes-low : k.nodes ≤ 2 * i + 1
      nodes-low = let h = u.holds 0 in omega (arith, h.counted.size, h.counted.steiners, h.stores.size, h.stores.terminal, u.next)

      pub ends : i ≡ length px → RoutedColumns way ks px py a k c
      ends e =
          let holds = subst (λ (n : ℕ). (w : ℕ) → Holds a w k c (tree_after way ks px py a w n)) e u.holds in
          record {
            tree = λ w. whole w (tree_after way ks px py a w (length px)) (holds w);
            holds = holds;
            next = u.next ∙ ap (λ (n : ℕ). n + 1) e;
            sized = u.sized;
          }
        where
          whole : (w : ℕ) (t : Tree) → Holds a w k c t → tree_in c k a w ≡ t
          whole w t h =
              let nodes : nodes_of (columns_of c) k.nodes ≡ t.nodes = ap (nodes_of (columns_of c)) (sym h.stores.size)
              ∙ nodes_are t h.formed (omega (arith, h.stores.size, nodes-low, v.few, u.low)) most_nodes (columns_of c) (sized-columns u.sized) h.stores.keeps (omega (arith, h.stores.size, nodes-low, u.low, v.few)) in
              λ j. record {
                nodes = nodes j;
                allowed = sym h.query.allowed j;
                farthest = sym h.farthest j;
                limit = sym h.query.limit j;
                next_steiner = sym h.stores.steiner j;
                next_terminal = sym h.stores.terminal j;
              }

      module _ (more : i < length px) (b : Query) (eb : b ≡ query_at px py i a) where
        pub stands : Insertable way b k c
        stands =
            let h = u.holds 0 in
            subst (λ (x : Query). Insertable way x k c) (sym eb)
            (record {
              stands =
                  record {
                    tree = tree_after way ks px py a 0 i;
                    formed = h.formed;
                    stores = h.stores;
                    when = record { query = record { limit = h.query.limit; allowed = h.query.allowed }; sums = sums-tree way ks px py a 0 i };
                    sized = subst (λ (n : ℕ). SizedStore n c) (sym u.sized.rows.xs) u.sized;
                    fits = omega (arith, nodes-low, v.few, u.sized.rows.xs);
                  };
              room = omega (arith, nodes-low, v.few, u.sized.rows.xs);
              small = omega (arith, nodes-low, v.few);
              steiner = omega (arith, h.counted.steiners, h.stores.steiner, h.stores.terminal, u.next, v.few);
              within = v.near i more;
            })

        pub turn : (r : Counts) (c' : Store) → Inserted way ks b k c r c' → Under way ks px py a (i + 1) r c'
        turn r c' o₀ =
            let o : Inserted way ks (query_at px py i a) k c r c' = subst (λ (x : Query). Inserted way ks x k c r c') eb o₀ in
            record {
              low = omega arith;
              next = omega (arith, (o.stores (tree_after way ks px py a 0 i) (u.holds 0).formed (record { limit = (u.holds 0).query.limit; allowed = (u.holds 0).query.allowed }) (u.holds 0).stores).terminal, (carried_step way ks (tree_after way ks px py a 0 i) (point_at px py i)).next, (u.holds 0).stores.terminal, u.next);
              sized = subst (λ (n : ℕ). SizedStore n c') u.sized.rows.xs o.sized;
              holds = λ w. subst (Holds a w r c') (sym (tree-next way ks px py a w i)) (after (tree_after way ks px py a w i) w (u.holds w) o);
            }
          where
            after : (t : Tree) (w : ℕ) → Holds a w k c t → Inserted way ks (query_at px py i a) k c r c' → Holds a w r c' (step_of way ks t (point_at px py i))
            after t w h o =
                let same = carried_step way ks t (point_at px py i) in
                record {
                  formed = formed_step way ks t (point_at px py i) h.formed (v.near i more);
                  counted = counted_step way ks t (point_at px py i) h.formed h.counted;
                  stores = o.stores t h.formed (record { limit = h.query.limit; allowed = h.query.allowed }) h.stores;
                  query = record { limit = same.limit ∙ h.query.limit; allowed = same.allowed ∙ h.query.allowed };
                  farthest = same.farthest ∙ h.farthest;
                }
