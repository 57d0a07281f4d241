-- `plan` is the definition's route: the sorted columns are the sorted terminals, and each mode's choice is what the definition has for it.
use Rattle.std.proofs.Common.{ℕ, zero, suc, ◌+◌, ◌≤◌, ◌<◌, ◌≡◌, refl, sym, ap, subst, ◌∙◌, List, [], ◌∷◌, ◌++◌, arith, length, ℤ, pos}
use Rattle.geometry.specs.declared.Point.{Point}
use Rattle.geometry.specs.Laws.{Within, dist-small}
use Rattle.tree.specs.Limits.{reach, across, most_nodes, no_limit}
use Rattle.tree.specs.Tree.{Tree}
use Rattle.tree.specs.Route.{inserts, rooted, sort, farthest, route}
use Rattle.tree.specs.WellFormed.{WellFormed, Counted}
use Rattle.job.specs.declared.Mode.{Mode}
use Rattle.job.specs.declared.Mode.TheVariants.{Simple, Steiners, Constraints}
use Rattle.tree.specs.Memory.{point_at, points_of, keepouts_of}
use Rattle.sorting.specs.Points.{Sorted}
use Rattle.sorting.proofs.Segments.{seg, seg_append, seg_points}
use Rattle.search.specs.declared.Query.{Query}
use Rattle.joining.specs.declared.Arena.{Arena}
use Rattle.joining.specs.Store.{Store, columns_of, Sized, SizedStore, Keeps, up_to}
use Rattle.joining.specs.Buffers.{stored}
use Rattle.joining.proofs.Reading.{sized-columns, backed_of}
use Rattle.tables.specs.declared.Table.{Table}
use Rattle.tables.specs.Held.{TreeIn}
use Rattle.tables.specs.Table.{table_tree}
use Rattle.inserting.specs.Insert.{step_of}
use Rattle.inserting.specs.Route.{tree_after, Routable, Holds, RoutedColumns}
use Rattle.route.specs.declared.Choice.{Choice}
use Rattle.route.specs.Routing.{way_of}
use Rattle.route.specs.Plan.{choice_of, Plannable, TableRouted, Planned}

-- ---- the first n of a column, from the front and from the back
upto_seg : (f : ℕ → Point) (n : ℕ) → up_to f n ≡ seg f 0 n
unfolding up_to seg
upto_seg f zero = refl
upto_seg f (suc n) =
    ap (λ (l : List Point). l ++ (f n ∷ [])) (upto_seg f n)
    ∙ ap (λ (x : ℕ). seg f 0 n ++ (f x ∷ [])) (zero_left n)
    ∙ sym (seg_append f 0 n 1)
    ∙ ap (seg f 0) (one_more n)
  where
    zero_left : (n : ℕ) → n ≡ 0 + n
    zero_left n = omega arith

    one_more : (n : ℕ) → n + 1 ≡ suc n
    one_more n = omega arith

-- ---- W is small
far : (s : Point) (f : ℕ → Point) → Within reach s → (i k : ℕ) → ((j : ℕ) → j < i + k → Within reach (f j)) → farthest s (seg f i k) ≤ across
unfolding seg
far s f h i zero g = omega arith
far s f h i (suc k) g = omega (arith, dist-small h (g i (omega arith)), far s f h (suc i) k (λ j l. g j (omega arith)))

pub farthest-bound : {px py : List ℤ} {s : Point} → Plannable px py s → farthest s (points_of px py) ≤ across
farthest-bound {px} {py} {s} v =
    omega (arith, ap (farthest s) (seg_points px py v.even.both), far s (point_at px py) v.source 0 (length px) (λ j l. v.even.near j (omega arith)))

-- ---- what a mode chooses
module _ (s : Point) (w : ℕ) where
  from_source : (mode : Mode) → (choice_of mode s w).query.point ≡ s
  from_source Simple = refl
  from_source Steiners = refl
  from_source (Constraints m) = refl

  limit-small : (mode : Mode) → w ≤ across → (choice_of mode s w).query.limit ≤ no_limit
  limit-small Simple h = omega arith
  limit-small Steiners h = omega arith
  limit-small (Constraints m) h = omega arith

  -- the definition's route, by that choice
  by_choice : (mode : Mode) (ks : List ℤ) (ts : List Point) → w ≡ farthest s ts
      → inserts (step_of (choice_of mode s w).way ks) (sort s ts) (rooted (choice_of mode s w).query.point (choice_of mode s w).query.allowed w (choice_of mode s w).query.limit)
      ≡ route (way_of mode) s ts (keepouts_of ks)
  by_choice Simple ks ts e = ap (λ (v : ℕ). inserts (step_of (choice_of Simple s v).way ks) (sort s ts) (rooted s (pos no_limit) v no_limit)) e
  by_choice Steiners ks ts e = ap (λ (v : ℕ). inserts (step_of (choice_of Steiners s v).way ks) (sort s ts) (rooted s (pos no_limit) v no_limit)) e
  by_choice (Constraints m) ks ts e = ap (λ (v : ℕ). inserts (step_of (choice_of (Constraints m) s v).way ks) (sort s ts) (rooted s (choice_of (Constraints m) s v).query.allowed v v)) e

-- ---- the call on sorted columns
pub routable : {px py : List ℤ} {a : Query} → Plannable px py a.point → (c : Store) → SizedStore most_nodes c → Routable px py a c
routable v c z =
    record {
      sized = z;
      few = v.few;
      both = v.even.both;
      source = v.source;
      near = v.even.near;
    }

-- ---- a well-formed tree stands in the arena with the choice's figures
module _ (px py ks : List ℤ) (c : Choice) (w : ℕ) (v : Plannable px py c.query.point) (small : (c.query.limit ≤ no_limit) × (w ≤ across)) (a : Arena) (of : RoutedColumns c.way ks px py c.query a.counts (stored a)) where
  abbrev T : Tree
  T = tree_after c.way ks px py c.query w (length px)

  h : Holds c.query w a.counts (stored a) T
  h = of.holds w

  few : length T.nodes ≤ most_nodes
  few = omega (arith, h.counted.size, h.counted.steiners, h.stores.terminal, of.next, v.few)

  z : Sized most_nodes (columns_of (stored a))
  z = sized-columns of.sized

  pub routed_held : TreeIn a c.query.limit c.query.allowed w
  routed_held =
      record {
        formed = subst WellFormed (sym (of.tree w)) h.formed;
        keeps = subst (λ (x : Tree). Keeps x.nodes (columns_of (stored a))) (sym (of.tree w)) h.stores.keeps;
        sized = z;
        back =
            record {
              size = of.sized.links.next;
              agree = λ p l. backed_of T h.formed few most_nodes (columns_of (stored a)) z h.stores.keeps few (stored a).links.next h.stores.backs p (omega (arith, h.stores.size));
            };
        few = omega (arith, h.stores.size, few);
        steiners = omega (arith, h.counted.steiners, h.stores.steiner, h.stores.terminal, of.next, v.few);
        limit-small = small.0;
        farthest-small = small.1;
      }

-- ---- the whole
module _ (px py : List ℤ) (s : Point) (mode : Mode) (v : Plannable px py s) (px' py' : List ℤ) (sorted : Sorted px py s px' py')
    (w : ℕ) (is-w : w ≡ farthest s (points_of px py)) (c : Choice) (is_c : c ≡ choice_of mode s w) where
  pub sorted_plannable : Plannable px' py' c.query.point
  sorted_plannable =
      record {
        even = sorted.even;
        few = omega (arith, v.few, sorted.size);
        source = subst (Within reach) (sym (ap (λ (x : Choice). x.query.point) is_c ∙ from_source s w mode)) v.source;
      }

  pub figures_small : (c.query.limit ≤ no_limit) × (w ≤ across)
  figures_small =
      let low : w ≤ across = omega (arith, is-w, farthest-bound v) in
      (omega (arith, ap (λ (x : Choice). x.query.limit) is_c, limit-small s w mode low), low)

  module _ (ks : List ℤ) (t : Table) (of : TableRouted ks px' py' c w t) where
    table_is : table_tree t ≡ tree_after c.way ks px' py' c.query w (length px')
    table_is =
        (λ i. record {
          nodes = (table_tree t).nodes;
          allowed = of.allowed i;
          farthest = of.farthest i;
          limit = of.limit i;
          next_steiner = t.arena.counts.steiner.0;
          next_terminal = t.arena.counts.terminal.0;
        })
        ∙ of.columns.tree w

    tree_is : tree_after c.way ks px' py' c.query w (length px') ≡ route (way_of mode) s (points_of px py) (keepouts_of ks)
    unfolding tree_after
    tree_is =
        (λ i. inserts (step_of (is_c i).way ks) ((upto_seg (point_at px' py') (length px') ∙ seg_points px' py' sorted.even.both ∙ sorted.is) i) (rooted (is_c i).query.point (is_c i).query.allowed w (is_c i).query.limit))
        ∙ by_choice s w mode ks (points_of px py) is-w

    pub planned : Planned ks px py s mode t
    planned =
        let h = of.columns.holds w in
        record {
          tree = table_is ∙ tree_is;
          counted = subst Counted (sym table_is) h.counted;
          next = of.columns.next ∙ ap (λ (n : ℕ). n + 1) sorted.size;
        }
