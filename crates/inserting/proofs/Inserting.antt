-- What the two ways to insert a terminal need, and what they show: the closest node is the tree's, and the search's place is in the tree.
use Rattle.std.proofs.Common.{ℕ, ◌≤◌, ◌<◌, ◌≡◌, refl, ap, sym, subst, ◌∙◌, List, arith, length, ℤ}
use Rattle.geometry.specs.declared.Point.{Point}
use Rattle.tree.specs.Limits.{most_nodes}
use Rattle.tree.specs.Tree.{Node, Tree, terminal}
use Rattle.tree.specs.Search as T
use Rattle.tree.specs.Route.{closest, insert_simple, insert, attached}
use Rattle.tree.specs.Route as TR
use Rattle.tree.specs.WellFormed.{WellFormed, Fits, new_nodes}
use Rattle.tree.proofs.Routing.{closest_in}
use Rattle.tree.proofs.Fitting.{find-fits}
use Rattle.search.specs.declared.Query.{Query}
use Rattle.search.specs.declared.Found.{Found}
use Rattle.tree.specs.Memory.{keepouts_of}
use Rattle.search.specs.Find.{join_of}
use Rattle.joining.specs.declared.Counts.{Counts}
use Rattle.joining.specs.Store.{Store, columns_of}
use Rattle.joining.specs.Join.{terminal_row, one_more, Attachable, RowAttached}
use Rattle.joining.specs.Standing.{Stores, Standing, Anything, At, Joined}
use Rattle.joining.proofs.Reading.{sized-columns, walks, kept}
use Rattle.joining.proofs.Placing.{weaker, few, may_attach}
use Rattle.joining.proofs.Growing.{stores-terminal, sized-terminal}
use Rattle.inserting.specs.declared.Way.{Way}
use Rattle.inserting.specs.declared.Way.TheVariants.{Simple, Search}
use Rattle.nearest.specs.Columns.{NearPoints}
use Rattle.nearest.specs.Closest.{ClosestOf}
use Rattle.nearest.proofs.Closest.{near-points, closest_is}
use Rattle.inserting.specs.Insert.{InsertedSimple, QueryOf, Insertable, Inserted, Searchable, FoundIn}

-- ---- at the closest node
module _ {q : Point} {k : Counts} {c : Store} (v : Standing Anything 1 q k c) where
  module _ (p : ℕ) (e : ClosestOf k.nodes k.nodes c.rows.xs c.rows.ys q p) where
    is : (t : Tree) → Stores t k c → p ≡ closest t.nodes q (length t.nodes)
    is t s = closest_is s.size s.keeps q e

    in_tree : (t : Tree) → WellFormed t → Stores t k c → p < length t.nodes
    in_tree t f s = subst (λ (x : ℕ). x < length t.nodes) (sym (is t s)) (closest_in t.nodes q f.linked.some (length t.nodes) (omega arith))

    pub may_simple : Attachable c k.nodes p
    may_simple = may_attach v (omega arith) p (in_tree v.stands.tree v.stands.formed v.stands.stores)

    pub did_simple : (c' : Store) → RowAttached c k.nodes (terminal_row p q 0 k.terminal) c' → (r : Counts) → r ≡ one_more k → InsertedSimple q k c r c'
    unfolding insert_simple
    did_simple c' o r ek =
        subst (λ (x : Counts). InsertedSimple q k c x c') (sym ek)
        (record {
          stores = λ t f w s.
              subst (λ (x : ℕ). Stores (attached t (terminal t.next_terminal) q x) (one_more k) c') (is t s)
              (stores-terminal t f k c s _ v.stands.sized (omega (arith, v.room)) p (in_tree t f s) q 0 0 refl c' o);
          sized = sized-terminal v.stands.tree v.stands.formed k c v.stands.stores _ v.stands.sized (omega (arith, v.room)) p (in_tree v.stands.tree v.stands.formed v.stands.stores) q 0 0 refl c' o;
        })

-- ---- by the search
most : (x : T.Join) → new_nodes x ≤ 2
most (T.onto p) = omega arith
most (T.split p d) = omega arith

module _ {k : Counts} {c : Store} {a : Query} (v : Insertable Search a k c) where
  pub searchable : Searchable k.nodes a c
  searchable =
      record {
        ready = record {
          nodes = v.stands.tree.nodes;
          size = v.stands.stores.size;
          small = omega (arith, v.small);
          kept = kept v.stands.tree v.stands.formed (few v) _ (columns_of c) (sized-columns v.stands.sized) v.stands.stores.keeps (omega (arith, v.stands.stores.size, v.room));
          tree = walks v.stands.tree v.stands.formed (few v);
          within = v.within;
        };
        linked = v.stands.formed.linked;
        in_parent = omega (arith, v.room, v.stands.sized.rows.parent);
        parents = λ i h. ap (λ (n : Node). n.parent) (v.stands.stores.keeps.rows i h);
        sums = v.stands.when.sums;
      }

  module _ {ks : List ℤ} (r : Found) (found : FoundIn k.nodes a c ks r) where
    found_is : (t : Tree) → WellFormed t → QueryOf a t → Stores t k c → T.find (T.blocked (keepouts_of ks)) t.nodes t.limit t.allowed a.point ≡ join_of r.join
    found_is t f query s =
        let small : length t.nodes ≤ most_nodes = omega (arith, s.size, v.small) in
        (λ i. T.find (T.blocked (keepouts_of ks)) t.nodes (query.limit i) (query.allowed i) a.point)
        ∙ sym (found t.nodes s.size (walks t f small) (kept t f small _ (columns_of c) (sized-columns v.stands.sized) s.keeps (omega (arith, s.size, v.room)))).join

    fits : (t : Tree) → WellFormed t → QueryOf a t → Stores t k c → At r.join t
    fits t f query s = subst (Fits t.nodes) (found_is t f query s) (find-fits t.nodes f.linked (T.blocked (keepouts_of ks)) t.limit t.allowed a.point)

    pub may_join : Standing (At r.join) (new_nodes (join_of r.join)) a.point k c
    may_join = weaker v (λ h. fits v.stands.tree v.stands.formed h.query v.stands.stores) (most (join_of r.join))

    pub did_search : {k' : Counts} {c' : Store} → Joined r.join a.point k c k' c' → Inserted Search ks a k c k' c'
    unfolding insert
    did_search {k'} {c'} o =
        record {
          stores = λ t f h s. subst (λ (x : T.Join). Stores (TR.join t a.point x) k' c') (sym (found_is t f h s)) (o.stores t f (fits t f h s) s);
          sized = o.sized;
        }
