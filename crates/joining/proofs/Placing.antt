-- What the code that joins a terminal at a place needs, and what it shows: from a tree that stands in the columns, the tree with the terminal joined.
use Rattle.std.proofs.Common.{ℕ, ◌+◌, ◌≤◌, ◌<◌, ◌≡◌, sym, subst, List, arith, length, get_or}
use Rattle.geometry.specs.declared.Point.{Point}
use Rattle.tree.specs.Limits.{most_nodes, no_node}
use Rattle.tree.specs.Tree.{Tree, at, node_at}
use Rattle.tree.specs.Route.{joined}
use Rattle.tree.specs.WellFormed.{new_nodes}
use Rattle.tree.proofs.Linking.{child_in, parent_in_lem}
use Rattle.tree.proofs.Forming.{terminals-few}
use Rattle.search.specs.declared.Join.{Join}
use Rattle.search.specs.declared.Join.TheVariants.{Onto, Split}
use Rattle.search.specs.Walk.{node_index}
use Rattle.search.specs.Columns.{Has, chain, Chain}
use Rattle.search.specs.Find.{examined, join_of}
use Rattle.joining.specs.declared.Counts.{Counts}
use Rattle.joining.specs.declared.Row.{Row}
use Rattle.joining.specs.Store.{Store, columns_of}
use Rattle.joining.specs.Links.{SizedLinks, Spliceable}
use Rattle.joining.specs.Join.{ReadsIn, view_in, terminal_row, path_below, one_more, two_more, Attachable, RowAttached, Splittable, BranchSplit}
use Rattle.joining.specs.Standing.{Standing, At, Joined}
use Rattle.joining.proofs.Agree.{has-child}
use Rattle.joining.proofs.Reading.{sized-columns, children_are, backed_of, reads}
use Rattle.joining.proofs.Growing.{path_below_lem, stores-terminal, sized-terminal, stores-split, sized-split_in}

-- less is asked
pub weaker : {W W' : Tree → Type 0} {more less : ℕ} {q : Point} {k : Counts} {c : Store} (v : Standing W more q k c) → (W v.stands.tree → W' v.stands.tree) → less ≤ more → Standing W' less q k c
weaker v g h =
    record {
      stands = record { tree = v.stands.tree; formed = v.stands.formed; stores = v.stands.stores; when = g v.stands.when; sized = v.stands.sized; fits = v.stands.fits };
      room = omega (arith, v.room);
      small = v.small;
      steiner = v.steiner;
      within = v.within;
    }

-- ---- any of them
module _ {W : Tree → Type 0} {more : ℕ} {q : Point} {k : Counts} {c : Store} (v : Standing W more q k c) where
  abbrev m : ℕ
  m = length c.rows.xs

  pub few : length v.stands.tree.nodes ≤ most_nodes
  few = omega (arith, v.stands.stores.size, v.small)

  in_m : (p : ℕ) → p < length v.stands.tree.nodes → p < m
  in_m p h = omega (arith, v.stands.stores.size, v.room)

  pub read : (p : ℕ) → p < length v.stands.tree.nodes → ReadsIn c.rows p
  read p h = reads v.stands.tree v.stands.formed few m (columns_of c) (sized-columns v.stands.sized) v.stands.stores.keeps (omega (arith, v.stands.stores.size, v.room)) p h

  -- the counts with one more terminal fit
  pub next-counts : 0 < more → (k.nodes < no_node) × (k.terminal.0 < no_node)
  next-counts h = (omega (arith, v.room, v.stands.sized.links.few), omega (arith, v.stands.stores.terminal, terminals-few v.stands.formed, few))

  pub may_attach : 0 < more → (p : ℕ) → p < length v.stands.tree.nodes → Attachable c k.nodes p
  may_attach h p l = record { sized = v.stands.sized; room = omega (arith, v.room); at = in_m p l }

  -- the links of a branch from p to d can be changed
  module _ (p d : ℕ) (link : (node_at v.stands.tree.nodes d).parent ≡ at p) where
    pub in_start : p < length v.stands.tree.nodes
    in_start = parent_in_lem v.stands.formed.linked d p link

    pub in_end : d < length v.stands.tree.nodes
    in_end = child_in v.stands.formed.linked d p link

    children-start : chain c.links.prev (get_or c.links.last p 0) ≡ examined v.stands.tree.nodes p
    children-start = children_are v.stands.tree v.stands.formed few _ (columns_of c) (sized-columns v.stands.sized) v.stands.stores.keeps (omega (arith, v.stands.stores.size, v.room)) p in_start

    pub may_splice : (i s : ℕ) → i < m → s < m → Spliceable c.links p d i s
    may_splice i s hi hs =
        record {
          sized = subst (λ (n : ℕ). SizedLinks n c.links) (sym v.stands.sized.links.last) v.stands.sized.links;
          in_p = omega (arith, v.stands.sized.links.last, in_m p in_start);
          in_c = omega (arith, v.stands.sized.links.last, in_m d in_end);
          in_i = omega (arith, v.stands.sized.links.last);
          in_s = omega (arith, v.stands.sized.links.last);
          linked = record { is = subst (λ (l : List ℕ). Chain c.links.prev (get_or c.links.last p 0) l) (sym children-start) (v.stands.stores.keeps.children p in_start) };
          has = subst (Has d) (sym children-start) (has-child v.stands.tree.nodes v.stands.formed.linked p d link);
          backed = backed_of v.stands.tree v.stands.formed few _ (columns_of c) (sized-columns v.stands.sized) v.stands.stores.keeps (omega (arith, v.stands.stores.size, v.room)) c.links.next v.stands.stores.backs p in_start;
        }

-- ---- the place, by another name
module _ {j j' : Join} (e : j ≡ j') (q : Point) {k : Counts} {c : Store} where
  pub stands_at : Standing (At j) (new_nodes (join_of j)) q k c → Standing (At j') (new_nodes (join_of j')) q k c
  stands_at v = subst (λ (x : Join). Standing (At x) (new_nodes (join_of x)) q k c) e v

  pub joined_at : {r : Counts} {c' : Store} → Joined j' q k c r c' → Joined j q k c r c'
  joined_at {r} {c'} o = subst (λ (x : Join). Joined x q k c r c') (sym e) o

-- ---- at a node
module _ {q : Point} {k : Counts} {c : Store} (p : ℕ) (v : Standing (At (Onto (node_index p))) 1 q k c) where
  pub next-onto : (k.nodes < no_node) × (k.terminal.0 < no_node)
  next-onto = next-counts v (omega arith)

  pub reads-onto : ReadsIn c.rows p
  reads-onto = read v p v.stands.when

  module _ (row : Row) (er : row ≡ terminal_row p q (path_below (view_in c.rows p) q) k.terminal) where
    pub may_onto : Attachable c k.nodes row.parent.0
    may_onto = subst (λ (x : Row). Attachable c k.nodes x.parent.0) (sym er) (may_attach v (omega arith) p v.stands.when)

    pub did_onto : (c' : Store) → RowAttached c k.nodes row c' → (r : Counts) → r ≡ one_more k → Joined (Onto (node_index p)) q k c r c'
    unfolding joined
    did_onto c' o₀ r ek =
        let o : RowAttached c k.nodes (terminal_row p q (path_below (view_in c.rows p) q) k.terminal) c' = subst (λ (x : Row). RowAttached c k.nodes x c') er o₀ in
        subst (λ (x : Counts). Joined (Onto (node_index p)) q k c x c') (sym ek)
        (record {
          stores = λ t f h s. stores-terminal t f k c s _ v.stands.sized (omega (arith, v.room)) p h q _ _ (path_below_lem t f k c s _ v.stands.sized p h q) c' o;
          sized = sized-terminal v.stands.tree v.stands.formed k c v.stands.stores _ v.stands.sized (omega (arith, v.room)) p v.stands.when q _ _
              (path_below_lem v.stands.tree v.stands.formed k c v.stands.stores _ v.stands.sized p v.stands.when q) c' o;
        })

-- ---- on a branch
module _ {q : Point} {k : Counts} {c : Store} (p d : ℕ) (u : Standing (At (Split (node_index p) (node_index d))) 2 q k c) where
  pub may_split : Splittable c k p d q
  may_split =
      record {
        rows = record {
          sized = u.stands.sized.rows;
          room = omega (arith, u.room);
          few = u.stands.sized.links.few;
          at = read u p (in_start u p d u.stands.when);
          to = read u d (in_end u p d u.stands.when);
          within = u.within;
        };
        links = may_splice u p d u.stands.when k.nodes (k.nodes + 1) (omega (arith, u.room)) (omega (arith, u.room));
      }

  pub next-split : (k.nodes + 1 < no_node) × ((k.steiner.0 < no_node) × (k.terminal.0 < no_node))
  next-split = (omega (arith, u.room, u.stands.sized.links.few), (u.steiner, (next-counts u (omega arith)).1))

  pub did_split : (c' : Store) → BranchSplit c k p d q c' → (r : Counts) → r ≡ two_more k → Joined (Split (node_index p) (node_index d)) q k c r c'
  did_split c' o r ek =
      subst (λ (x : Counts). Joined (Split (node_index p) (node_index d)) q k c x c') (sym ek)
      (record {
        stores = λ t f h s. stores-split t f k c s _ u.stands.sized (omega (arith, u.room)) p d h q c' o;
        sized = sized-split_in u.stands.tree u.stands.formed k c u.stands.stores _ u.stands.sized (omega (arith, u.room)) p d u.stands.when q c' o;
      })
