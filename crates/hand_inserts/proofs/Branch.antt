-- A node on the branch from p to d: what the code needs of a tree that stands in the columns, and that the tree with the node stands there after it.
-- The idea: links and rows are those of a node between p and d (Between.antt of the crate joining), with no other node beside it.
use Rattle.std.proofs.Common.{ℕ, ◌<◌, ◌≡◌, refl, ap, sym, subst, ◌∙◌, ◌≢◌, List, [], ◌∷◌, ◌++◌, arith, length}
use Rattle.geometry.specs.declared.Point.{Point}
use Rattle.tree.specs.Tree.{Node, Tree, at, node_at, without, replace_last}
use Rattle.tree.specs.Route.{new_node, splice}
use Rattle.tree.specs.Edits.{spliced}
use Rattle.tree.specs.Shape.{Linked}
use Rattle.tree.specs.Memory.{name_in}
use Rattle.tree.specs.declared.NodeName.{NodeName}
use Rattle.tree.specs.WellFormed.{WellFormed}
use Rattle.tree.proofs.Linking.{child_in, not_own}
use Rattle.tree.proofs.Splicing.{At, knot, start, end, rest, at-splice, length-splice}
use Rattle.joining.specs.declared.Counts.{Counts}
use Rattle.joining.specs.declared.Row.{Row}
use Rattle.joining.specs.Links.{Spliceable}
use Rattle.joining.specs.Store.{Store, columns_of, row_at, set_row, set_parent, node_from, SizedRows, SizedStore, Keeps, Backs}
use Rattle.joining.specs.Standing.{Standing, Stores}
use Rattle.joining.proofs.Lists.{Held}
use Rattle.joining.proofs.Steps.{node_lift, held_lift, sized_row, sized-parent}
use Rattle.joining.proofs.Between.{sized-between, held_new, held_other, held_start, row_new, start_is, end_is, rest_is}
use Rattle.joining.proofs.Growing.{stores-grown}
use Rattle.joining.proofs.Placing.{in_start, in_end, may_splice}
use Rattle.hand_inserts.specs.Insert.{new_row, counts_after, Between, LinkedBetween, BetweenInserted}
use Rattle.hand_inserts.proofs.Naming as naming

-- ---- nodes in columns
module _ (m : ℕ) (ns : List Node) (c : Store) (z : SizedStore m c) (k : Keeps ns (columns_of c)) (b : Backs ns c.links.next) (g : Linked ns) (p d : ℕ) (link : (node_at ns d).parent ≡ at p) (room : length ns < m)
    (n : Node) (over : n.parent ≡ at p) (only : n.children ≡ d ∷ []) (c' : Store) where
  abbrev M : List Node
  M = splice ns p d n

  inside : (j : ℕ) → j < length M → j ≢ length ns → j < length ns
  inside j l e = omega (arith, length-splice ns p d n g link over only)

  module _ (v : LinkedBetween c.links p d (length ns) c'.links) where
    held_splice : (j : ℕ) → j < length M → Held c'.links j (node_at M j).children
    unfolding replace_last
    held_splice j l = by (at-splice ns p d n g link over only j)
      where
        other : (i : ℕ) → i < length ns → i ≢ p → Held c'.links i (node_at ns i).children
        other = held_other m ns c z k b g p d link (length ns) (omega arith) room v.l₁ v.l₂ c'.links v.leaves v.joins v.takes

        by : At ns p d n g link over only j → Held c'.links j (node_at M j).children
        by (knot e f) =
            held_lift M c'.links j _ f
            (subst (λ (x : List ℕ). Held c'.links j x) (sym only)
            (subst (λ (x : ℕ). Held c'.links x (d ∷ [])) (sym e)
            (held_new m ns c z k b g p d link (length ns) (omega arith) room v.l₁ v.l₂ c'.links v.leaves v.joins v.takes)))
        by (start e f) =
            held_lift M c'.links j _ f
            (subst (λ (x : ℕ). Held c'.links x (without d (node_at ns p).children ++ (length ns ∷ []))) (sym e)
            (held_start m ns c z k b g p d link (length ns) (omega arith) room v.l₁ v.l₂ c'.links v.leaves v.joins v.takes))
        by (end e f) = held_lift M c'.links j _ f (subst (λ (x : ℕ). Held c'.links x (node_at ns d).children) (sym e) (other d (child_in g d p link) (not_own g d p link)))
        by (rest a e h f) = held_lift M c'.links j _ f (other j (inside j l a) e)

    pub backs-splice : Backs M c'.links.next
    backs-splice j l = (held_splice j l).back

    module _ (row : Row) (er : c'.rows ≡ set_parent (set_row c.rows (length ns) row) d (length ns)) where
      pub keeps-splice : node_from row (d ∷ []) ≡ n → Keeps M (columns_of c')
      unfolding replace_last
      keeps-splice is = record { rows = λ j l. by j l (at-splice ns p d n g link over only j); children = λ j l. (held_splice j l).chain }
        where
          by : (j : ℕ) → j < length M → At ns p d n g link over only j → node_at M j ≡ node_from (row_at c'.rows j) (node_at M j).children
          by j l (knot e f) =
              node_lift M c'.rows j n row f (ap (row_at c'.rows) e ∙ row_new m ns c z k b g p d link (length ns) (omega arith) room c.rows z.rows (λ i h. refl) row c'.rows er)
              (sym is ∙ (λ i. node_from row (is i).children))
          by j l (start e f) = node_lift M c'.rows j _ _ f (ap (row_at c'.rows) e) (start_is m ns c z k b g p d link (length ns) (omega arith) room c.rows z.rows (λ i h. refl) row c'.rows er)
          by j l (end e f) = node_lift M c'.rows j _ _ f (ap (row_at c'.rows) e) (end_is m ns c z k b g p d link (length ns) (omega arith) room c.rows z.rows (λ i h. refl) row c'.rows er)
          by j l (rest a e h f) = node_lift M c'.rows j _ _ f refl (rest_is m ns c z k b g p d link (length ns) (omega arith) room c.rows z.rows (λ i h. refl) row c'.rows er j (inside j l a) h)

      pub sized-splice : SizedStore m c'
      sized-splice =
          record {
            rows = subst (SizedRows m) (sym er) (sized-parent m _ d (length ns) (sized_row m c.rows (length ns) row z.rows));
            links = sized-between m ns c z k b g p d link (length ns) (omega arith) room v.l₁ v.l₂ c'.links v.leaves v.joins v.takes;
          }

-- ---- a tree that stands in columns
module _ (n : NodeName) (p d : ℕ) {q : Point} {k : Counts} {c : Store} (v : Standing (Between (name_in n) p d) 1 q k c) where
  pub may_store : (d < length c.rows.xs) × (k.nodes < length c.rows.xs)
  may_store = (omega (arith, in_end v p d v.stands.when.0, v.stands.stores.size, v.room), omega (arith, v.room))

  pub may_link : Spliceable c.links p d k.nodes k.nodes
  may_link = may_splice v p d v.stands.when.0 k.nodes k.nodes (omega (arith, v.room)) (omega (arith, v.room))

  module _ (row : Row) (er : row ≡ new_row n q p) (c' : Store) (rows : c'.rows ≡ set_parent (set_row c.rows k.nodes row) d k.nodes) (links : LinkedBetween c.links p d k.nodes c'.links) where
    abbrev new : Node
    new = new_node (name_in n) p q (d ∷ []) 0

    module _ (t : Tree) (f : WellFormed t) (h : Between (name_in n) p d t) (s : Stores t k c) where
      rows-there : c'.rows ≡ set_parent (set_row c.rows (length t.nodes) (new_row n q p)) d (length t.nodes)
      rows-there = rows ∙ (λ i. set_parent (set_row c.rows (sym s.size i) (er i)) d (sym s.size i))

      links-there : LinkedBetween c.links p d (length t.nodes) c'.links
      links-there = subst (λ (x : ℕ). LinkedBetween c.links p d x c'.links) (sym s.size) links

      space : length t.nodes < length c.rows.xs
      space = omega (arith, s.size, v.room)

      stores-between : (r : Counts) → r ≡ counts_after (name_in n) k → Stores (spliced t (name_in n) q p d) r c'
      stores-between r ek =
          stores-grown t f k c s _ v.stands.sized (name_in n) _ (length-splice t.nodes p d new f.linked h.0 refl refl) r (naming.counts-one (name_in n) k r ek) c'
          (keeps-splice _ t.nodes c v.stands.sized s.keeps s.backs f.linked p d h.0 space new refl refl c' links-there _ rows-there
          (naming.row_new n q p (d ∷ []) (omega (arith, in_start v p d v.stands.when.0, v.stands.stores.size, v.room, v.stands.sized.links.few))))
          (backs-splice _ t.nodes c v.stands.sized s.keeps s.backs f.linked p d h.0 space new refl refl c' links-there)

      sized-between_in : SizedStore (length c.rows.xs) c'
      sized-between_in = sized-splice _ t.nodes c v.stands.sized s.keeps s.backs f.linked p d h.0 space new refl refl c' links-there _ rows-there

    pub did_between : (r : Counts) → r ≡ counts_after (name_in n) k → BetweenInserted (name_in n) q p d k c r c'
    did_between r ek = record { stores = λ t f h s. stores-between t f h s r ek; sized = sized-between_in v.stands.tree v.stands.formed v.stands.when v.stands.stores }
