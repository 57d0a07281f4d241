-- The columns after a row is attached keep the nodes with one more: its own row and children are new, its parent's children are more, and the others are as before.
use Rattle.std.proofs.Common.{ℕ, ◌<◌, ◌≡◌, ap, sym, subst, ◌∙◌, ◌≢◌, List, [], ◌∷◌, ◌++◌, arith, length}
use Rattle.tree.specs.Tree.{Node, node_at, adopt}
use Rattle.tree.specs.Route.{attach}
use Rattle.tree.specs.Shape.{Linked}
use Rattle.tree.proofs.Nodes.{AtNode, new, joint, old, at_node_lem, length-attach}
use Rattle.joining.specs.declared.Row.{Row}
use Rattle.joining.specs.Store.{Rows, Store, columns_of, row_at, set_row, SizedRows, SizedStore, Keeps, Backs, node_from}
use Rattle.joining.specs.Links.{Appended}
use Rattle.joining.proofs.Agree.{no_child, once, apart}
use Rattle.joining.proofs.Lists.{Held}
use Rattle.joining.proofs.Steps.{row_same, row_other, sized_row, node_lift, held, held_lift, appended_own, appended_other, appended_self, appended_sized}

module _ (m : ℕ) (ns : List Node) (c : Store) (z : SizedStore m c) (k : Keeps ns (columns_of c)) (b : Backs ns c.links.next) (g : Linked ns) (p : ℕ) (h : p < length ns) (room : length ns < m)
    (n : Node) (row : Row) (c' : Store)
    (er : c'.rows ≡ set_row c.rows (length ns) row) (v : Appended c.links p (length ns) c'.links) (is : node_from row [] ≡ n) where
  abbrev M : List Node
  M = attach ns p n

  row-there : (j : ℕ) → j ≢ length ns → row_at c'.rows j ≡ row_at c.rows j
  row-there j d = ap (λ (r : Rows). row_at r j) er ∙ row_other c.rows (length ns) j row d

  row_new : row_at c'.rows (length ns) ≡ row
  row_new = ap (λ (r : Rows). row_at r (length ns)) er ∙ row_same m c.rows (length ns) row z.rows room

  inside : (j : ℕ) → j < length M → j ≢ length ns → j < length ns
  inside j l d = omega (arith, length-attach ns p n h)

  abbrev children : ℕ → List ℕ
  children j = (node_at ns j).children

  held_attach : (j : ℕ) → j < length M → Held c'.links j (node_at M j).children
  held_attach j l = by (at_node_lem ns p n h j)
    where
      by : AtNode ns p n h j → Held c'.links j (node_at M j).children
      by (new e f) =
          held_lift M c'.links j n f
          (subst (λ (x : ℕ). Held c'.links x n.children) (sym e)
          (subst (λ (x : Node). Held c'.links (length ns) x.children) is
          (appended_self m c.links p (length ns) c'.links v z.links (omega arith) room (omega arith) (children p) (held k b p h))))
      by (joint e f) =
          held_lift M c'.links j _ f
          (subst (λ (x : ℕ). Held c'.links x (children p ++ (length ns ∷ []))) (sym e)
          (appended_own m c.links p (length ns) c'.links v z.links (omega arith) room (omega arith) (children p) (held k b p h) (once ns g p) (no_child ns g p (length ns) (omega arith))))
      by (old d e f) =
          held_lift M c'.links j _ f
          (appended_other m c.links p (length ns) c'.links v z.links (omega arith) room (omega arith) (children p) (held k b p h)
          j (children j) e d (held k b j (inside j l d)) (no_child ns g j (length ns) (omega arith)) (apart ns g p j (λ x. e (sym x))))

  pub keeps-attach : Keeps M (columns_of c')
  keeps-attach = record { rows = λ j l. by j l (at_node_lem ns p n h j); children = λ j l. (held_attach j l).chain }
    where
      by : (j : ℕ) → j < length M → AtNode ns p n h j → node_at M j ≡ node_from (row_at c'.rows j) (node_at M j).children
      by j l (new e f) = node_lift M c'.rows j n row f (ap (row_at c'.rows) e ∙ row_new) (sym is ∙ (λ i. node_from row (is i).children))
      by j l (joint e f) =
          node_lift M c'.rows j _ (row_at c.rows p) f (ap (row_at c'.rows) e ∙ row-there p (omega arith)) (ap (adopt (length ns)) (k.rows p h))
      by j l (old d e f) = node_lift M c'.rows j _ (row_at c.rows j) f (row-there j d) (k.rows j (inside j l d))

  pub backs-attach : Backs M c'.links.next
  backs-attach j l = (held_attach j l).back

  pub sized-attach : SizedStore m c'
  sized-attach =
      record {
        rows = subst (SizedRows m) (sym er) (sized_row m c.rows (length ns) row z.rows);
        links = appended_sized m c.links p (length ns) c'.links v z.links;
      }
