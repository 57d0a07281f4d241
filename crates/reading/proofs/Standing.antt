-- In the arena of a table a tree stands, so what is read of it is read of the table's tree; and what a name leads to decides of its path.
use Rattle.std.proofs.Common.{ℕ, ◌<◌, ◌≡◌, refl, sym, ap, subst, ◌∙◌, List, arith, Option, None, Some, Result, Err}
use Rattle.refusal.specs.declared.Refusal.{Refusal}
use Rattle.refusal.specs.declared.Refusal.TheVariants.{NoSuchNode}
use Rattle.tree.specs.Tree.{Name}
use Rattle.tree.specs.Measures as D
use Rattle.tree.specs.Measures.{lookup, path_to}
use Rattle.tree.specs.declared.NodeIndex.{NodeIndex}
use Rattle.joining.specs.declared.Arena.{Arena}
use Rattle.joining.specs.Store.{Sized, nodes_of}
use Rattle.measures.specs.Standing.{Lends, lent, nodes_in}
use Rattle.output.specs.Answer.{Answers}
use Rattle.tables.proofs.TableSizes.{size, of_all}
use Rattle.tables.specs.declared.Table.{Table}
use Rattle.tables.specs.Nodes.{lookup_of}
use Rattle.tables.specs.Table.{table_columns, table_tree, Tabled, tabled}
use Rattle.tables.proofs.Naming.{found-low}
use Rattle.reading.specs.Paths.{PathFrom, PathNamed}

module _ (t : Table) where
  v : Tabled t
  v = tabled t

  pub lends : Lends t.arena
  lends =
      record {
        tree = table_tree t;
        formed = v.formed;
        size = size t;
        few = v.few;
        numbers = v.steiners;
        keeps = v.keeps;
        sized = subst (λ (m : ℕ). Sized m (table_columns t)) (sym v.sized.rows.xs) v.sized;
        room = omega (arith, v.sized.rows.xs, v.few);
      }

  -- **the columns' nodes, with the count as the code has it, are those of the table's tree**
  pub nodes_of_lem : {n : ℕ} → n ≡ t.arena.counts.nodes → nodes_of (table_columns t) n ≡ (table_tree t).nodes
  nodes_of_lem e = ap (nodes_of (table_columns t)) e

  -- and so are those that a reader has of the arena
  pub nodes_lent : {a : Arena} → a ≡ t.arena → nodes_in a ≡ (table_tree t).nodes
  nodes_lent {a} e = ap (λ (x : Arena). nodes_of (lent x) a.counts.nodes) e ∙ nodes_of_lem (ap (λ (x : Arena). x.counts.nodes) e)

-- ---- the path to the node that has a name
module _ (t : Table) (name : Name) (l : Option NodeIndex) (el : lookup_of l ≡ lookup (table_tree t).nodes name t.arena.counts.nodes) where
  pub path-missing : l ≡ None → (out : List ℕ) → PathNamed (table_tree t).nodes name out (Err NoSuchNode) out
  path-missing e out =
      subst (λ (k : D.Lookup). PathFrom (table_tree t).nodes k out (Err NoSuchNode) out) (ap lookup_of (sym e) ∙ of_all t name el) (refl, refl)

  module _ (i : NodeIndex) (e : l ≡ Some i) where
    pub path-low : i.0 < t.arena.counts.nodes
    path-low = found-low (table_tree t).nodes name t.arena.counts.nodes i.0 (sym el ∙ ap lookup_of e)

    pub path-found : {out out' : List ℕ} {r : Result ℕ Refusal} → Answers (path_to (table_tree t).nodes i.0) out r out' → PathNamed (table_tree t).nodes name out r out'
    path-found {out} {out'} {r} a = subst (λ (k : D.Lookup). PathFrom (table_tree t).nodes k out r out') (ap lookup_of (sym e) ∙ of_all t name el) a
