-- A child of a node, as its link is read, and the siblings before it.
use Rattle.std.specs.Prelude.{ℕ, ◌<◌, ◌≡◌, List, Option}
use Rattle.tree.specs.declared.NodeIndex.{NodeIndex}
use Rattle.search.specs.Columns.{Has, chain, Chained}
use Rattle.joining.specs.Store.{index_from, link_in}

-- the child and the siblings before it, by the column that leads from each to the one before
abbrev pub chain_at : List ℕ → Option NodeIndex → List ℕ
chain_at prev child = chain prev (link_in child)

-- they are among n nodes
pub record Siblings (prev : List ℕ) (n : ℕ) (child : Option NodeIndex) : Type 0 where
  pub read : child ≡ index_from (link_in child)
  pub links : Chained prev (link_in child)
  pub below : (x : ℕ) → Has x (chain_at prev child) → x < n
