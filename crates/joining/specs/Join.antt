-- What a joining stores: the rows of the new nodes, and where they go.
use Rattle.std.specs.Prelude.{ℕ, ◌+◌, ◌≤◌, ◌<◌, ◌≡◌, List, length, get_or, ℤ}
use Rattle.geometry.specs.declared.Point.{Point}
use Rattle.geometry.specs.Geometry.{dist}
use Rattle.geometry.specs.Laws.{Within}
use Rattle.tree.specs.Limits.{longest_path, no_node, reach}
use Rattle.tree.specs.Search.{nearest_on}
use Rattle.tree.specs.declared.NodeName.TheVariants.{Steiner, Terminal}
use Rattle.tree.specs.declared.TerminalNumber.{TerminalNumber}
use Rattle.search.specs.declared.NodeView.{NodeView}
use Rattle.search.specs.Walk.{node_index, view_at}
use Rattle.search.specs.Columns.{InReach}
use Rattle.joining.specs.declared.Row.{Row}
use Rattle.joining.specs.declared.NumberedRow.{NumberedRow}
use Rattle.joining.specs.declared.SplitRows.{SplitRows}
use Rattle.joining.specs.declared.Counts.{Counts}
use Rattle.joining.specs.Store.{Rows, Store, set_row, set_numbered_row, set_parent, SizedRows, SizedStore}
use Rattle.joining.specs.Links.{Appended, Spliced, Spliceable}

-- the row of a terminal at q below p
abbrev pub terminal_row : ℕ → Point → ℕ → TerminalNumber → Row
terminal_row p q path number = record { point = q; path = path; parent = node_index p; name = Terminal number }

-- "New path lengths are the parent's plus d"
abbrev pub path_below : NodeView → Point → ℕ
path_below P q = P.path + dist P.point q

-- the rows of a terminal at q and of the Steiner node on the branch from P to C: the terminal is created first
abbrev pub split_rows : Counts → NodeView → NodeView → Point → SplitRows
split_rows k P C q =
    record {
      terminal = terminal_row (k.nodes + 1) q (path_below P (nearest_on P.point C.point q) + dist (nearest_on P.point C.point q) q) k.terminal;
      steiner = record { point = nearest_on P.point C.point q; path = path_below P (nearest_on P.point C.point q); parent = P.node; name = Steiner k.steiner };
    }

-- the counts with one more terminal, and with a terminal and a Steiner node
abbrev pub one_more : Counts → Counts
one_more k = record { nodes = k.nodes + 1; steiner = k.steiner; terminal = record { 0 = k.terminal.0 + 1 } }

abbrev pub two_more : Counts → Counts
two_more k = record { nodes = k.nodes + 2; steiner = record { 0 = k.steiner.0 + 1 }; terminal = record { 0 = k.terminal.0 + 1 } }

-- a node that is read, and is near
pub record Reads (xs ys : List ℤ) (path : List ℕ) (p : ℕ) : Type 0 where
  pub in_range : InReach xs ys path p
  pub near : Within reach (view_at xs ys path p).point
  pub long : get_or path p 0 ≤ longest_path

abbrev pub view_in : Rows → ℕ → NodeView
view_in r p = view_at r.xs r.ys r.path p

abbrev pub ReadsIn : Rows → ℕ → Type 0
ReadsIn r p = Reads r.xs r.ys r.path p

-- ---- one more node
-- the columns have room for n, and p is in them
pub record Attachable (c : Store) (n p : ℕ) : Type 0 where
  pub sized : SizedStore (length c.rows.xs) c
  pub room : n < length c.rows.xs
  pub at : p < length c.rows.xs

-- the node n has a row, no children, and stands last among its parent's
pub record RowAttached (c : Store) (n : ℕ) (row : Row) (c' : Store) : Type 0 where
  pub rows : c'.rows ≡ set_row c.rows n row
  pub links : Appended c.links row.parent.0 n c'.links

-- the same of a row whose kind and number are numbers
pub record NumberedAttached (c : Store) (n : ℕ) (row : NumberedRow) (c' : Store) : Type 0 where
  pub rows : c'.rows ≡ set_numbered_row c.rows n row
  pub links : Appended c.links row.parent.0 n c'.links

-- ---- a branch is split
-- the rows with both new ones, and the child below the Steiner node
abbrev pub with_split : Rows → Counts → ℕ → ℕ → Point → Rows
with_split r k p c q =
    let new = split_rows k (view_in r p) (view_in r c) q in
    set_parent (set_row (set_row r k.nodes new.terminal) (k.nodes + 1) new.steiner) c (k.nodes + 1)

-- both ends of the branch can be read, and there is room for two rows
pub record SplitReads (r : Rows) (k : Counts) (p c : ℕ) (q : Point) : Type 0 where
  pub sized : SizedRows (length r.xs) r
  pub room : k.nodes + 1 < length r.xs
  pub few : length r.xs ≤ no_node
  pub at : ReadsIn r p
  pub to : ReadsIn r c
  pub within : Within reach q

pub record Splittable (cs : Store) (k : Counts) (p c : ℕ) (q : Point) : Type 0 where
  pub rows : SplitReads cs.rows k p c q
  pub links : Spliceable cs.links p c k.nodes (k.nodes + 1)

-- a terminal at q has joined on the branch from p to c
pub record BranchSplit (cs : Store) (k : Counts) (p c : ℕ) (q : Point) (c' : Store) : Type 0 where
  pub rows : c'.rows ≡ with_split cs.rows k p c q
  pub links : Spliced cs.links p c k.nodes (k.nodes + 1) c'.links
