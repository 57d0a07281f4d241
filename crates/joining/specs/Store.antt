-- A tree kept in columns: rows of numbers, and columns of links. no_node stands for no node.
use Rattle.std.specs.Prelude.{ℕ, zero, suc, ◌≤◌, ◌<◌, ◌≡◌, cond, List, [], ◌∷◌, ◌++◌, reverse, length, get_or, set, eqb, ℤ}
use Rattle.tree.specs.Limits.{no_node}
use Rattle.tree.specs.Memory.{point_at, type_of, named, name_in}
use Rattle.tree.specs.Measures.{kind_of, number_of}
use Rattle.tree.specs.Tree.{zero_figure, Node, Name, Parent, none, at, node_at}
use Rattle.search.specs.Walk.{node_index}
pub use Rattle.search.specs.Walk.{index_from, link_in}
use Rattle.search.specs.Columns.{chain}
use Rattle.joining.specs.declared.Row.{Row}
use Rattle.joining.specs.declared.NumberedRow.{NumberedRow}
use Rattle.joining.specs.Links.{ChildrenAre, Links, BackedBy, SizedLinks}

pub record Rows : Type 0 where
  pub xs : List ℤ
  pub ys : List ℤ
  pub path : List ℕ
  pub parent : List ℕ
  pub kind : List ℕ
  pub number : List ℕ

-- what is read of a tree
pub record Columns : Type 0 where
  pub rows : Rows
  pub last : List ℕ
  pub prev : List ℕ

abbrev pub rows_of : List ℤ → List ℤ → List ℕ → List ℕ → List ℕ → List ℕ → Rows
rows_of xs ys path parent kind number = record { xs = xs; ys = ys; path = path; parent = parent; kind = kind; number = number }

abbrev pub columns : Rows → List ℕ → List ℕ → Columns
columns r last prev = record { rows = r; last = last; prev = prev }

-- what is kept of a tree that grows: the link back too
pub record Store : Type 0 where
  pub rows : Rows
  pub links : Links

abbrev pub store : Rows → Links → Store
store r l = record { rows = r; links = l }

abbrev pub columns_of : Store → Columns
columns_of s = columns s.rows s.links.last s.links.prev

abbrev pub row_at : Rows → ℕ → Row
row_at r i =
    record {
      point = point_at r.xs r.ys i;
      path = get_or r.path i 0;
      parent = node_index (get_or r.parent i 0);
      name = named (type_of (get_or r.kind i 0)) (get_or r.number i 0);
    }

abbrev pub set_row : Rows → ℕ → Row → Rows
set_row r i n =
    record {
      xs = set r.xs i n.point.xcoord;
      ys = set r.ys i n.point.ycoord;
      path = set r.path i n.path;
      parent = set r.parent i n.parent.0;
      kind = set r.kind i (kind_of (name_in n.name));
      number = set r.number i (number_of (name_in n.name));
    }

-- the same of rows whose kind and number are numbers, whatever they are
abbrev pub numbered_row_at : Rows → ℕ → NumberedRow
numbered_row_at r i =
    record {
      point = point_at r.xs r.ys i;
      path = get_or r.path i 0;
      parent = node_index (get_or r.parent i 0);
      kind = get_or r.kind i 0;
      number = get_or r.number i 0;
    }

abbrev pub set_numbered_row : Rows → ℕ → NumberedRow → Rows
set_numbered_row r i n =
    record {
      xs = set r.xs i n.point.xcoord;
      ys = set r.ys i n.point.ycoord;
      path = set r.path i n.path;
      parent = set r.parent i n.parent.0;
      kind = set r.kind i n.kind;
      number = set r.number i n.number;
    }

-- a row with the numbers of its name
abbrev pub numbered : Row → NumberedRow
numbered n = record { point = n.point; path = n.path; parent = n.parent; kind = kind_of (name_in n.name); number = number_of (name_in n.name) }

abbrev pub set_parent : Rows → ℕ → ℕ → Rows
set_parent r i p = record { xs = r.xs; ys = r.ys; path = r.path; parent = set r.parent i p; kind = r.kind; number = r.number }

-- ---- the nodes that the columns stand for
-- kind 0 is the source, 1 a Steiner node, 2 a terminal
abbrev pub name_from : ℕ → ℕ → Name
name_from kind k = name_in (named (type_of kind) k)

unfoldable pub parent_from : ℕ → Parent
parent_from p = cond (eqb p no_node) none (at p)

-- the parents of nodes stand in a column
abbrev pub ParentsIn : List Node → List ℕ → Type 0
ParentsIn ns parent = (i : ℕ) → i < length ns → (node_at ns i).parent ≡ parent_from (get_or parent i 0)

abbrev pub node_from : Row → List ℕ → Node
node_from r cs =
    record { name = name_in r.name; parent = parent_from r.parent.0; point = r.point; children = cs; path = r.path; capacitance = zero_figure; delay = zero_figure }

abbrev pub node_of : Columns → ℕ → Node
node_of c i = node_from (row_at c.rows i) (reverse (chain c.prev (get_or c.last i 0)))

unfoldable pub up_to : {A : Type 0} → (ℕ → A) → ℕ → List A
up_to f zero = []
up_to f (suc k) = up_to f k ++ (f k ∷ [])

-- the first n nodes
abbrev pub nodes_of : Columns → ℕ → List Node
nodes_of c n = up_to (node_of c) n

-- ---- columns of length m
pub record SizedRows (m : ℕ) (r : Rows) : Type 0 where
  pub xs : length r.xs ≡ m
  pub ys : length r.ys ≡ m
  pub path : length r.path ≡ m
  pub parent : length r.parent ≡ m
  pub kind : length r.kind ≡ m
  pub number : length r.number ≡ m

pub record Sized (m : ℕ) (c : Columns) : Type 0 where
  pub rows : SizedRows m c.rows
  pub last : length c.last ≡ m
  pub prev : length c.prev ≡ m
  pub few : m ≤ no_node

pub record SizedStore (m : ℕ) (s : Store) : Type 0 where
  pub rows : SizedRows m s.rows
  pub links : SizedLinks m s.links

-- the columns keep the nodes
pub record Keeps (ns : List Node) (c : Columns) : Type 0 where
  pub rows : (i : ℕ) → i < length ns → node_at ns i ≡ node_from (row_at c.rows i) (node_at ns i).children
  pub children : (p : ℕ) → p < length ns → ChildrenAre c.last c.prev p (node_at ns p).children

-- each child's link to the child after it
abbrev pub Backs : List Node → List ℕ → Type 0
Backs ns next = (p : ℕ) → p < length ns → BackedBy next no_node (reverse (node_at ns p).children)
