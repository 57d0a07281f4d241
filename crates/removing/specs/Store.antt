-- What the removal of a lone node asks of columns, and what they are after it.
use Rattle.std.specs.Prelude.{ℕ, ◌-◌, ◌<◌, ◌≡◌, ◌≢◌, Bool, not, ◌&&◌, List, length, get_or, set, eqb, ℤ, pos}
use Rattle.tree.specs.Limits.{no_node}
use Rattle.search.specs.Columns.{Has, Chained, chain}
use Rattle.joining.specs.declared.Counts.{Counts}
use Rattle.joining.specs.Links.{Links, Attached, Detached, Backed, SizedLinks}
use Rattle.joining.specs.Store.{Rows, Store}
use Rattle.joining.specs.Buffers.{column}
use Rattle.removing.specs.Close.{GapClosed, LinksClosed}

-- ---- is a node lone
-- the columns say: a Steiner node, with a last child, before which there is none
abbrev pub lone_at : List ℕ → List ℕ → List ℕ → ℕ → Bool
lone_at kind last prev i = eqb (get_or kind i 0) 1 && (not (eqb (get_or last i 0) no_node) && eqb (get_or prev (get_or last i 0) 0) no_node)

pub record LoneReads (kind last prev : List ℕ) (i : ℕ) : Type 0 where
  pub in_kind : i < length kind
  pub in_last : i < length last
  pub child : get_or last i 0 ≢ no_node → get_or last i 0 < length prev

-- ---- its links
-- i is a child of p, and the columns have room for i, p and c
pub record Bypassable (i p c : ℕ) (parent : List ℕ) (l : Links) : Type 0 where
  pub sized : SizedLinks (length parent) l
  pub in_i : i < length parent
  pub in_p : p < length parent
  pub in_c : c < length parent
  pub linked : Chained l.prev (get_or l.last p 0)
  pub has : Has i (chain l.prev (get_or l.last p 0))
  pub backed : Backed l p

-- i leaves p's children, and its child c goes last among them
pub record Relinked (i p c : ℕ) (l l' : Links) : Type 0 where
  pub l₁ : Links
  pub leaves : Detached l p i l₁
  pub takes : Attached l₁ p c l'

-- and p is c's parent
pub record Bypassed (i p c : ℕ) (parent : List ℕ) (l : Links) (parent' : List ℕ) (l' : Links) : Type 0 where
  pub links : Relinked i p c l l'
  pub parents : parent' ≡ set parent c p

-- ---- its place
-- once place i of the first n is gone
pub record RowsClosed (n i : ℕ) (r r' : Rows) : Type 0 where
  pub xs : GapClosed (pos 0) n i r.xs r'.xs
  pub ys : GapClosed (pos 0) n i r.ys r'.ys
  pub path : GapClosed 0 n i r.path r'.path
  pub parent : LinksClosed n i r.parent r'.parent
  pub kind : GapClosed 0 n i r.kind r'.kind
  pub number : GapClosed 0 n i r.number r'.number

pub record StoreClosed (n i : ℕ) (s s' : Store) : Type 0 where
  pub rows : RowsClosed n i s.rows s'.rows
  pub last : LinksClosed n i s.links.last s'.links.last
  pub prev : LinksClosed n i s.links.prev s'.links.prev
  pub next : LinksClosed n i s.links.next s'.links.next

-- in each buffer
pub record PointsClosed (n i : ℕ) (l l' : List ℤ) : Type 0 where
  pub xs : GapClosed (pos 0) n i (column 0 l) (column 0 l')
  pub ys : GapClosed (pos 0) n i (column 1 l) (column 1 l')

pub record MarksClosed (n i : ℕ) (l l' : List ℕ) : Type 0 where
  pub parents : LinksClosed n i (column 0 l) (column 0 l')
  pub kinds : GapClosed 0 n i (column 1 l) (column 1 l')
  pub numbers : GapClosed 0 n i (column 2 l) (column 2 l')

pub record AllLinksClosed (n i : ℕ) (l l' : List ℕ) : Type 0 where
  pub lasts : LinksClosed n i (column 0 l) (column 0 l')
  pub prevs : LinksClosed n i (column 1 l) (column 1 l')
  pub nexts : LinksClosed n i (column 2 l) (column 2 l')

-- the counts with one node less: "a removed number isn't given out again"
abbrev pub one_fewer : Counts → Counts
one_fewer k = record { nodes = k.nodes - 1; steiner = k.steiner; terminal = k.terminal }
