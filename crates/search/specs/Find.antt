-- What the call of the search asks, and what it answers: the definition's join, for every tree that the columns keep.
use Rattle.std.specs.Prelude.{ℕ, ◌≤◌, ◌<◌, ◌≡◌, List, reverse, length, get_or, ℤ}
use Rattle.geometry.specs.Laws.{Within}
use Rattle.tree.specs.Limits.{longest_path, reach, no_node, most_nodes}
use Rattle.tree.specs.Tree.{Node, node_at}
use Rattle.tree.specs.Search as T
use Rattle.search.specs.declared.Join.{Join}
use Rattle.search.specs.declared.Join.TheVariants.{Onto, Split}
use Rattle.search.specs.declared.Found.{Found}
use Rattle.search.specs.declared.Query.{Query}
use Rattle.search.specs.declared.NodeColumns.{NodeColumns}
use Rattle.search.specs.declared.LinkColumns.{LinkColumns}
use Rattle.tree.specs.Memory.{point_at, keepouts_of}
use Rattle.search.specs.Columns.{Chain, Has, Distinct}

-- a node's children in the order in which they are examined, last to first
abbrev pub examined : List Node → ℕ → List ℕ
examined ns p = reverse (node_at ns p).children

-- the code's answer as the paper's
abbrev pub join_of : Join → T.Join
join_of (Onto p) = T.onto p.0
join_of (Split p c) = T.split p.0 c.0

-- each node but the source is a child of at most one node, once
pub record Forest (n : ℕ) (children : ℕ → List ℕ) : Type 0 where
  pub some : 0 < n
  pub below : (p c : ℕ) → p < n → Has c (children p) → c < n
  pub no_root : (p c : ℕ) → p < n → Has c (children p) → c ≡ 0 → ⊥
  pub once : (p : ℕ) → p < n → Distinct (children p)
  pub one : (p q c : ℕ) → p < n → q < n → Has c (children p) → Has c (children q) → p ≡ q

-- ---- the columns keep the tree
pub record Kept (ns : List Node) (xs ys : List ℤ) (path last prev : List ℕ) : Type 0 where
  pub in_xs : length prev ≤ length xs
  pub in_ys : length prev ≤ length ys
  pub in_path : length prev ≤ length path
  pub in_last : length prev ≤ length last
  pub in_prev : length ns ≤ length prev
  pub few : length prev ≤ no_node
  pub points : (i : ℕ) → i < length ns → point_at xs ys i ≡ (node_at ns i).point
  pub paths : (i : ℕ) → i < length ns → get_or path i 0 ≡ (node_at ns i).path
  pub chains : (p : ℕ) → p < length ns → Chain prev (get_or last p 0) (examined ns p)

-- a tree whose links agree and whose points and paths are in range
pub record Walkable (ns : List Node) : Type 0 where
  pub forest : Forest (length ns) (examined ns)
  pub near : (i : ℕ) → i < length ns → Within reach (node_at ns i).point
  pub long : (i : ℕ) → i < length ns → (node_at ns i).path ≤ longest_path

-- what the call of the search asks: columns that keep a tree of n nodes
pub record Ready (n : ℕ) (a : Query) (xs ys : List ℤ) (path last prev : List ℕ) : Type 0 where
  pub nodes : List Node
  pub size : length nodes ≡ n
  pub small : n ≤ most_nodes
  pub kept : Kept nodes xs ys path last prev
  pub tree : Walkable nodes
  pub within : Within reach a.point

-- and what it answers: whatever tree the columns keep, what document 01's search finds in it
pub record Answers (ns : List Node) (a : Query) (ks : List ℤ) (r : Found) : Type 0 where
  pub join : join_of r.join ≡ T.find (T.blocked (keepouts_of ks)) ns a.limit a.allowed a.point
  pub looks : r.looks ≡ T.looked (T.blocked (keepouts_of ks)) ns a.limit a.allowed a.point

abbrev pub Joins : ℕ → Query → List ℤ → List ℤ → List ℕ → List ℕ → List ℕ → List ℤ → Found → Type 0
Joins n a xs ys path last prev ks r = (ns : List Node) → length ns ≡ n → Walkable ns → Kept ns xs ys path last prev → Answers ns a ks r

-- ---- the same of lent columns
abbrev pub ReadyIn : ℕ → Query → NodeColumns → LinkColumns → Type 0
ReadyIn n a v l = Ready n a v.xs.now v.ys.now v.path.now l.last.now l.prev.now

abbrev pub JoinsIn : ℕ → Query → NodeColumns → LinkColumns → List ℤ → Found → Type 0
JoinsIn n a v l = Joins n a v.xs.now v.ys.now v.path.now l.last.now l.prev.now
