-- What every tree that the calls give is: its links agree and lead to the source, its names are distinct; and of one that the search routed, that path lengths are Manhattan sums.
use Rattle.std.specs.Prelude.{◌≡◌, List, [], ◌∷◌, ℕ, ◌+◌, ◌<◌, length, eqb}
use Rattle.geometry.specs.Geometry.{dist}
use Rattle.tree.specs.Tree.{one, Node, Name, source, steiner, terminal, Parent, none, at, node_at}

-- how often c stands in a list of children
unfoldable pub count : ℕ → List ℕ → ℕ
count c [] = 0
count c (a ∷ r) = one (eqb a c) + count c r

-- 1 where the parent is p, else 0
abbrev pub is_at : ℕ → Parent → ℕ
is_at p none = 0
is_at p (at x) = one (eqb p x)

pub record Linked (ns : List Node) : Type 0 where
  pub some : 0 < length ns
  pub top : (node_at ns 0).parent ≡ none
  pub others : (i : ℕ) → i < length ns → (node_at ns i).parent ≡ none → i ≡ 0
  -- p's children are the nodes whose parent is p, each once
  pub links : (p c : ℕ) → count c (node_at ns p).children ≡ is_at p (node_at ns c).parent
  -- each step to a parent falls
  pub rank : ℕ → ℕ
  pub small : (i : ℕ) → i < length ns → rank i < length ns
  pub falls : (c p : ℕ) → (node_at ns c).parent ≡ at p → rank p < rank c

-- each path length is the parent's plus d
abbrev pub PathSums : List Node → Type 0
PathSums ns = (c p : ℕ) → (node_at ns c).parent ≡ at p → (node_at ns c).path ≡ (node_at ns p).path + dist (node_at ns p).point (node_at ns c).point

-- a number from 1 up to what is given next
abbrev pub Given : ℕ → ℕ → Name → Type 0
Given st te source = ⊥
Given st te (steiner k) = (0 < k) × (k < st)
Given st te (terminal k) = (0 < k) × (k < te)

-- names of n nodes, by index; st and te are the numbers that are given next
pub record Named (n : ℕ) (name : ℕ → Name) (st te : ℕ) : Type 0 where
  pub steiners : 0 < st
  pub terminals : 0 < te
  pub source_name : name 0 ≡ source
  pub given : (i : ℕ) → 0 < i → i < n → Given st te (name i)
  pub distinct : (i j : ℕ) → i < n → j < n → name i ≡ name j → i ≡ j

abbrev pub name_of : List Node → ℕ → Name
name_of ns i = (node_at ns i).name
