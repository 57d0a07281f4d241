-- The walk over columns: links, and a stack in an array.
use Rattle.std.specs.Prelude.{ℕ, zero, suc, ◌≤◌, ◌<◌, ◌≡◌, cond, List, [], ◌∷◌, ◌⊎◌, length, get_or, eqb, ℤ}
use Rattle.geometry.specs.Laws.{Within}
use Rattle.tree.specs.Limits.{longest_path, reach, no_node}
use Rattle.search.specs.declared.Join.{Join}
use Rattle.search.specs.declared.Found.{Found}
use Rattle.search.specs.declared.Query.{Query}
use Rattle.search.specs.declared.NodeColumns.{NodeColumns}
use Rattle.search.specs.declared.LinkColumns.{LinkColumns}
use Rattle.search.specs.Walk.{view_at, walk, looks, Safe, start}
use Rattle.tree.specs.Memory.{point_at, keepouts_of}

unfoldable pub Has : ℕ → List ℕ → Type 0
Has c [] = ⊥
Has c (x ∷ xs) = (x ≡ c) ⊎ Has c xs

unfoldable pub Away : ℕ → List ℕ → Type 0
Away c [] = Unit {0}
Away c (x ∷ xs) = (x ≡ c → ⊥) × Away c xs

unfoldable pub Distinct : List ℕ → Type 0
Distinct [] = Unit {0}
Distinct (x ∷ xs) = Away x xs × Distinct xs

-- ---- a stack in an array, from its top
unfoldable pub stack_of : List ℕ → ℕ → List ℕ
stack_of st zero = []
stack_of st (suc k) = get_or st k 0 ∷ stack_of st k

-- ---- links: no_node ends a chain
unfoldable pub chain_of : ℕ → List ℕ → ℕ → List ℕ
chain_of zero prev l = []
chain_of (suc k) prev l = cond (eqb l no_node) [] (l ∷ chain_of k prev (get_or prev l 0))

abbrev pub chain : List ℕ → ℕ → List ℕ
chain prev l = chain_of (length prev) prev l

unfoldable pub Chain : List ℕ → ℕ → List ℕ → Type 0
Chain prev l [] = l ≡ no_node
Chain prev l (c ∷ cs) = (l ≡ c) × ((l < length prev) × Chain prev (get_or prev l 0) cs)

pub record Chained (prev : List ℕ) (l : ℕ) : Type 0 where
  pub is : Chain prev l (chain prev l)

pub record InReach (xs ys : List ℤ) (path : List ℕ) (c : ℕ) : Type 0 where
  pub in_xs : c < length xs
  pub in_ys : c < length ys
  pub in_path : c < length path

-- a node's children, from the last to the first
abbrev pub children_of : List ℕ → List ℕ → ℕ → List ℕ
children_of last prev p = chain prev (get_or last p 0)

-- the columns of a tree of n nodes
pub record TreeColumns (n : ℕ) (a : Query) (xs ys : List ℤ) (path last prev : List ℕ) : Type 0 where
  pub in_xs : length prev ≤ length xs
  pub in_ys : length prev ≤ length ys
  pub in_path : length prev ≤ length path
  pub in_last : length prev ≤ length last
  pub in_prev : n ≤ length prev
  pub few : length prev ≤ no_node
  pub within : Within reach a.point
  pub near : (i : ℕ) → i < n → Within reach (point_at xs ys i)
  pub long : (i : ℕ) → i < n → get_or path i 0 ≤ longest_path
  pub links : (p : ℕ) → p < n → Chained prev (get_or last p 0)
  pub below : (p c : ℕ) → p < n → Has c (children_of last prev p) → c < n

abbrev pub SafeOn : ℕ → ℕ → Query → List ℤ → List ℤ → List ℕ → List ℕ → List ℕ → List ℤ → Type 0
SafeOn room n a xs ys path last prev ks =
    Safe (keepouts_of ks) a (view_at xs ys path) (children_of last prev) n room n (0 ∷ []) (start a)

abbrev pub found_on : ℕ → Query → List ℤ → List ℤ → List ℕ → List ℕ → List ℕ → List ℤ → Join
found_on n a xs ys path last prev ks = (walk (keepouts_of ks) a (view_at xs ys path) (children_of last prev) n (0 ∷ []) (start a)).join

abbrev pub looks_on : ℕ → Query → List ℤ → List ℤ → List ℕ → List ℕ → List ℕ → List ℤ → ℕ
looks_on n a xs ys path last prev ks = looks (keepouts_of ks) a (view_at xs ys path) (children_of last prev) n (0 ∷ []) (start a)

-- what the walk answers
pub record FoundOn (n : ℕ) (a : Query) (xs ys : List ℤ) (path last prev : List ℕ) (ks : List ℤ) (r : Found) : Type 0 where
  pub join : r.join ≡ found_on n a xs ys path last prev ks
  pub looks : r.looks ≡ looks_on n a xs ys path last prev ks

-- ---- the same of lent columns
abbrev pub ReachIn : NodeColumns → ℕ → Type 0
ReachIn v = InReach v.xs.now v.ys.now v.path.now

abbrev pub children_in : LinkColumns → ℕ → List ℕ
children_in l = children_of l.last.now l.prev.now

abbrev pub TreeIn : ℕ → Query → NodeColumns → LinkColumns → Type 0
TreeIn n a v l = TreeColumns n a v.xs.now v.ys.now v.path.now l.last.now l.prev.now

abbrev pub SafeIn : ℕ → ℕ → Query → NodeColumns → LinkColumns → List ℤ → Type 0
SafeIn room n a v l = SafeOn room n a v.xs.now v.ys.now v.path.now l.last.now l.prev.now

abbrev pub FoundIn : ℕ → Query → NodeColumns → LinkColumns → List ℤ → Found → Type 0
FoundIn n a v l = FoundOn n a v.xs.now v.ys.now v.path.now l.last.now l.prev.now
