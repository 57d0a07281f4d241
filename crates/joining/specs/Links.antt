-- The links between nodes, and what they become: a child is appended, leaves, or a branch is split.
use Rattle.std.specs.Prelude.{ℕ, ◌≤◌, ◌<◌, ◌≡◌, cond, List, [], ◌∷◌, reverse, length, get_or, set, eqb}
use Rattle.tree.specs.Limits.{no_node}
use Rattle.search.specs.Columns.{chain, Chain, Has, Chained}

-- a node's last child, and the children before and after a child; no_node where there is none
pub record Links : Type 0 where
  pub last : List ℕ
  pub prev : List ℕ
  pub next : List ℕ

abbrev pub links : List ℕ → List ℕ → List ℕ → Links
links last prev next = record { last = last; prev = prev; next = next }

-- the columns hold the children cs of p: the chain from its last child is cs, last to first
abbrev pub ChildrenAre : List ℕ → List ℕ → ℕ → List ℕ → Type 0
ChildrenAre last prev p cs = Chain prev (get_or last p 0) (reverse cs)

-- each child of a chain, last to first, has its link to the child after it
unfoldable pub BackedBy : List ℕ → ℕ → List ℕ → Type 0
BackedBy next after [] = Unit {0}
BackedBy next after (c ∷ r) = (get_or next c 0 ≡ after) × BackedBy next c r

-- the links both ways between p's children agree
abbrev pub Backed : Links → ℕ → Type 0
Backed l p = BackedBy l.next no_node (chain l.prev (get_or l.last p 0))

-- a column `next` of length m whose links agree for n nodes
pub record LinkedBack (m n : ℕ) (l : Links) : Type 0 where
  pub size : length l.next ≡ m
  pub agree : (p : ℕ) → p < n → Backed l p

-- the element before c
unfoldable pub before_of : List ℕ → ℕ → ℕ
before_of [] c = 0
before_of (d ∷ []) c = d
before_of (d ∷ e ∷ r) c = cond (eqb e c) d (before_of (e ∷ r) c)

-- c goes last among p's children; a store at no_node, past the end, does nothing
pub record Attached (l : Links) (p c : ℕ) (l' : Links) : Type 0 where
  pub lasts : l'.last ≡ set l.last p c
  pub prevs : l'.prev ≡ set l.prev c (get_or l.last p 0)
  pub nexts : l'.next ≡ set (set l.next c no_node) (get_or l.last p 0) c

-- c leaves p's children. The link to it goes past it: that of p where c is the last child, else that of the child after it
abbrev pub last_without : List ℕ → List ℕ → ℕ → ℕ → List ℕ
last_without last prev p c = cond (eqb (get_or last p 0) c) (set last p (get_or prev c 0)) last

abbrev pub prev_without : List ℕ → List ℕ → ℕ → ℕ → List ℕ
prev_without last prev p c = cond (eqb (get_or last p 0) c) prev (set prev (before_of (chain prev (get_or last p 0)) c) (get_or prev c 0))

-- and the link back of the child before it goes past it too
pub record Detached (l : Links) (p c : ℕ) (l' : Links) : Type 0 where
  pub lasts : l'.last ≡ last_without l.last l.prev p c
  pub prevs : l'.prev ≡ prev_without l.last l.prev p c
  pub nexts : l'.next ≡ set l.next (get_or l.prev c 0) (get_or l.next c 0)

-- c, which has no children, goes last among p's
abbrev pub Appended : Links → ℕ → ℕ → Links → Type 0
Appended l p c l' = Attached (links (set l.last c no_node) l.prev l.next) p c l'

-- s takes c, and i, which has no children
pub record Adopted (l : Links) (s c i : ℕ) (l' : Links) : Type 0 where
  pub l₁ : Links
  pub takes : Attached l s c l₁
  pub ends : Appended l₁ s i l'

-- c leaves p, s goes last among p's children, and s's children are c and i
pub record Spliced (l : Links) (p c i s : ℕ) (l' : Links) : Type 0 where
  pub l₁ : Links
  pub l₂ : Links
  pub leaves : Detached l p c l₁
  pub joins : Appended l₁ p s l₂
  pub adopts : Adopted l₂ s c i l'

-- columns of length m
pub record SizedLinks (m : ℕ) (l : Links) : Type 0 where
  pub last : length l.last ≡ m
  pub prev : length l.prev ≡ m
  pub next : length l.next ≡ m
  pub few : m ≤ no_node

-- c is a child of p, and the links have room for i and s
pub record Spliceable (l : Links) (p c i s : ℕ) : Type 0 where
  pub sized : SizedLinks (length l.last) l
  pub in_p : p < length l.last
  pub in_c : c < length l.last
  pub in_i : i < length l.last
  pub in_s : s < length l.last
  pub linked : Chained l.prev (get_or l.last p 0)
  pub has : Has c (chain l.prev (get_or l.last p 0))
  pub backed : Backed l p

-- c is a child of p, by links that agree
pub record Detachable (l : Links) (p c : ℕ) : Type 0 where
  pub linked : Chained l.prev (get_or l.last p 0)
  pub has : Has c (chain l.prev (get_or l.last p 0))
  pub backed : Backed l p
