-- What a column becomes when node i of the first n goes: the elements after it move one place down, and links to them are lowered.
use Rattle.std.specs.Prelude.{ℕ, ◌<◌, ◌≡◌, ◌≢◌, cond, List, length, get_or, eqb}
use Rattle.tree.specs.Limits.{no_node}
use Rattle.tree.specs.Optimize.{closed}

-- a link once node i is gone
unfoldable pub closed_link : ℕ → ℕ → ℕ
closed_link i v = cond (eqb v no_node) no_node (closed i v)

-- the element of each other node stands at the index that the node has now, through f
pub record ClosedBy {A : Type 0} (f : A → A) (blank : A) (n i : ℕ) (l l' : List A) : Type 0 where
  pub reads : (x : ℕ) → x < n → x ≢ i → get_or l' (closed i x) blank ≡ f (get_or l x blank)
  pub size : length l' ≡ length l

abbrev pub GapClosed : {A : Type 0} → A → ℕ → ℕ → List A → List A → Type 0
GapClosed {A} = ClosedBy {A = A} (λ x. x)

abbrev pub LinksClosed : ℕ → ℕ → List ℕ → List ℕ → Type 0
LinksClosed n i = ClosedBy (closed_link i) 0 n i

-- the links in the first n places are lowered
pub record Lowered (n i : ℕ) (l l' : List ℕ) : Type 0 where
  pub reads : (x : ℕ) → x < n → get_or l' x 0 ≡ closed_link i (get_or l x 0)
  pub size : length l' ≡ length l
