-- Answers as one number, for callers in other languages, and the figures of a job's tree. Definitions only.
use Rattle.std.specs.Prelude.{ℕ, ◌≡◌, Result, Ok, Err, List, ℤ, pos, neg_ℤ}
use Rattle.tree.specs.Tree.{Tree, total}
use Rattle.tree.specs.Measures.{worst}
use Rattle.route.specs.Routing.{Routing, refused, routed}
use Rattle.tree_bytes.specs.TreeBytes.{tree_bytes}
use Rattle.refusal.specs.declared.Refusal.{Refusal}
use Rattle.refusal.specs.Refusals.{number_of}
use Rattle.output.specs.Answer.{answer_of, content_of}

-- a refusal: minus its number
abbrev pub minus : ℕ → ℤ
minus n = neg_ℤ (pos n)

-- how much was written, or a refusal
abbrev pub returned_of : Result ℕ Refusal → ℤ
returned_of (Ok n) = pos n
returned_of (Err r) = minus (number_of r)

-- the answer to writing xs, as a number, and the buffer after
pub record Writes (xs out : List ℕ) (r : ℤ) (out' : List ℕ) : Type 0 where
  pub answer : r ≡ returned_of (answer_of xs out)
  pub content : out' ≡ content_of xs out

-- the tree bytes of a routing; a refusal of the job comes before 11, and "all lent bytes are then as before"
abbrev pub BytesOf : Routing → List ℕ → ℤ → List ℕ → Type 0
BytesOf (refused n) out r out' = (r ≡ minus n) × (out' ≡ out)
BytesOf (routed t) out r out' = Writes (tree_bytes t) out r out'

-- "`allowed A farthest W total L worst V`"
pub record Figures : Type 0 where
  pub allowed : ℤ
  pub farthest : ℕ
  pub total : ℕ
  pub worst : ℕ

abbrev pub figures : ℤ → ℕ → ℕ → ℕ → Figures
figures a w l v = record { allowed = a; farthest = w; total = l; worst = v }

abbrev pub figures_of : Tree → Figures
figures_of t = figures t.allowed t.farthest (total t.nodes) (worst t.nodes)

-- 0, or the job's refusal
abbrev pub status_of : Routing → ℤ
status_of (refused n) = minus n
status_of (routed t) = pos 0

-- the figures after the call: the tree's, or after a refusal those before
abbrev pub figures_after : Routing → Figures → Figures
figures_after (refused n) f = f
figures_after (routed t) f = figures_of t
