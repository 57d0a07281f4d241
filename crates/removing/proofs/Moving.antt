-- One column, whatever its elements: those after the i-th move one place down, and links are lowered by a loop. The idea: what stands before the
-- loop's place is done, and what stands from there on is as it was.
use Rattle.std.proofs.Common.{ℕ, ◌+◌, ◌-◌, ◌≤◌, ◌<◌, ◌≡◌, ap, subst, ◌∙◌, ◌≢◌, List, arith, length, get_or}
use Rattle.std.specs.List.{CopiedTo, SameBelow}
use Rattle.tree.specs.Optimize.{closed}
use Rattle.tree.proofs.Closing.{Closed, stays, moves, closes}
use Rattle.joining.specs.Store.{Store}
use Rattle.removing.specs.Store.{StoreClosed}
use Rattle.removing.specs.Close.{closed_link, ClosedBy, GapClosed, LinksClosed, Lowered}
use Rattle.removing.proofs.Places.{closed_in}

-- ---- one place down
module _ {A : Type 0} (n i : ℕ) (l l' : List A) (h : i < n) (size : length l' ≡ length l) (below : SameBelow l l' i) (copied : CopiedTo l l' (i + 1) i (n - (i + 1))) where
  pub gap-closed : (blank : A) → GapClosed blank n i l l'
  gap-closed blank = record { reads = λ x a d. by x a d (closes i x); size = size }
    where
      by : (x : ℕ) → x < n → x ≢ i → Closed i x → get_or l' (closed i x) blank ≡ get_or l x blank
      by x a d (stays k e) = ap (λ (y : ℕ). get_or l' y blank) e ∙ below x blank (omega arith)
      by x a d (moves k e) =
          copied (closed i x) blank (omega arith) (omega arith) ∙ ap (λ (y : ℕ). get_or l y blank) (let f : i + 1 + (closed i x - i) ≡ x = omega arith in f)

-- ---- links
-- the first j links are lowered
pub record Lowering (i : ℕ) (l₀ l : List ℕ) (j : ℕ) : Type 0 where
  pub size : length l ≡ length l₀
  pub done : (x : ℕ) → x < j → get_or l x 0 ≡ closed_link i (get_or l₀ x 0)
  pub rest : (x : ℕ) → j ≤ x → get_or l x 0 ≡ get_or l₀ x 0

-- ---- what the calls give
-- the place is given as a number
pub at-index : {A : Type 0} {f : A → A} {blank : A} {n i j : ℕ} {l l' : List A} → i ≡ j → ClosedBy f blank n i l l' → ClosedBy f blank n j l l'
at-index {f = f} {blank = blank} {n = n} {l = l} {l' = l'} e h = subst (λ (x : ℕ). ClosedBy f blank n x l l') e h

pub at-count : {n m i : ℕ} {s s' : Store} → n ≡ m → StoreClosed n i s s' → StoreClosed m i s s'
at-count {i = i} {s = s} {s' = s'} e h = subst (λ (x : ℕ). StoreClosed x i s s') e h

-- a column of links closes up, and then the links in it are lowered
pub links-closed : (m n i : ℕ) (l l₁ l₂ : List ℕ) → n ≡ m + 1 → i < n → GapClosed 0 n i l l₁ → Lowered m i l₁ l₂ → LinksClosed n i l l₂
links-closed m n i l l₁ l₂ e h g v =
    record { reads = λ x a d. v.reads (closed i x) (closed_in i x m (omega arith) (omega arith) d) ∙ ap (closed_link i) (g.reads x a d); size = v.size ∙ g.size }
