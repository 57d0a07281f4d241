-- The index that a node has once node i is gone, and links to it: what they are, and that they fit in one place less.
use Rattle.std.proofs.Common.{ℕ, ◌-◌, ◌≤◌, ◌<◌, ◌≡◌, ◌≢◌, arith}
use borrow.Author.Tests.{eq-eqb, ne_eqb}
use Rattle.tree.specs.Limits.{no_node}
use Rattle.tree.specs.Optimize.{closed}
use Rattle.tree.proofs.Closing.{Closed, stays, moves, closes}
use Rattle.removing.specs.Close.{closed_link}

module _ (i x : ℕ) where
  pub closed-low : x ≤ i → closed i x ≡ x
  closed-low h = by (closes i x)
    where
      by : Closed i x → closed i x ≡ x
      by (stays k e) = e
      by (moves k e) = absurd (omega arith)

  pub closed-high : i < x → closed i x ≡ x - 1
  closed-high h = by (closes i x)
    where
      by : Closed i x → closed i x ≡ x - 1
      by (stays k e) = absurd (omega arith)
      by (moves k e) = omega arith

  pub closed-le : closed i x ≤ x
  closed-le = by (closes i x)
    where
      by : Closed i x → closed i x ≤ x
      by (stays k e) = omega arith
      by (moves k e) = omega arith

  -- all but i have a place below one less
  pub closed_in : (k : ℕ) → i ≤ k → x ≤ k → x ≢ i → closed i x < k
  closed_in k h l d = by (closes i x)
    where
      by : Closed i x → closed i x < k
      by (stays a e) = omega arith
      by (moves a e) = omega arith

  -- ---- links
  pub link_none : x ≡ no_node → closed_link i x ≡ no_node
  unfolding closed_link
  link_none e = rw (eq-eqb x no_node e)

  pub link_some : x ≢ no_node → closed_link i x ≡ closed i x
  unfolding closed_link
  link_some d = rw (ne_eqb x no_node d)
