-- What a rank tells: its child's index, whether its branch is within the allowance, and then twice its D. The idea: the index is below `branch_indices`, of which the
-- rest of the number is a multiple.
use Rattle.std.proofs.Common.{ℕ, ◌+◌, ◌*◌, ◌/◌, ◌%◌, ◌≤◌, ◌<◌, ◌≡◌, refl, Bool, true, false, cond, arith, ltb}
use borrow.Author.Tests.{ltb-true, ltb-false}
use Rattle.nearest.specs.Ranks.{branch_indices, beyond, excess, length_by, twice_by, branch_rank}

-- within the allowance, or beyond it
data Side (l allowed x : ℕ) : Type 0 where
  inner : l ≤ allowed → x ≡ 0 → Side l allowed x
  outer : allowed < l → x ≡ beyond → Side l allowed x

side : (l allowed : ℕ) → Side l allowed (excess l allowed)
unfolding excess
side l allowed = by (ltb allowed l) refl
  where
    by : (t : Bool) → ltb allowed l ≡ t → Side l allowed (cond t beyond 0)
    by true e = outer (ltb-true allowed l e) refl
    by false e = inner (ltb-false allowed l e) refl

pub excess_small : (l allowed : ℕ) {x : ℕ} → x ≡ excess l allowed → x ≤ beyond
excess_small l allowed e = by e (side l allowed)
  where
    by : {x y : ℕ} → x ≡ y → Side l allowed y → x ≤ beyond
    by d (inner h z) = omega arith
    by d (outer h z) = omega arith

module _ (e path up : ℕ → ℕ) (allowed c : ℕ) where
  abbrev L : ℕ
  L = length_by e path up c

  abbrev R : ℕ
  R = branch_rank e path up allowed c

  rank_is : R ≡ twice_by e path up c * branch_indices + c + excess L allowed
  unfolding branch_rank
  rank_is = refl

  pub within_of : R < beyond → L ≤ allowed
  within_of h = by (side L allowed)
    where
      by : Side L allowed (excess L allowed) → L ≤ allowed
      by (inner k z) = k
      by (outer k z) = absurd (omega (arith, rank_is))

  module _ (few : c < branch_indices) where
    pub child_of_lem : R % branch_indices ≡ c
    child_of_lem = by (side L allowed)
      where
        by : Side L allowed (excess L allowed) → R % branch_indices ≡ c
        by (inner k z) = omega (arith, rank_is)
        by (outer k z) = omega (arith, rank_is)

    pub twice_of : L ≤ allowed → R / branch_indices ≡ twice_by e path up c
    twice_of h = by (side L allowed)
      where
        by : Side L allowed (excess L allowed) → R / branch_indices ≡ twice_by e path up c
        by (inner k z) = omega (arith, rank_is)
        by (outer k z) = absurd (omega arith)
