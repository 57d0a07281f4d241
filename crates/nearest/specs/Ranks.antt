-- The rank of a branch: twice its D, then the index of its child, as one number; a branch beyond the allowance has a rank above all others.
use Rattle.std.specs.Prelude.{ℕ, ◌+◌, ◌-◌, ◌*◌, ◌≤◌, ◌<◌, cond, List, length, get_or, ltb}
use Rattle.tree.specs.Limits.{across, longest_path}

-- more than any u16: a rank of 64 bits has room for them all
abbrev pub branch_indices : ℕ
branch_indices = 65536

-- more than the rank of any branch within the allowance
abbrev pub beyond : ℕ
beyond = 1152921504606846976

-- where there is no branch
abbrev pub no_rank : ℕ
no_rank = 18446744073709551615

-- what the rank of a branch of length l has more, where l is beyond the allowance
unfoldable pub excess : ℕ → ℕ → ℕ
excess l allowed = cond (ltb allowed l) beyond 0

-- node i is e i from the point, and has the path length path i and the parent up i
module _ (e path up : ℕ → ℕ) where
  -- L of the branch that ends at c
  abbrev pub length_by : ℕ → ℕ
  length_by c = path (up c) + e (up c)

  -- 2·D of that branch
  abbrev pub twice_by : ℕ → ℕ
  twice_by c = length_by c + e c - path c

  unfoldable pub branch_rank : ℕ → ℕ → ℕ
  branch_rank allowed c = twice_by c * branch_indices + c + excess (length_by c) allowed

-- a column as a function
abbrev pub entry : List ℕ → ℕ → ℕ
entry l i = get_or l i 0

-- the branch to c has a rank: no number is too large, and no difference is negative
pub record Rankable (e path parent : List ℕ) (c : ℕ) : Type 0 where
  pub few : c < branch_indices
  pub in_e : c < length e
  pub in_path : c < length path
  pub in_parent : c < length parent
  pub up_e : get_or parent c 0 < length e
  pub up-path : get_or parent c 0 < length path
  pub near : get_or e c 0 ≤ across
  pub up-near : get_or e (get_or parent c 0) 0 ≤ across
  pub up-long : get_or path (get_or parent c 0) 0 ≤ longest_path
  pub short : get_or path c 0 ≤ get_or path (get_or parent c 0) 0 + get_or e (get_or parent c 0) 0 + get_or e c 0

-- the branches of a tree of n nodes
abbrev pub AllRankable : ℕ → List ℕ → List ℕ → List ℕ → Type 0
AllRankable n e path parent = (c : ℕ) → 0 < c → c < n → Rankable e path parent c
