-- What the inner functions' contracts say, which take the digits from the first on. No public contract cites these. Definitions only.
use Rattle.std.specs.Prelude.{◌≡◌, ◌⊎◌, List, [], ◌∷◌, ℕ, zero, suc, ◌+◌, ◌-◌, ◌≤◌, ◌<◌, ◌/◌, ◌%◌, ◌^◌}

-- the last k digits of n < 10 ^ k, from the first on
unfoldable pub padded : ℕ → ℕ → List ℕ
padded zero n = []
padded (suc k) n = (48 + n / 10 ^ k) ∷ padded k (n % 10 ^ k)

-- m has k digits, at most 10
pub record Sized (m k : ℕ) : Type 0 where
  pub some : 0 < k
  pub most : k ≤ 10
  pub below : m < 10 ^ k
  pub above : (k ≡ 1) ⊎ (10 ^ (k - 1) ≤ m)
