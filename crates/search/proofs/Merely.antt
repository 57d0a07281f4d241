-- That a chain's links stand has one proof at most, so it follows where one merely exists.
use Rattle.std.proofs.Common.{List, [], ◌∷◌, ℕ}
use Rattle.std.proofs.Math.Bridge.{le_prop}
use Rattle.std.proofs.Math.Logic.{∥∥₁_elim}
use Rattle.std.proofs.Math.Nat.{ℕ_set}
use mathlib.Core.HLevel.{×_prop}
use Rattle.search.specs.Columns.{Chain, chain, Chained}

pub Chain-prop : (prev : List ℕ) (l : ℕ) (cs : List ℕ) → IsProp (Chain prev l cs)
unfolding Chain
Chain-prop prev l [] = ℕ_set _ _
Chain-prop prev l (c ∷ cs) = ×_prop (ℕ_set _ _) (×_prop le_prop (Chain-prop prev _ cs))

pub chained_of : {prev : List ℕ} {l : ℕ} → ∥ Chained prev l ∥₁ → Chained prev l
chained_of {prev} {l} m = record { is = ∥∥₁_elim m (Chain-prop prev l (chain prev l)) (λ c. c.is) }
