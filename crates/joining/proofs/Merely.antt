-- What is said of the columns of a tree has one proof at most, so it follows where one merely exists.
use Rattle.std.proofs.Common.{List, [], ◌∷◌, ℕ}
use Rattle.std.proofs.Math.Logic.{∥∥₁_elim}
use Rattle.std.proofs.Math.Nat.{ℕ_set}
use mathlib.Core.HLevel.{×_prop, Unit-prop}
use Rattle.std.proofs.Props.{props}
use Rattle.tree.specs.Tree.{Node}
use Rattle.tree.proofs.Merely.{Name-set, Parent-set}
use Rattle.search.proofs.Merely.{Chain-prop}
use Rattle.joining.specs.Links.{Links, BackedBy, LinkedBack}
use Rattle.joining.specs.Store.{Columns, Sized, Keeps}

pub BackedBy-prop : (next : List ℕ) (after : ℕ) (cs : List ℕ) → IsProp (BackedBy next after cs)
unfolding BackedBy
BackedBy-prop next after [] = Unit-prop
BackedBy-prop next after (c ∷ r) = ×_prop (ℕ_set _ _) (BackedBy-prop next c r)

pub Node-set : IsSet Node
Node-set = hlevel (props, Name-set, Parent-set)

pub back_of : {m n : ℕ} {l : Links} → ∥ LinkedBack m n l ∥₁ → LinkedBack m n l
back_of {m} {n} {l} k = record { size = ∥∥₁_elim k (ℕ_set _ _) (λ b. b.size); agree = ∥∥₁_elim k (hlevel (BackedBy-prop)) (λ b. b.agree) }

pub keeps_of : {ns : List Node} {c : Columns} → ∥ Keeps ns c ∥₁ → Keeps ns c
keeps_of {ns} {c} m = record { rows = ∥∥₁_elim m (hlevel (props, Node-set)) (λ k. k.rows); children = ∥∥₁_elim m (hlevel Chain-prop) (λ k. k.children) }

pub sized_of : {m : ℕ} {c : Columns} → ∥ Sized m c ∥₁ → Sized m c
sized_of {m} {c} k = ∥∥₁_elim k (hlevel props) (λ s. s)
