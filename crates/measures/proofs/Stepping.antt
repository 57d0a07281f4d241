-- A chain of siblings that a lent tree has: what its type says, without the truncation; and what a step past its end gives.
use Rattle.std.proofs.Common.{ℕ, ◌≡◌, sym, subst, List, [], Option, None}
use Rattle.std.proofs.Math.Bridge.{le_prop}
use Rattle.std.proofs.Math.Logic.{∥∥₁_elim, ∥∥₁_map}
use Rattle.std.proofs.Props.{props}
use Rattle.std.specs.Iterator.{YieldsFirstBy}
use Rattle.tree.specs.declared.NodeIndex.{NodeIndex}
use Rattle.search.proofs.Merely.{chained_of}
use Rattle.measures.specs.declared.Chain.{Chain}
use Rattle.measures.specs.Children.{Siblings}
use Rattle.measures.specs.Chains.{rest_of}

pub siblings_in : {prev : List ℕ} {n : ℕ} {child : Option NodeIndex} → ∥ Siblings prev n child ∥₁ → Siblings prev n child
siblings_in m =
    record {
      read = ∥∥₁_elim m (hlevel props) (λ s. s.read);
      links = chained_of (∥∥₁_map m (λ s. s.links));
      below = λ x h. ∥∥₁_elim m le_prop (λ s. s.below x h);
    }

-- past the end it gives none, and stays there
pub stays_none : (s : Chain) {r : Option NodeIndex} → r ≡ None → rest_of s ≡ [] → YieldsFirstBy (λ c. c.0) rest_of s r s
stays_none s e z = subst (λ (x : Option NodeIndex). YieldsFirstBy (λ c. c.0) rest_of s x s) (sym e) (z, z)
