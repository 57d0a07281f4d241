-- That a tree is well-formed has more than one proof, since a rank is a choice. The number of steps up to the source is one, and all else that is said of a tree has one proof at most; so a well-formed tree follows where one merely exists.
use Rattle.std.proofs.Common.{◌≡◌, refl, ap, List, ℕ, zero, suc, ◌≤◌, ◌<◌, arith, length}
use Rattle.std.proofs.Math.Bridge.{le_prop}
use Rattle.std.proofs.Math.Logic.{∥∥₁_elim, ∥∥₁_map}
use Rattle.std.proofs.Math.Nat.{ℕ_set}
use Rattle.std.proofs.Props.{props}
use Rattle.tree.specs.Tree.{Tree, Node, Name, source, steiner, terminal, Parent, none, at, node_at}
use Rattle.tree.specs.Shape.{Linked, Given, Named}
use Rattle.tree.specs.WellFormed.{WellFormed}
use Rattle.tree.proofs.Linking.{linked_by, child_in}

pub Name-set : IsSet Name
Name-set = hlevel props

pub Parent-set : IsSet Parent
Parent-set = hlevel props

pub Given-prop : (st te : ℕ) (n : Name) → IsProp (Given st te n)
Given-prop st te source = hlevel props
Given-prop st te (steiner k) = hlevel props
Given-prop st te (terminal k) = hlevel props

pub Named-prop : (n : ℕ) (name : ℕ → Name) (st te : ℕ) → IsProp (Named n name st te)
Named-prop n name st te = hlevel (props, Name-set, Given-prop)

-- ---- the steps up from a node, k at most
abbrev below : (ℕ → ℕ) → Parent → ℕ
below f none = 0
below f (at p) = suc (f p)

unfoldable depth : List Node → ℕ → ℕ → ℕ
depth ns zero i = 0
depth ns (suc k) i = below (depth ns k) (node_at ns i).parent

module _ {ns : List Node} (g : Linked ns) where
  -- from a rank of at most k, one more step changes nothing
  steady : (k i : ℕ) → g.rank i ≤ k → depth ns k i ≡ depth ns (suc k) i
  unfolding depth
  steady zero i r = by (node_at ns i).parent refl
    where
      by : (x : Parent) → (node_at ns i).parent ≡ x → 0 ≡ below (λ j. 0) x
      by none e = refl
      by (at p) e = absurd (omega (arith, g.falls i p e))
  steady (suc k) i r = by (node_at ns i).parent refl (steady k)
    where
      by : (x : Parent) → (node_at ns i).parent ≡ x → ((j : ℕ) → g.rank j ≤ k → depth ns k j ≡ depth ns (suc k) j) → below (depth ns k) x ≡ below (depth ns (suc k)) x
      by none e ih = refl
      by (at p) e ih = ap suc (ih p (omega (arith, g.falls i p e)))

  one_more : (k c p : ℕ) → (node_at ns c).parent ≡ at p → depth ns (suc k) c ≡ suc (depth ns k p)
  unfolding depth
  one_more k c p e = ap (below (depth ns k)) e

  depth-falls : (c p : ℕ) → (node_at ns c).parent ≡ at p → depth ns (length ns) p < depth ns (length ns) c
  depth-falls c p e = omega (arith, steady (length ns) c (omega (arith, g.small c (child_in g c p e))), one_more (length ns) c p e)

pub linked_of : (ns : List Node) → ∥ Linked ns ∥₁ → Linked ns
linked_of ns m =
    linked_by ns
    (∥∥₁_elim m le_prop (λ g. g.some))
    (∥∥₁_elim m (Parent-set _ _) (λ g. g.top))
    (∥∥₁_elim m (hlevel (props, Parent-set)) (λ g. g.others))
    (∥∥₁_elim m (hlevel props) (λ g. g.links))
    (depth ns (length ns))
    (∥∥₁_elim m (hlevel props) depth-falls)

pub formed_of : (t : Tree) → ∥ WellFormed t ∥₁ → WellFormed t
formed_of t m =
    record {
      linked = linked_of t.nodes (∥∥₁_map m (λ f. f.linked));
      named = ∥∥₁_elim m (Named-prop _ _ _ _) (λ f. f.named);
      near = ∥∥₁_elim m (hlevel props) (λ f. f.near);
      short = ∥∥₁_elim m (hlevel props) (λ f. f.short);
      terminals = ∥∥₁_elim m (ℕ_set _ _) (λ f. f.terminals);
    }
