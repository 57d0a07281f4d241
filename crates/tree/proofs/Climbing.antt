-- The way up: as many steps as there are nodes lead to the source, since ranks fall; and a path length is the Manhattan sum along them.
use Rattle.std.proofs.Common.{◌≡◌, refl, sym, ap, ◌∙◌, List, ℕ, zero, suc, ◌+◌, ◌≤◌, ◌<◌, arith, length}
use Rattle.geometry.specs.declared.Point.{Point}
use Rattle.geometry.specs.Geometry.{dist}
use Rattle.tree.specs.Tree.{Node, Parent, none, at, node_at, to_parent, above, climb, climbed}
use Rattle.tree.proofs.Bounds.{Measured}
use Rattle.tree.specs.Shape.{Linked}
use Rattle.geometry.specs.Laws.{dist_self, triangle}
use Rattle.tree.proofs.Linking.{parent_in_lem}

stay : (ns : List Node) (i k : ℕ) → (node_at ns i).parent ≡ none → climb ns k i ≡ i
unfolding climb
stay ns i zero e = refl
stay ns i (suc k) e = ap (climb ns k) (ap (above i) e) ∙ stay ns i k e

pub stay_sum : (ns : List Node) (i k : ℕ) → (node_at ns i).parent ≡ none → climbed ns k i ≡ 0
unfolding climbed
stay_sum ns i zero e = refl
stay_sum ns i (suc k) e =
    omega (arith, ap (to_parent ns (node_at ns i).point) e, ap (λ (x : Parent). climbed ns k (above i x)) e, stay_sum ns i k e)

module _ {ns : List Node} (g : Linked ns) where
  -- k steps are enough from a rank of at most k
  climb-ends : (k i : ℕ) → i < length ns → g.rank i ≤ k → climb ns k i ≡ 0
  unfolding climb
  climb-ends zero i h r = by (node_at ns i).parent refl
    where
      by : (x : Parent) → (node_at ns i).parent ≡ x → i ≡ 0
      by none e = g.others i h e
      by (at p) e = absurd (omega (arith, g.falls i p e))
  climb-ends (suc k) i h r = by (node_at ns i).parent refl (climb-ends k)
    where
      by : (x : Parent) → (node_at ns i).parent ≡ x → ((j : ℕ) → j < length ns → g.rank j ≤ k → climb ns k j ≡ 0) → climb ns k (above i x) ≡ 0
      by none e ih = stay ns i k e ∙ g.others i h e
      by (at p) e ih = ih p (parent_in_lem g i p e) (omega (arith, g.falls i p e))

  -- from every node the parents lead to the source
  pub reaches : (i : ℕ) → i < length ns → climb ns (length ns) i ≡ 0
  reaches i h = climb-ends (length ns) i h (omega (arith, g.small i h))

  module _ {s : Point} (m : Measured s ns) where
    root_path : (i : ℕ) → i < length ns → (node_at ns i).parent ≡ none → (node_at ns i).path ≡ 0
    root_path i h e = ap (λ (j : ℕ). (node_at ns j).path) (g.others i h e) ∙ m.source-path

    -- the path length is the Manhattan sum
    climbed_is : (k i : ℕ) → i < length ns → g.rank i ≤ k → climbed ns k i ≡ (node_at ns i).path
    unfolding climbed
    climbed_is zero i h r = by (node_at ns i).parent refl
      where
        by : (x : Parent) → (node_at ns i).parent ≡ x → 0 ≡ (node_at ns i).path
        by none e = sym (root_path i h e)
        by (at p) e = absurd (omega (arith, g.falls i p e))
    climbed_is (suc k) i h r = by (node_at ns i).parent refl (climbed_is k)
      where
        by : (x : Parent) → (node_at ns i).parent ≡ x → ((j : ℕ) → j < length ns → g.rank j ≤ k → climbed ns k j ≡ (node_at ns j).path)
            → to_parent ns (node_at ns i).point x + climbed ns k (above i x) ≡ (node_at ns i).path
        by none e ih = omega (arith, stay_sum ns i k e, root_path i h e)
        by (at p) e ih = omega (arith, ih p (parent_in_lem g i p e) (omega (arith, g.falls i p e)), m.paths i p e)

    pub path_is_sum : (i : ℕ) → i < length ns → (node_at ns i).path ≡ climbed ns (length ns) i
    path_is_sum i h = sym (climbed_is (length ns) i h (omega (arith, g.small i h)))

    -- no path is shorter than the direct distance
    root_far : (i : ℕ) → i < length ns → (node_at ns i).parent ≡ none → dist s (node_at ns i).point ≤ (node_at ns i).path
    root_far i h e =
        omega (arith, ap (dist s) (ap (λ (j : ℕ). (node_at ns j).point) (g.others i h e) ∙ m.source-point), dist_self s)

    path_far : (k i : ℕ) → i < length ns → g.rank i ≤ k → dist s (node_at ns i).point ≤ (node_at ns i).path
    path_far zero i h r = by (node_at ns i).parent refl
      where
        by : (x : Parent) → (node_at ns i).parent ≡ x → dist s (node_at ns i).point ≤ (node_at ns i).path
        by none e = root_far i h e
        by (at p) e = absurd (omega (arith, g.falls i p e))
    path_far (suc k) i h r = by (node_at ns i).parent refl (path_far k)
      where
        by : (x : Parent) → (node_at ns i).parent ≡ x → ((j : ℕ) → j < length ns → g.rank j ≤ k → dist s (node_at ns j).point ≤ (node_at ns j).path)
            → dist s (node_at ns i).point ≤ (node_at ns i).path
        by none e ih = root_far i h e
        by (at p) e ih =
            omega (arith, ih p (parent_in_lem g i p e) (omega (arith, g.falls i p e)), m.paths i p e, triangle s (node_at ns p).point (node_at ns i).point)

    pub path_direct : (i : ℕ) → i < length ns → dist s (node_at ns i).point ≤ (node_at ns i).path
    path_direct i h = path_far (length ns) i h (omega (arith, g.small i h))
