-- As many steps as there are nodes are enough for a path: a parent's rank is below its child's.
use Rattle.std.proofs.Common.{ℕ, zero, suc, ◌+◌, ◌≤◌, ◌<◌, ◌≡◌, refl, ap, sym, ◌∙◌, List, [], ◌∷◌, ◌++◌, arith, length}
use Rattle.tree.specs.Tree.{Node, Parent, none, at, node_at}
use Rattle.tree.specs.Measures.{of_parent, path_down, path_to}
use Rattle.tree.specs.Shape.{Linked}
use Rattle.lists.proofs.Paths.{path-source}

module _ (ns : List Node) (g : Linked ns) where
  one_more : (k i : ℕ) → g.rank i ≤ k → path_down ns (suc k) i ≡ path_down ns k i
  unfolding path_down
  one_more zero i r = by (node_at ns i).parent refl
    where
      by : (x : Parent) → (node_at ns i).parent ≡ x → path_down ns 1 i ≡ path_down ns 0 i
      by none e = sym (path-source ns i 1 e) ∙ path-source ns i 0 e
      by (at p) e = absurd (omega (arith, g.falls i p e))
  one_more (suc k) i r = by (node_at ns i).parent refl (one_more k)
    where
      by : (x : Parent) → (node_at ns i).parent ≡ x → ((p : ℕ) → g.rank p ≤ k → path_down ns (suc k) p ≡ path_down ns k p) → path_down ns (suc (suc k)) i ≡ path_down ns (suc k) i
      by none e ih = sym (path-source ns i (suc (suc k)) e) ∙ path-source ns i (suc k) e
      by (at p) e ih =
          ap (λ (x : Parent). of_parent x (path_down ns (suc k)) ++ (i ∷ [])) e
          ∙ ap (λ (l : List ℕ). l ++ (i ∷ [])) (ih p (omega (arith, g.falls i p e)))
          ∙ sym (ap (λ (x : Parent). of_parent x (path_down ns k) ++ (i ∷ [])) e)

  pub path_enough : (extra i : ℕ) → i < length ns → path_down ns (length ns + extra) i ≡ path_to ns i
  path_enough zero i h = let e : length ns + 0 ≡ length ns = omega arith in ap (λ (k : ℕ). path_down ns k i) e
  path_enough (suc extra) i h =
      let e : length ns + suc extra ≡ suc (length ns + extra) = omega arith in
      ap (λ (k : ℕ). path_down ns k i) e ∙ one_more (length ns + extra) i (omega (arith, g.small i h)) ∙ path_enough extra i h
