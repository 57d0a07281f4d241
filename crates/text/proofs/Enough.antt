-- As many levels as there are nodes are enough for the text: a child is less high than its parent.
use Rattle.std.proofs.Common.{◌≡◌, refl, ap, ◌∙◌, List, [], ◌∷◌, ◌++◌, append-nil, ℕ, zero, suc, ◌+◌, ◌≤◌, arith, length}
use Rattle.tree.specs.Tree.{Node, at, node_at}
use Rattle.tree.specs.Shape.{Linked}
use Rattle.tree.proofs.Searching.{Children, own, head_child, tail_child}
use Rattle.measures.proofs.Levels.{high, high-falls, no_children}
use Rattle.text.specs.Text.{node_line, each, text_from, text_of}

module _ (ns : List Node) (g : Linked ns) where
  each_same : (p : ℕ) (f f' : ℕ → List ℕ) → ((c : ℕ) → (node_at ns c).parent ≡ at p → f c ≡ f' c) → (cs : List ℕ) → Children ns p cs → each f cs ≡ each f' cs
  unfolding each
  each_same p f f' e [] k = refl
  each_same p f f' e (c ∷ cs) k = λ j. e c (head_child ns g p c cs k) j ++ each_same p f f' e cs (tail_child ns g p c cs k) j

  levels_enough : (left more level i : ℕ) → high ns g i ≤ left → text_from ns (left + more) level i ≡ text_from ns left level i
  unfolding text_from each
  levels_enough zero zero level i h = refl
  levels_enough zero (suc more) level i h =
      let e : 0 + suc more ≡ suc more = omega arith in
      rw e
      (ap (λ (cs : List ℕ). node_line level (node_at ns i) ++ each (text_from ns more (suc level)) cs) (no_children ns g i h) ∙ append-nil (node_line level (node_at ns i)))
  levels_enough (suc left) more level i h =
      let e : suc left + more ≡ suc (left + more) = omega arith in
      rw e
      (ap (λ (l : List ℕ). node_line level (node_at ns i) ++ l)
      (each_same i (text_from ns (left + more) (suc level)) (text_from ns left (suc level)) (λ c k. levels_enough left more (suc level) c (omega (arith, high-falls ns g i c k)))
      (node_at ns i).children (own ns g i)))

  pub text_enough : (more : ℕ) → text_from ns (length ns + more) 0 0 ≡ text_of ns
  text_enough more = levels_enough (length ns) more 0 0 (omega arith)
