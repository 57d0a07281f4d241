-- `optimize` keeps a tree well formed and leaves no one-child Steiner node, and a pass down the indices that removes each as it finds it computes `optimized`.
-- The idea: a removal changes neither the name nor the number of children of another node, so which nodes are lone can be asked at any time.
use Rattle.std.proofs.Common.{◌≡◌, refl, sym, ap, ap₂, subst, ◌∙◌, Bool, true, false, ◌&&◌, cond, List, [], ◌∷◌, ◌++◌, append-nil, ℕ, zero, suc, ◌≤◌, ◌<◌, arith, length, eqb}
use Rattle.std.proofs.Math.Decide.{ℕ_discrete}
use mathlib.Core.List.{foldr, foldr-append}
use Rattle.tree.specs.Tree.{Node, Tree, Name, Parent, none, at, node_at}
use Rattle.tree.specs.Measures.{those}
use Rattle.tree.specs.Shape.{Linked}
use Rattle.tree.specs.WellFormed.{WellFormed}
use Rattle.tree.specs.Optimize.{is_steiner, lone, remove_below, remove, optimized, with_nodes, optimize}
use Rattle.tree.proofs.Nodes.{past}
use Rattle.tree.proofs.Measuring.{Core}
use Rattle.tree.proofs.Closing.{opened, opened_low, opened_high}
use Rattle.tree.proofs.Removing.{Lone, lone_below, core_remove, as_many, linked-remove, lone-found, formed-remove, removed}

-- ---- the others stay lone, or not
module _ {ns : List Node} (g : Linked ns) {i : ℕ} (v : Lone ns i) where
  pub lone-left : (j : ℕ) → lone (remove i ns) j ≡ lone ns (opened i j)
  unfolding lone
  lone-left j = ap₂ (λ (x : Name) (k : ℕ). is_steiner x && eqb k 1) (ap (λ (x : Core). x.name) (core_remove g v j)) (as_many g v j)

-- a node without a parent stays
remove-none : (i : ℕ) (ns : List Node) → (node_at ns i).parent ≡ none → remove i ns ≡ ns
unfolding remove
remove-none i ns e = ap (remove_below i ns) e

module _ {ns : List Node} (g : Linked ns) (i : ℕ) (l : lone ns i ≡ true) where
  pub lone-kept : (j : ℕ) → j < i → lone (remove i ns) j ≡ lone ns j
  lone-kept j h = by (node_at ns i).parent refl
    where
      by : (x : Parent) → (node_at ns i).parent ≡ x → lone (remove i ns) j ≡ lone ns j
      by none e = ap (λ (ms : List Node). lone ms j) (remove-none i ns e)
      by (at p) e = lone-left g (lone_below ns i p l e) j ∙ ap (lone ns) (opened_low i j h)

  pub links-kept : Linked (remove i ns)
  links-kept = by (node_at ns i).parent refl
    where
      by : (x : Parent) → (node_at ns i).parent ≡ x → Linked (remove i ns)
      by none e = subst Linked (sym (remove-none i ns e)) g
      by (at p) e = linked-remove g (lone_below ns i p l e)

-- ---- a pass down the indices
-- from index k - 1 down to 0, each lone node goes as it is found
unfoldable pub pass : ℕ → List Node → List Node
pass zero ns = ns
pass (suc k) ns = pass k (cond (lone ns k) (remove k ns) ns)

those-same : (f h : ℕ → Bool) (k : ℕ) → ((j : ℕ) → j < k → f j ≡ h j) → those f k ≡ those h k
unfolding those
those-same f h zero e = refl
those-same f h (suc k) e = ap₂ (λ (l : List ℕ) (t : Bool). l ++ cond t (k ∷ []) []) (those-same f h k (λ j l. e j (omega arith))) (e k (omega arith))

pass_chosen : (k : ℕ) (ns : List Node) → Linked ns → pass k ns ≡ foldr remove ns (those (lone ns) k)
unfolding pass those
pass_chosen zero ns g = refl
pass_chosen (suc k) ns g = by (lone ns k) refl (pass_chosen k)
  where
    by : (t : Bool) → lone ns k ≡ t → ((ms : List Node) → Linked ms → pass k ms ≡ foldr remove ms (those (lone ms) k))
        → pass k (cond t (remove k ns) ns) ≡ foldr remove ns (those (lone ns) k ++ cond t (k ∷ []) [])
    by true e ih =
        ih (remove k ns) (links-kept g k e)
        ∙ ap (foldr remove (remove k ns)) (those-same (lone (remove k ns)) (lone ns) k (lone-kept g k e))
        ∙ sym (foldr-append remove ns (those (lone ns) k) (k ∷ []))
    by false e ih = ih ns g ∙ ap (foldr remove ns) (sym (append-nil (those (lone ns) k)))

-- "chosen before any removal": to choose on the way down is the same
pub pass_optimized : (ns : List Node) → Linked ns → pass (length ns) ns ≡ optimized ns
unfolding optimized
pass_optimized ns g = pass_chosen (length ns) ns g

-- ---- all of them go
pub formed_pass : (k : ℕ) (t : Tree) → WellFormed t → WellFormed (with_nodes t (pass k t.nodes))
unfolding pass
formed_pass zero t f = f
formed_pass (suc k) t f = by (lone t.nodes k) refl (formed_pass k)
  where
    by : (b : Bool) → lone t.nodes k ≡ b → ((u : Tree) → WellFormed u → WellFormed (with_nodes u (pass k u.nodes)))
        → WellFormed (with_nodes t (pass k (cond b (remove k t.nodes) t.nodes)))
    by true e ih = ih (with_nodes t (remove k t.nodes)) (formed-remove t f k e)
    by false e ih = ih t f

pub formed-optimize : (t : Tree) → WellFormed t → WellFormed (optimize t)
formed-optimize t f = subst (λ (ns : List Node). WellFormed (with_nodes t ns)) (pass_optimized t.nodes f.linked) (formed_pass (length t.nodes) t f)

-- a pass takes nodes out
fewer_pass : (k : ℕ) (t : Tree) → WellFormed t → length (pass k t.nodes) ≤ length t.nodes
unfolding pass
fewer_pass zero t f = omega arith
fewer_pass (suc k) t f = by (lone t.nodes k) refl (fewer_pass k)
  where
    by : (b : Bool) → lone t.nodes k ≡ b → ((u : Tree) → WellFormed u → length (pass k u.nodes) ≤ length u.nodes)
        → length (pass k (cond b (remove k t.nodes) t.nodes)) ≤ length t.nodes
    by true e ih = omega (arith, ih (with_nodes t (remove k t.nodes)) (formed-remove t f k e), removed t f k e)
    by false e ih = ih t f

pub fewer_optimized : (t : Tree) → WellFormed t → length (optimized t.nodes) ≤ length t.nodes
fewer_optimized t f = subst (λ (ns : List Node). length ns ≤ length t.nodes) (pass_optimized t.nodes f.linked) (fewer_pass (length t.nodes) t f)

-- ---- none is left
-- none of the nodes from k on is lone
abbrev Done : ℕ → List Node → Type 0
Done k ns = (j : ℕ) → k ≤ j → lone ns j ≡ false

past-lone : (ns : List Node) → Done (length ns) ns
unfolding lone
past-lone ns j h = ap (λ (n : Node). is_steiner n.name && eqb (length n.children) 1) (past ns j h)

done_pass : (k : ℕ) (t : Tree) → WellFormed t → Done k t.nodes → Done 0 (pass k t.nodes)
unfolding pass
done_pass zero t f d = d
done_pass (suc k) t f d = by (lone t.nodes k) refl (done_pass k)
  where
    by : (b : Bool) → lone t.nodes k ≡ b → ((u : Tree) → WellFormed u → Done k u.nodes → Done 0 (pass k u.nodes))
        → Done 0 (pass k (cond b (remove k t.nodes) t.nodes))
    by true e ih =
        ih (with_nodes t (remove k t.nodes)) (formed-remove t f k e)
        (λ j h. lone-left f.linked (lone-found f k e) j ∙ ap (lone t.nodes) (opened_high k j h) ∙ d (suc j) (omega arith))
    by false e ih = ih t f (λ j h. here j h (ℕ_discrete j k))
      where
        here : (j : ℕ) → k ≤ j → Dec (j ≡ k) → lone t.nodes j ≡ false
        here j h (yes z) = ap (lone t.nodes) z ∙ e
        here j h (no z) = d j (omega arith)

-- no Steiner node that remains has one child
pub none_left : (t : Tree) → WellFormed t → (j : ℕ) → lone (optimize t).nodes j ≡ false
none_left t f j =
    ap (λ (ns : List Node). lone ns j) (sym (pass_optimized t.nodes f.linked))
    ∙ done_pass (length t.nodes) t f (past-lone t.nodes) j (omega arith)
