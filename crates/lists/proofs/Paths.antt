-- A path as it is written: the parent's, then the node. And the loop that lists the nodes of a kind.
use Rattle.std.proofs.Common.{◌≡◌, refl, ap, sym, ◌∙◌, List, [], ◌∷◌, ◌++◌, ℕ, zero, suc, ◌+◌, ◌-◌, ◌≤◌, ◌<◌, arith, length, get_or, Option}
use Rattle.wire.specs.Puts.{Puts, puts_as, puts_then}
use Rattle.tree.specs.Tree.{Node, Parent, none, at, node_at}
use Rattle.tree.specs.Measures.{kind_of, of_parent, path_down, path_to, those, of_kind}
use Rattle.tree.specs.declared.NodeIndex.{NodeIndex}
use Rattle.joining.specs.Store.{Columns, index_from}
use Rattle.measures.proofs.Reading.{Read}
use Rattle.measures.proofs.KindsOf.{is_kind, one_more, none_more}

module _ (ns : List Node) (i : ℕ) where
  pub path-none : (left : ℕ) → left ≡ 0 → i ∷ [] ≡ path_down ns left i
  unfolding path_down
  path-none zero e = refl
  path-none (suc left) e = absurd (omega arith)

  pub path-source : (left : ℕ) → (node_at ns i).parent ≡ none → i ∷ [] ≡ path_down ns left i
  unfolding path_down
  path-source zero e = refl
  path-source (suc left) e = sym (ap (λ (p : Parent). of_parent p (path_down ns left) ++ (i ∷ [])) e)

  pub path_more : (left p : ℕ) → (left ≡ 0 → ⊥) → (node_at ns i).parent ≡ at p → path_down ns (left - 1) p ++ (i ∷ []) ≡ path_down ns left i
  unfolding path_down
  path_more zero p f e = absurd (f refl)
  path_more (suc left) p f e =
      let d : suc left - 1 ≡ left = omega arith in
      rw d (sym (ap (λ (q : Parent). of_parent q (path_down ns left) ++ (i ∷ [])) e))

pub path-whole : {ns : List Node} {c : Columns} {n : ℕ} → Read ns c n → (i : ℕ) → path_down ns n i ≡ path_to ns i
path-whole {ns} v i = ap (λ (k : ℕ). path_down ns k i) (sym v.size)

-- ---- the nodes of a kind
pub record Listed (ns : List Node) (n k : ℕ) (out₀ : List ℕ) (from : ℕ) (out : List ℕ) (p i : ℕ) : Type 0 where
  pub low : i ≤ n
  pub puts : Puts out₀ from (those (is_kind k ns) i) out p

module _ (ns : List Node) (n k : ℕ) (out₀ : List ℕ) (from : ℕ) where
  pub list_none : {p : ℕ} → Puts out₀ from [] out₀ p → Listed ns n k out₀ from out₀ p 0
  unfolding those
  list_none h = record { low = omega arith; puts = h }

  pub list_all : {out : List ℕ} {p i : ℕ} → Listed ns n k out₀ from out p i → length ns ≡ n → n ≤ i → Puts out₀ from (of_kind k ns) out p
  list_all {out} {p} {i} v e h = puts_as v.puts (ap (those (is_kind k ns)) (omega (arith, v.low)))

  module _ {out : List ℕ} {p i r : ℕ} (v : Listed ns n k out₀ from out p i) (h : i < n) (e : r ≡ kind_of (node_at ns i).name) where
    pub lists_it : {out' : List ℕ} {q : ℕ} → r ≡ k → Puts out p (i ∷ []) out' q → Listed ns n k out₀ from out' q (i + 1)
    lists_it f w = record { low = omega arith; puts = puts_as (puts_then v.puts w) (one_more ns k i r e f) }

    pub leaves_it : (r ≡ k → ⊥) → Listed ns n k out₀ from out p (i + 1)
    leaves_it f = record { low = omega arith; puts = puts_as v.puts (none_more ns k i r e f) }

-- what is read at k, which is i
pub read_at : (parent : List ℕ) {x : Option NodeIndex} {k i : ℕ} → x ≡ index_from (get_or parent k 0) → k ≡ i → x ≡ index_from (get_or parent i 0)
read_at parent ex e = ex ∙ ap (λ (j : ℕ). index_from (get_or parent j 0)) e
