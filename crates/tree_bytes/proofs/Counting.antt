-- The loop that counts the nodes of a kind.
use Rattle.std.proofs.Common.{◌≡◌, refl, ap, ◌∙◌, List, [], ◌∷◌, ℕ, ◌+◌, ◌≤◌, ◌<◌, arith, length, length-append}
use Rattle.tree.specs.Tree.{Node, node_at}
use Rattle.tree.specs.Measures.{kind_of, those, of_kind}
use Rattle.measures.proofs.KindsOf.{is_kind, one_more, none_more}

pub record Counts (ns : List Node) (n k i m : ℕ) : Type 0 where
  pub low : i ≤ n
  pub few : m ≤ i
  pub is : m ≡ length (those (is_kind k ns) i)

module _ (ns : List Node) (n k : ℕ) where
  pub count_none : Counts ns n k 0 0
  unfolding those
  count_none = record { low = omega arith; few = omega arith; is = refl }

  pub count-all : {i m : ℕ} → Counts ns n k i m → length ns ≡ n → n ≤ i → m ≡ length (of_kind k ns)
  count-all {i} {m} v e h = v.is ∙ ap (λ (j : ℕ). length (those (is_kind k ns) j)) (omega (arith, v.low))

  module _ {i m r : ℕ} (v : Counts ns n k i m) (h : i < n) (e : r ≡ kind_of (node_at ns i).name) where
    pub counts_it : r ≡ k → Counts ns n k (i + 1) (m + 1)
    counts_it f =
        record {
          low = omega arith;
          few = omega (arith, v.few);
          is = omega (arith, v.is, length-append (those (is_kind k ns) i) (i ∷ []), ap length (one_more ns k i r e f));
        }

    pub leaves_it : (r ≡ k → ⊥) → Counts ns n k (i + 1) m
    leaves_it f = record { low = omega arith; few = omega (arith, v.few); is = v.is ∙ ap length (none_more ns k i r e f) }
