-- Laws of chains of links, and of a stack in an array.
use Rattle.std.proofs.Common.{ℕ, zero, suc, ◌+◌, ◌≤◌, ◌<◌, ◌≡◌, refl, ap, sym, ◌∙◌, subst, Bool, true, false, cond, List, [], ◌∷◌, arith, add-one, length, get_or, set, eqb, get_or-set_same, get_or-set_other, Option, None, Some}
use borrow.Author.Tests.{eq-eqb, ne_eqb, eqb-true}
use Rattle.tree.specs.Limits.{no_node}
use Rattle.tree.specs.declared.NodeIndex.{NodeIndex}
use Rattle.search.specs.Walk.{node_index, index_from, link_in}
use Rattle.search.specs.Columns.{chain, Chain, Chained, stack_of, chain_of}

-- ---- the stack
pub stack-keep : (st : List ℕ) (at v k : ℕ) → k ≤ at → stack_of (set st at v) k ≡ stack_of st k
unfolding stack_of
stack-keep st at v zero h = refl
stack-keep st at v (suc k) h = λ i. get_or-set_other st at k v 0 (λ e. omega arith) i ∷ stack-keep st at v k (omega arith) i

pub stack_push : (st : List ℕ) (at v : ℕ) → at < length st → stack_of (set st at v) (at + 1) ≡ v ∷ stack_of st at
unfolding stack_of
stack_push st at v h = rw (add-one at) (λ i. get_or-set_same st at v 0 h i ∷ stack-keep st at v at (omega arith) i)

pub stack-length : (st : List ℕ) (k : ℕ) → length (stack_of st k) ≡ k
unfolding stack_of
stack-length st zero = refl
stack-length st (suc k) = ap suc (stack-length st k)

-- ---- chains
-- no chain is longer than its column
pub chain-short : (k : ℕ) (prev : List ℕ) (l : ℕ) → length (chain_of k prev l) ≤ k
unfolding chain_of
chain-short zero prev l = omega arith
chain-short (suc k) prev l = by (eqb l no_node) (chain-short k prev (get_or prev l 0))
  where
    by : (t : Bool) → length (chain_of k prev (get_or prev l 0)) ≤ k → length (cond t [] (l ∷ chain_of k prev (get_or prev l 0))) ≤ suc k
    by true h = omega arith
    by false h = omega arith

pub chain_is : (k : ℕ) (prev : List ℕ) (l : ℕ) (cs : List ℕ) → length prev ≤ no_node → Chain prev l cs → length cs ≤ k → chain_of k prev l ≡ cs
unfolding chain_of Chain
chain_is zero prev l [] few h b = refl
chain_is zero prev l (c ∷ cs) few h b = absurd (omega arith)
chain_is (suc k) prev l [] few h b = rw (eq-eqb l no_node h)
chain_is (suc k) prev l (c ∷ cs) few h b =
    rw (ne_eqb l no_node (λ e. omega (arith, h.1.0))) (λ i. h.0 i ∷ chain_is k prev (get_or prev l 0) cs few h.1.1 (omega arith) i)

pub record Unrolled (prev : List ℕ) (c : ℕ) : Type 0 where
  pub here : c < length prev
  pub is : chain prev c ≡ c ∷ chain prev (get_or prev c 0)
  pub after : Chained prev (get_or prev c 0)

module _ (prev : List ℕ) (c : ℕ) (few : length prev ≤ no_node) where
  by_list : (cs : List ℕ) → Chain prev c cs → length cs ≤ length prev → chain prev c ≡ cs → (c ≡ no_node → ⊥) → Unrolled prev c
  unfolding Chain
  by_list [] h b e f = absurd (f h)
  by_list (x ∷ xs) h b e f =
      let r : chain prev (get_or prev c 0) ≡ xs = chain_is (length prev) prev (get_or prev c 0) xs few h.1.1 (omega arith) in
      record {
        here = h.1.0;
        is = e ∙ (λ i. sym h.0 i ∷ sym r i);
        after = record { is = subst (λ (ys : List ℕ). Chain prev (get_or prev c 0) ys) (sym r) h.1.1 };
      }

  pub unroll : Chained prev c → (c ≡ no_node → ⊥) → Unrolled prev c
  unroll v f = by_list (chain prev c) v.is (chain-short (length prev) prev c) refl f

  pub ended : c ≡ no_node → chain prev c ≡ []
  unfolding chain_of
  ended e = by (length prev)
    where
      by : (k : ℕ) → chain_of k prev c ≡ []
      by zero = refl
      by (suc k) = rw (eq-eqb c no_node e)

-- ---- a link that is read
pub link_from : (n : ℕ) → link_in (index_from n) ≡ n
link_from n = by (eqb n no_node) refl
  where
    by : (t : Bool) → eqb n no_node ≡ t → link_in (cond t None (Some (node_index n))) ≡ n
    by true e = sym (eqb-true n no_node e)
    by false e = refl

pub link : {p : Option NodeIndex} (n : ℕ) → p ≡ index_from n → link_in p ≡ n
link n e = ap link_in e ∙ link_from n

-- it is what was read, also where only the node is at hand
pub reads : {p : Option NodeIndex} (n : ℕ) → p ≡ index_from n → p ≡ index_from (link_in p)
reads n e = e ∙ ap index_from (sym (ap link_in e ∙ link_from n))

-- a node that is read is no missing one
pub is_node : {c : NodeIndex} → Some c ≡ index_from c.0 → c.0 ≡ no_node → ⊥
is_node {c} e h = let f : Some c ≡ None = rw (eq-eqb c.0 no_node h) at e in cc
