-- A node's place among its parent's children is how many siblings stand before it, along prev.
use Rattle.std.proofs.Common.{◌≡◌, refl, sym, ap, subst, ◌∙◌, inl, inr, Bool, true, false, cond, List, [], ◌∷◌, ◌++◌, reverse, ℕ, suc, ◌+◌, ◌≤◌, ◌<◌, arith, length, get_or, eqb, Option, None, Some}
use Rattle.std.proofs.Math.ListN.{length-reverse}
use mathlib.Core.List.{reverse-cons, reverse-reverse}
use borrow.Author.Tests.{eq-eqb, eqb-true}
use Rattle.tree.specs.Limits.{most_nodes}
use Rattle.tree.specs.declared.NodeIndex.{NodeIndex}
use Rattle.tree.specs.Tree.{one, Node, at, node_at}
use Rattle.tree.specs.Shape.{count}
use Rattle.tree.specs.Measures.{place_in, place_under}
use Rattle.tree.proofs.Linking.{counted}
use Rattle.search.specs.Columns.{Has, chain, Chain, Chained}
use Rattle.search.proofs.Chains.{chain_is}
use Rattle.search.proofs.Distinct.{pigeon}
use Rattle.search.specs.Find.{examined}
use Rattle.joining.specs.Store.{Columns, index_from}
use Rattle.joining.proofs.Agree.{count-reverse, once}
use Rattle.measures.specs.Children.{chain_at, Siblings}
use Rattle.measures.proofs.Reading.{Read, parent_is, parent_low}
use Rattle.measures.proofs.Children.{link_read, siblings_from}

-- not there: the place of the new one is the length
place_new : (i : ℕ) (xs : List ℕ) → count i xs ≡ 0 → place_in i (xs ++ (i ∷ [])) ≡ length xs
unfolding place_in count
place_new i [] h = rw (eq-eqb i i refl)
place_new i (x ∷ xs) h = by (eqb x i) h (place_new i xs)
  where
    by : (t : Bool) → one t + count i xs ≡ 0 → (count i xs ≡ 0 → place_in i (xs ++ (i ∷ [])) ≡ length xs) → cond t 0 (suc (place_in i (xs ++ (i ∷ [])))) ≡ suc (length xs)
    by true e r = absurd (omega arith)
    by false e r = ap suc (r (omega arith))

-- there: one more after it changes nothing
place_old : (i : ℕ) (xs : List ℕ) (l : ℕ) → 0 < count i xs → place_in i (xs ++ (l ∷ [])) ≡ place_in i xs
unfolding place_in count
place_old i [] l h = absurd (omega arith)
place_old i (x ∷ xs) l h = by (eqb x i) h (place_old i xs l)
  where
    by : (t : Bool) → 0 < one t + count i xs → (0 < count i xs → place_in i (xs ++ (l ∷ [])) ≡ place_in i xs)
        → cond t 0 (suc (place_in i (xs ++ (l ∷ [])))) ≡ cond t 0 (suc (place_in i xs))
    by true e r = refl
    by false e r = ap suc (r (omega arith))

-- those before i, from the nearest on, where cs are all from the last on
record Before (prev : List ℕ) (i : ℕ) (cs : List ℕ) : Type 0 where
  those : List ℕ
  lead : Chain prev (get_or prev i 0) those
  few : length those < length cs
  among : (x : ℕ) → Has x those → Has x cs
  place : place_in i (reverse cs) ≡ length those

before : (prev : List ℕ) (i l : ℕ) (cs : List ℕ) → Chain prev l cs → count i cs ≡ 1 → Before prev i cs
unfolding Chain count Has
before prev i l [] h k = absurd (omega arith)
before prev i l (c ∷ cs) h k = by (eqb c i) refl k (before prev i (get_or prev l 0) cs h.1.1)
  where
    by : (t : Bool) → eqb c i ≡ t → one t + count i cs ≡ 1 → (count i cs ≡ 1 → Before prev i cs) → Before prev i (c ∷ cs)
    by true t e b =
        let d : c ≡ i = eqb-true c i t in
        let z : count i (reverse cs) ≡ 0 = omega (arith, count-reverse i cs) in
        record {
          those = cs;
          lead = subst (λ (m : ℕ). Chain prev (get_or prev m 0) cs) (h.0 ∙ d) h.1.1;
          few = omega arith;
          among = λ x m. inr m;
          place = ap (place_in i) (reverse-cons c cs) ∙ ap (λ (m : ℕ). place_in i (reverse cs ++ (m ∷ []))) d ∙ place_new i (reverse cs) z ∙ length-reverse cs;
        }
    by false t e b =
        let v = b (omega arith) in
        record {
          those = v.those;
          lead = v.lead;
          few = omega (arith, v.few);
          among = λ x m. inr (v.among x m);
          place = ap (place_in i) (reverse-cons c cs) ∙ place_old i (reverse cs) c (omega (arith, count-reverse i cs)) ∙ v.place;
        }

-- a sibling and those before it are `all`
pub record Earlier (prev : List ℕ) (n all : ℕ) (sibling : Option NodeIndex) : Type 0 where
  pub siblings : Siblings prev n sibling
  pub is : length (chain_at prev sibling) ≡ all
  pub few : all ≤ most_nodes

module _ {ns : List Node} {c : Columns} {n : ℕ} (v : Read ns c n) where
  module _ (i : ℕ) (h : i < n) where
    abbrev pub place_of : ℕ
    place_of = place_under ns i (node_at ns i).parent

    pub place-source : None ≡ index_from (get_or c.rows.parent i 0) → 0 ≡ place_of
    place-source e = sym (ap (place_under ns i) (parent_is v i h e))

    module _ {p : NodeIndex} (f : Some p ≡ index_from (get_or c.rows.parent i 0)) where
      low : p.0 < n
      low = parent_low v i h f refl

      is_child : (node_at ns i).parent ≡ at p.0
      is_child = parent_is v i h f

      cs : List ℕ
      cs = examined ns p.0

      short : length cs ≤ n
      unfolding cs
      short =
          let below : (x : ℕ) → Has x (examined ns p.0) → x < n = λ x m. v.below p.0 x low (subst (Has x) (sym (v.kids p.0 low)) m) in
          pigeon n (examined ns p.0) (once ns v.linked p.0) below

      sibs : Before c.prev i cs
      unfolding cs
      sibs =
          before c.prev i (get_or c.last p.0 0) (examined ns p.0) (subst (Chain c.prev (get_or c.last p.0 0)) (v.kids p.0 low) (v.links p.0 low).is)
          (count-reverse i (node_at ns p.0).children ∙ counted v.linked i p.0 is_child)

      chain-those : chain c.prev (get_or c.prev i 0) ≡ sibs.those
      chain-those = chain_is (length c.prev) c.prev (get_or c.prev i 0) sibs.those v.ends sibs.lead (omega (arith, sibs.few, short, v.few, v.in_prev))

      pub earlier : {sibling : Option NodeIndex} → sibling ≡ index_from (get_or c.prev i 0) → Earlier c.prev n place_of sibling
      unfolding cs
      earlier {sibling} es =
          let e : place_of ≡ length sibs.those
          = ap (place_under ns i) is_child ∙ ap (place_in i) (sym (reverse-reverse (node_at ns p.0).children)) ∙ sibs.place in
          let links : Chained c.prev (get_or c.prev i 0) = record { is = subst (Chain c.prev (get_or c.prev i 0)) (sym chain-those) sibs.lead } in
          record {
            siblings = siblings_from (get_or c.prev i 0) es links (λ x m. v.below p.0 x low (subst (Has x) (sym (v.kids p.0 low)) (sibs.among x (subst (Has x) chain-those m))));
            is = omega (arith, e, ap length (ap (chain c.prev) (link_read (get_or c.prev i 0) es) ∙ chain-those));
            few = omega (arith, e, sibs.few, short, v.few);
          }
