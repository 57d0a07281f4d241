-- What appending a child and taking one out do to a chain of links. The idea: a store outside a chain keeps it.
use Rattle.std.proofs.Common.{ℕ, ◌<◌, ◌≡◌, refl, sym, ◌∙◌, subst, Bool, true, false, cond, List, [], ◌∷◌, inl, inr, ⊎_elim, arith, length, get_or, set, length-set, eqb, get_or-set_same, get_or-set_other}
use borrow.Author.Tests.{eq-eqb, ne_eqb, eqb-true, eqb-false}
use Rattle.tree.specs.Tree.{without}
use Rattle.search.specs.Columns.{Chain, Has, Away, Distinct}
use Rattle.search.proofs.Distinct.{same-without, away_not}
use Rattle.joining.specs.Links.{before_of}

-- a store outside a chain keeps it
pub chain-keep : (prev : List ℕ) (at v l : ℕ) (cs : List ℕ) → Away at cs → Chain prev l cs → Chain (set prev at v) l cs
unfolding Chain Away
chain-keep prev at v l [] a h = h
chain-keep prev at v l (c ∷ cs) a h = (
  h.0,
  (
    omega (arith, h.1.0, length-set prev at v),
    subst (λ (m : ℕ). Chain (set prev at v) m cs) (sym (get_or-set_other prev at l v 0 (λ e. a.0 (sym h.0 ∙ e)))) (chain-keep prev at v (get_or prev l 0) cs a.1 h.1.1),
  ),
)

-- c goes before a chain that it is not on
pub chain-attach : (prev : List ℕ) (l c : ℕ) (cs : List ℕ) → c < length prev → Away c cs → Chain prev l cs → Chain (set prev c l) c (c ∷ cs)
unfolding Chain
chain-attach prev l c cs h a v =
    (refl, (omega (arith, length-set prev c l), subst (λ (m : ℕ). Chain (set prev c l) m cs) (sym (get_or-set_same prev c l 0 h)) (chain-keep prev c l l cs a v)))

-- the first of a chain leaves
pub chain_first : (prev : List ℕ) (c : ℕ) (cs : List ℕ) → Distinct cs → Has c cs → Chain prev c cs → Chain prev (get_or prev c 0) (without c cs)
unfolding Chain Distinct Has without
chain_first prev c [] d h v = absurd h
chain_first prev c (x ∷ xs) d h v =
    let e : x ≡ c = sym v.0 in
    rw (eq-eqb x c e)
    (subst (λ (l : List ℕ). Chain prev (get_or prev c 0) l) (sym (same-without c xs (subst (λ (y : ℕ). Away y xs) e d.0))) v.1.1)

before-has : (e : ℕ) (r : List ℕ) (c : ℕ) → Has (before_of (e ∷ r) c) (e ∷ r)
unfolding Has before_of
before-has e [] c = inl refl
before-has e (f ∷ r) c = by (eqb f c) (before-has f r c)
  where
    by : (t : Bool) → Has (before_of (f ∷ r) c) (f ∷ r) → Has (cond t e (before_of (f ∷ r) c)) (e ∷ f ∷ r)
    by true h = inl refl
    by false h = inr h

pub before_in : (c : ℕ) (l : List ℕ) → Has c l → Has (before_of l c) l
unfolding Has
before_in c [] h = absurd h
before_in c (x ∷ l) h = before-has x l c

pub tail_has : (c x : ℕ) (xs : List ℕ) → (x ≡ c → ⊥) → Has c (x ∷ xs) → Has c xs
unfolding Has
tail_has c x xs f h = ⊎_elim (λ (z : x ≡ c). absurd (f z)) (λ (z : Has c xs). z) h

-- one that is not the first leaves: the second, or one further on
module _ (prev : List ℕ) (l c x y : ℕ) (r : List ℕ) (d : Distinct (x ∷ y ∷ r)) (v : Chain prev l (x ∷ y ∷ r)) where
  second : y ≡ c → Chain (set prev x (get_or prev c 0)) l (x ∷ without c r)
  unfolding Chain Distinct Away
  second e =
      let w = get_or prev c 0 in
      let on : Chain prev w r = subst (λ (m : ℕ). Chain prev (get_or prev m 0) r) (v.1.1.0 ∙ e) v.1.1.1.1 in
      let off : without c r ≡ r = same-without c r (subst (λ (m : ℕ). Away m r) e d.1.0) in
      let at : get_or (set prev x w) l 0 ≡ w = rw v.0 (get_or-set_same prev x w 0 (subst (λ (m : ℕ). m < length prev) v.0 v.1.0)) in (
        v.0,
        (
          omega (arith, v.1.0, length-set prev x w),
          subst (λ (m : ℕ). Chain (set prev x w) m (without c r)) (sym at)
              (subst (λ (k : List ℕ). Chain (set prev x w) w k) (sym off) (chain-keep prev x w w r d.0.1 on)),
        ),
      )

  further : (k : List ℕ) → Chain (set prev (before_of (y ∷ r) c) (get_or prev c 0)) (get_or prev l 0) k → Chain (set prev (before_of (y ∷ r) c) (get_or prev c 0)) l (x ∷ k)
  unfolding Chain Distinct
  further k h =
      let w = get_or prev c 0 in
      let b = before_of (y ∷ r) c in
      let at : get_or (set prev b w) l 0 ≡ get_or prev l 0 = get_or-set_other prev b l w 0 (λ e. away_not b (y ∷ r) (subst (λ (z : ℕ). Away z (y ∷ r)) (sym v.0 ∙ e) d.0) (before-has y r c)) in
      (v.0, (omega (arith, v.1.0, length-set prev b w), subst (λ (m : ℕ). Chain (set prev b w) m k) (sym at) h))

  either_way : (t : Bool) → eqb y c ≡ t
      → ((y ≡ c → ⊥) → Chain (set prev (before_of (y ∷ r) c) (get_or prev c 0)) (get_or prev l 0) (without c (y ∷ r)))
      → Chain (set prev (cond t x (before_of (y ∷ r) c)) (get_or prev c 0)) l (x ∷ cond t (without c r) (y ∷ without c r))
  unfolding without
  either_way true e ih = second (eqb-true y c e)
  either_way false e ih = further (y ∷ without c r) (rw e at (ih (eqb-false y c e)))

pub chain_middle : (prev : List ℕ) (l c : ℕ) (cs : List ℕ) → Distinct cs → Has c cs → (l ≡ c → ⊥) → Chain prev l cs → Chain (set prev (before_of cs c) (get_or prev c 0)) l (without c cs)
unfolding Chain Distinct Has without before_of
chain_middle prev l c [] d h f v = absurd h
chain_middle prev l c (x ∷ []) d h f v = ⊎_elim (λ (z : x ≡ c). absurd (f (v.0 ∙ z))) (λ (z : ⊥). absurd z) h
chain_middle prev l c (x ∷ y ∷ r) d h f v =
    let nx : x ≡ c → ⊥ = λ e. f (v.0 ∙ e) in
    rw (ne_eqb x c nx)
    (either_way prev l c x y r d v (eqb y c) refl
    (λ ny. chain_middle prev (get_or prev l 0) c (y ∷ r) d.1 (tail_has c x (y ∷ r) nx h) (λ e. ny (sym v.1.1.0 ∙ e)) v.1.1))
