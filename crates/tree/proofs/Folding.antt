-- Two laws for elements of any kind, said once for points (Order.antt) and for numbers (crate `sorting`): an element put into its place by a total
-- order commutes with another, and a fold whose steps commute depends only on how often each element stands there. Assumes nothing.
use Rattle.std.proofs.Common.{◌≡◌, refl, sym, ap, ◌∙◌, Bool, true, false, List, [], ◌∷◌, ℕ, ◌+◌, ◌<◌, arith}
use Rattle.std.proofs.Math.Bool.{false≢true}
use mathlib.Core.List.{foldr}
use Rattle.tree.specs.Tree.{one}

-- ---- placing by a total order
pub record Total {A : Type 0} (ordered : A → A → Bool) : Type 0 where
  pub trans : (a b c : A) → ordered a b ≡ true → ordered b c ≡ true → ordered a c ≡ true
  pub either : (a b : A) → ordered a b ≡ false → ordered b a ≡ true
  pub anti : (a b : A) → ordered a b ≡ true → ordered b a ≡ true → a ≡ b

-- an element goes before the first that it may stand before
pub record Places {A : Type 0} (ordered : A → A → Bool) (place : A → List A → List A) : Type 0 where
  pub last : (a : A) → place a [] ≡ a ∷ []
  pub here : (a x : A) (l : List A) → ordered a x ≡ true → place a (x ∷ l) ≡ a ∷ x ∷ l
  pub on : (a x : A) (l : List A) → ordered a x ≡ false → place a (x ∷ l) ≡ x ∷ place a l

module _ {A : Type 0} {ordered : A → A → Bool} {place : A → List A → List A} (o : Total ordered) (p : Places ordered place) where
  not-both : {X : Type 0} (a b : A) → ordered a b ≡ false → ordered b a ≡ false → X
  not-both a b e f = absurd (false≢true (sym f ∙ o.either a b e))

  two : (a b : A) (t u : Bool) → ordered a b ≡ t → ordered b a ≡ u → place a (place b []) ≡ place b (place a [])
  two a b true true e f = let h = o.anti a b e f in λ i. place (h i) (place (sym h i) [])
  two a b true false e f = cc (p.last a, p.last b, p.here a b [] e, p.on b a [] f)
  two a b false true e f = cc (p.last a, p.last b, p.on a b [] e, p.here b a [] f)
  two a b false false e f = not-both a b e f

  module _ (a b x : A) (l : List A) where
    three : (t u v w : Bool) → ordered a x ≡ t → ordered b x ≡ u → ordered a b ≡ v → ordered b a ≡ w
        → place a (place b l) ≡ place b (place a l) → place a (place b (x ∷ l)) ≡ place b (place a (x ∷ l))
    three false false v w e f g h ih = cc (p.on a x l e, p.on b x l f, p.on a x (place b l) e, p.on b x (place a l) f, ih)
    three true false v true e f g h ih = absurd (false≢true (sym f ∙ o.trans b a x h e))
    three true false v false e f g h ih = cc (p.here a x l e, p.on b x l f, p.here a x (place b l) e, p.on b a (x ∷ l) h)
    three false true true w e f g h ih = absurd (false≢true (sym e ∙ o.trans a b x g f))
    three false true false w e f g h ih = cc (p.on a x l e, p.here b x l f, p.here b x (place a l) f, p.on a b (x ∷ l) g)
    three true true true true e f g h ih = let k = o.anti a b g h in λ i. place (k i) (place (sym k i) (x ∷ l))
    three true true true false e f g h ih = cc (p.here a x l e, p.here b x l f, p.here a b (x ∷ l) g, p.on b a (x ∷ l) h)
    three true true false true e f g h ih = cc (p.here a x l e, p.here b x l f, p.on a b (x ∷ l) g, p.here b a (x ∷ l) h)
    three true true false false e f g h ih = not-both a b g h

  pub places_comm : (a b : A) (l : List A) → place a (place b l) ≡ place b (place a l)
  places_comm a b [] = two a b (ordered a b) (ordered b a) refl refl
  places_comm a b (x ∷ l) = three a b x l (ordered a x) (ordered b x) (ordered a b) (ordered b a) refl refl refl refl (places_comm a b l)

-- ---- a fold whose steps commute
-- `times` counts an element by a test
pub record Counts {A : Type 0} (same : A → A → Bool) (times : A → List A → ℕ) : Type 0 where
  pub is : (a b : A) → same a b ≡ true → a ≡ b
  pub self : (a : A) → same a a ≡ true
  pub none : (a : A) → times a [] ≡ 0
  pub more : (a x : A) (l : List A) → times a (x ∷ l) ≡ one (same a x) + times a l

module _ {A B : Type 0} {same : A → A → Bool} {times : A → List A → ℕ} (n : Counts same times) (step : A → B → B) (z : B)
    (comm : (a b : A) (r : B) → step a (step b r) ≡ step b (step a r)) where
  abbrev Out : A → List A → Type 0
  Out a us = (r : List A) × (foldr step z us ≡ step a (foldr step z r)) × ((p : A) → times p (a ∷ r) ≡ times p us)

  -- one a taken out of us
  take_out : (a : A) (us : List A) → 0 < times a us → Out a us
  take_out a [] h = absurd (omega (arith, n.none a))
  take_out a (u ∷ us) h = by (same a u) refl (take_out a us)
    where
      by : (t : Bool) → same a u ≡ t → (0 < times a us → Out a us) → Out a (u ∷ us)
      by true e ih = let k = n.is a u e in (us, ap (λ (c : A). step c (foldr step z us)) (sym k), λ p. ap (λ (c : A). times p (c ∷ us)) k)
      by false e ih =
          let r = ih (omega (arith, n.more a u us, ap one e)) in
          (u ∷ r.0, ap (step u) r.1 ∙ comm u a _, λ p. omega (arith, r.2 p, n.more p a (u ∷ r.0), n.more p u r.0, n.more p a r.0, n.more p u us))

  pub fold_same : (ts us : List A) → ((p : A) → times p ts ≡ times p us) → foldr step z ts ≡ foldr step z us
  fold_same [] [] h = refl
  fold_same [] (u ∷ us) h = absurd (omega (arith, h u, n.none u, n.more u u us, ap one (n.self u)))
  fold_same (t ∷ ts) us h =
      let r = take_out t us (omega (arith, h t, n.more t t ts, ap one (n.self t))) in
      ap (step t) (fold_same ts r.0 (λ p. omega (arith, h p, r.2 p, n.more p t ts, n.more p t r.0))) ∙ sym r.1
