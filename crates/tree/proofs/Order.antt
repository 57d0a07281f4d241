-- The order of terminals: `ordered s` is a total order of points, so `place` commutes; and a fold whose steps commute depends on how often each point stands there (Folding.antt).
use Rattle.std.proofs.Common.{◌≡◌, refl, sym, ap, ◌∙◌, ◌⊎◌, inl, inr, ⊎_elim, Bool, true, false, cond, List, [], ◌∷◌, ℕ, suc, ◌+◌, ◌≤◌, ◌<◌, max, arith, ltb, ℤ}
use lib.Signed.{le_z, lt_z, mag}
use mathlib.Core.List.{foldr}
use borrow.Author.Tests.{ltb-true, eqb-true, lt-ltb, eq-eqb}
use Rattle.geometry.specs.declared.Point.{Point}
use Rattle.geometry.specs.Geometry.{dist, same, eq_z}
use Rattle.tree.specs.Tree.{one}
use Rattle.tree.specs.Route.{ordered, place, times, SameTerminals, sort, farthest, directs}
use Rattle.tree.proofs.Deciding.{Tri, less, equal, more, tri, never, or_split, and_split, and-join, or_left, or_right}
use Rattle.tree.proofs.Folding.{Total, Places, places_comm, Counts, fold_same}
use Rattle.geometry.specs.Intervals.{le-back}
use Rattle.geometry.specs.Signed.{le_refl, eq_z-eq, bias, In, lt_yes, lt_no, le_yes, bias_inj}

-- ---- three numbers, the first that differs decides
pub data Lex (a b c d e f : ℕ) : Type 0 where
  first : a < d → Lex a b c d e f
  second : a ≡ d → b < e → Lex a b c d e f
  third : a ≡ d → b ≡ e → c ≤ f → Lex a b c d e f

lex_trans : {a b c d e f g h i : ℕ} → Lex a b c d e f → Lex d e f g h i → Lex a b c g h i
lex_trans (first p) (first q) = first (omega arith)
lex_trans (first p) (second q r) = first (omega arith)
lex_trans (first p) (third q r s) = first (omega arith)
lex_trans (second p q) (first r) = first (omega arith)
lex_trans (second p q) (second r s) = second (omega arith) (omega arith)
lex_trans (second p q) (third r s t) = second (omega arith) (omega arith)
lex_trans (third p q r) (first s) = first (omega arith)
lex_trans (third p q r) (second s t) = second (omega arith) (omega arith)
lex_trans (third p q r) (third s t u) = third (omega arith) (omega arith) (omega arith)

pub record Equal3 (a b c d e f : ℕ) : Type 0 where
  pub one : a ≡ d
  pub two : b ≡ e
  pub three : c ≡ f

lex_anti : {a b c d e f : ℕ} → Lex a b c d e f → Lex d e f a b c → Equal3 a b c d e f
lex_anti (first p) (first q) = absurd (omega arith)
lex_anti (first p) (second q r) = absurd (omega arith)
lex_anti (first p) (third q r s) = absurd (omega arith)
lex_anti (second p q) (first r) = absurd (omega arith)
lex_anti (second p q) (second r s) = absurd (omega arith)
lex_anti (second p q) (third r s t) = absurd (omega arith)
lex_anti (third p q r) (first s) = absurd (omega arith)
lex_anti (third p q r) (second s t) = absurd (omega arith)
lex_anti (third p q r) (third s t u) = record { one = p; two = q; three = omega arith }

lex_total : (a b c d e f : ℕ) → Lex a b c d e f ⊎ Lex d e f a b c
lex_total a b c d e f = by (tri a d) (tri b e) (tri c f)
  where
    by : Tri a d → Tri b e → Tri c f → Lex a b c d e f ⊎ Lex d e f a b c
    by (less h) y z = inl (first h)
    by (more h) y z = inr (first h)
    by (equal h) (less i) z = inl (second h i)
    by (equal h) (more i) z = inr (second (sym h) i)
    by (equal h) (equal i) (less j) = inl (third h i (omega arith))
    by (equal h) (equal i) (equal j) = inl (third h i (omega arith))
    by (equal h) (equal i) (more j) = inr (third (sym h) (sym i) (omega arith))

-- ---- the order of points, in numbers biased by K
module _ (s : Point) (K : ℕ) where
  abbrev LexP : Point → Point → Type 0
  LexP p q = Lex (dist s p) (bias K p.xcoord) (bias K p.ycoord) (dist s q) (bias K q.xcoord) (bias K q.ycoord)

  abbrev InPoint : Point → Type 0
  InPoint p = In K p.xcoord × In K p.ycoord

  eq_z-bias : (a b : ℤ) → In K a → In K b → eq_z a b ≡ true → bias K a ≡ bias K b
  eq_z-bias a b f g e = let h = and_split (le_z a b) (le_z b a) e in omega (arith, le_yes a b f g h.0, le_yes b a g f h.1)

  lt_test : (a b : ℤ) → In K a → In K b → bias K a < bias K b → lt_z a b ≡ true
  lt_test a b f g h = by (lt_z a b) refl
    where
      by : (t : Bool) → lt_z a b ≡ t → t ≡ true
      by true e = refl
      by false e = absurd (omega (arith, lt_no a b f g e))

  ordered_lex : (p q : Point) → InPoint p → InPoint q → ordered s p q ≡ true → LexP p q
  unfolding ordered
  ordered_lex p q f g e =
      ⊎_elim (λ h. first (ltb-true _ _ h))
      (λ h. let k = and_split _ _ h in
      ⊎_elim (λ l. second (eqb-true _ _ k.0) (lt_yes _ _ f.0 g.0 l))
      (λ l. let m = and_split _ _ l in third (eqb-true _ _ k.0) (eq_z-bias _ _ f.0 g.0 m.0) (le_yes _ _ f.1 g.1 m.1))
      (or_split _ _ k.1))
      (or_split _ _ e)

  lex_ordered : (p q : Point) → InPoint p → InPoint q → LexP p q → ordered s p q ≡ true
  unfolding ordered
  lex_ordered p q f g (first h) = or_left _ _ (lt-ltb _ _ h)
  lex_ordered p q f g (second h i) =
      or_right (ltb (dist s p) (dist s q)) _ (and-join _ _ (eq-eqb _ _ h) (or_left _ _ (lt_test _ _ f.0 g.0 i)))
  lex_ordered p q f g (third h i j) =
      or_right (ltb (dist s p) (dist s q)) _ (and-join _ _ (eq-eqb _ _ h) (or_right (lt_z p.xcoord q.xcoord) _
      (and-join _ _ (and-join _ _ (le-back _ _ f.0 g.0 (omega arith)) (le-back _ _ g.0 f.0 (omega arith))) (le-back _ _ f.1 g.1 j))))

-- ---- with a bias above the numbers of three points
module _ (s p q r : Point) where
  abbrev K : ℕ
  K = suc (mag p.xcoord + mag p.ycoord + mag q.xcoord + mag q.ycoord + mag r.xcoord + mag r.ycoord)

  in_p : InPoint s K p
  in_p = (record { below = omega arith }, record { below = omega arith })

  in_q : InPoint s K q
  in_q = (record { below = omega arith }, record { below = omega arith })

  in_r : InPoint s K r
  in_r = (record { below = omega arith }, record { below = omega arith })

  pub ordered_trans : ordered s p q ≡ true → ordered s q r ≡ true → ordered s p r ≡ true
  ordered_trans e f = lex_ordered s K p r in_p in_r (lex_trans (ordered_lex s K p q in_p in_q e) (ordered_lex s K q r in_q in_r f))

module _ (s p q : Point) where
  pub ordered-total : ordered s p q ≡ false → ordered s q p ≡ true
  ordered-total e =
      ⊎_elim (λ h. never (sym (lex_ordered s (K s p q q) p q (in_p s p q q) (in_q s p q q) h) ∙ e)) (λ h. lex_ordered s (K s p q q) q p (in_q s p q q) (in_p s p q q) h)
      (lex_total (dist s p) (bias (K s p q q) p.xcoord) (bias (K s p q q) p.ycoord) (dist s q) (bias (K s p q q) q.xcoord) (bias (K s p q q) q.ycoord))

  pub ordered_anti : ordered s p q ≡ true → ordered s q p ≡ true → p ≡ q
  ordered_anti e f =
      let l = lex_anti (ordered_lex s (K s p q q) p q (in_p s p q q) (in_q s p q q) e) (ordered_lex s (K s p q q) q p (in_q s p q q) (in_p s p q q) f) in
      λ i. record {
        xcoord = bias_inj _ _ (in_p s p q q).0 (in_q s p q q).0 l.two i;
        ycoord = bias_inj _ _ (in_p s p q q).1 (in_q s p q q).1 l.three i;
      }

-- ---- placing commutes
module _ (s : Point) where
  in_order : Total (ordered s)
  in_order = record { trans = ordered_trans s; either = ordered-total s; anti = ordered_anti s }

  placing : Places (ordered s) (place s)
  unfolding place
  placing =
      record {
        last = λ p. refl;
        here = λ p q l e. ap (λ (t : Bool). cond t (p ∷ q ∷ l) (q ∷ place s p l)) e;
        on = λ p q l e. ap (λ (t : Bool). cond t (p ∷ q ∷ l) (q ∷ place s p l)) e;
      }

  pub place_comm : (a b : Point) (l : List Point) → place s a (place s b l) ≡ place s b (place s a l)
  place_comm = places_comm in_order placing

-- ---- the test that two points are the same
pub same-eq : (p q : Point) → same p q ≡ true → p ≡ q
unfolding same
same-eq p q e =
    let h = and_split (eq_z p.xcoord q.xcoord) (eq_z p.ycoord q.ycoord) e in
    λ i. record { xcoord = eq_z-eq p.xcoord q.xcoord h.0 i; ycoord = eq_z-eq p.ycoord q.ycoord h.1 i }

pub same_refl : (p : Point) → same p p ≡ true
unfolding same
same_refl p =
    and-join _ _ (and-join _ _ (le_refl p.xcoord) (le_refl p.xcoord)) (and-join _ _ (le_refl p.ycoord) (le_refl p.ycoord))

-- ---- a fold whose steps commute
counting : Counts same times
unfolding times
counting = record { is = same-eq; self = same_refl; none = λ p. refl; more = λ p q l. refl }

pub same_fold : {B : Type 0} (step : Point → B → B) (z : B) → ((a b : Point) (r : B) → step a (step b r) ≡ step b (step a r))
    → (ts us : List Point) → SameTerminals ts us → foldr step z ts ≡ foldr step z us
same_fold = fold_same counting

pub sort-same : (s : Point) (ts us : List Point) → SameTerminals ts us → sort s ts ≡ sort s us
sort-same s ts us h = same_fold (place s) [] (place_comm s) ts us h

pub farthest-same : (s : Point) (ts us : List Point) → SameTerminals ts us → farthest s ts ≡ farthest s us
farthest-same s ts us h = same_fold (λ p w. max (dist s p) w) 0 (λ a b r. omega arith) ts us h

-- ---- what sorting keeps
module _ (s : Point) where
  times-place : (p a : Point) (l : List Point) → times p (place s a l) ≡ one (same p a) + times p l
  unfolding times place
  times-place p a [] = refl
  times-place p a (x ∷ l) = by (ordered s a x) refl (times-place p a l)
    where
      by : (t : Bool) → ordered s a x ≡ t → times p (place s a l) ≡ one (same p a) + times p l
          → times p (cond t (a ∷ x ∷ l) (x ∷ place s a l)) ≡ one (same p a) + (one (same p x) + times p l)
      by true e ih = refl
      by false e ih = omega arith

  -- the sorted terminals are the terminals, each as often
  pub times-sort : (ts : List Point) → SameTerminals (sort s ts) ts
  unfolding times
  times-sort [] p = refl
  times-sort (t ∷ ts) p = omega (arith, times-place p t (sort s ts), times-sort ts p)

  pub farthest-sort : (ts : List Point) → farthest s (sort s ts) ≡ farthest s ts
  farthest-sort ts = farthest-same s (sort s ts) ts (times-sort ts)

  pub directs-sort : (ts : List Point) → directs s (sort s ts) ≡ directs s ts
  directs-sort ts = same_fold (λ p w. dist s p + w) 0 (λ a b r. omega arith) (sort s ts) ts (times-sort ts)

  -- in order
  pub data Sorted : List Point → Type 0 where
    sorted_nil : Sorted []
    sorted_one : {p : Point} → Sorted (p ∷ [])
    sorted_more : {p q : Point} {l : List Point} → ordered s p q ≡ true → Sorted (q ∷ l) → Sorted (p ∷ q ∷ l)

  placed : (a : Point) {l : List Point} → Sorted l → Sorted (place s a l)
  unfolding place
  placed a sorted_nil = sorted_one
  placed a (sorted_one {p = x}) = by (ordered s a x) refl
    where
      by : (t : Bool) → ordered s a x ≡ t → Sorted (cond t (a ∷ x ∷ []) (x ∷ a ∷ []))
      by true e = sorted_more e sorted_one
      by false e = sorted_more (ordered-total s a x e) sorted_one
  placed a (sorted_more {p = x} {q = y} {l = l} h r) = by (ordered s a x) (ordered s a y) refl refl (placed a r)
    where
      by : (t u : Bool) → ordered s a x ≡ t → ordered s a y ≡ u → Sorted (cond u (a ∷ y ∷ l) (y ∷ place s a l)) → Sorted (cond t (a ∷ x ∷ y ∷ l) (x ∷ cond u (a ∷ y ∷ l) (y ∷ place s a l)))
      by true u e f ih = sorted_more e (sorted_more h r)
      by false true e f ih = sorted_more (ordered-total s a x e) ih
      by false false e f ih = sorted_more h ih

  pub sort_sorted : (ts : List Point) → Sorted (sort s ts)
  sort_sorted [] = sorted_nil
  sort_sorted (t ∷ ts) = placed t (sort_sorted ts)
