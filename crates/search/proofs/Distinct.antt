-- Lists without repeats: a distinct list of numbers below n has at most n of them.
use Rattle.std.proofs.Common.{ℕ, zero, suc, ◌≤◌, ◌<◌, ◌≡◌, refl, ap, sym, ◌∙◌, subst, Bool, true, false, cond, List, [], ◌∷◌, ◌++◌, reverse, inl, inr, ⊎_elim, arith, length, eqb}
use Rattle.std.proofs.Math.Decide.{dec_le}
use mathlib.Core.List.{reverse-cons}
use borrow.Author.Tests.{ne_eqb, eqb-true, eqb-false}
use Rattle.tree.specs.Tree.{without}
use Rattle.search.specs.Columns.{Has, Away, Distinct}

pub away_of : (c : ℕ) (xs : List ℕ) → (Has c xs → ⊥) → Away c xs
unfolding Has Away
away_of c [] f = tt
away_of c (x ∷ xs) f = ((λ e. f (inl e)), away_of c xs (λ h. f (inr h)))

pub away_not : (c : ℕ) (xs : List ℕ) → Away c xs → Has c xs → ⊥
unfolding Has Away
away_not c [] a h = h
away_not c (x ∷ xs) a h = ⊎_elim (λ (e : x ≡ c). a.0 e) (λ (r : Has c xs). away_not c xs a.1 r) h

pub has_left : (c : ℕ) (a b : List ℕ) → Has c a → Has c (a ++ b)
unfolding Has
has_left c [] b h = absurd h
has_left c (x ∷ a) b h = ⊎_elim (λ (e : x ≡ c). inl e) (λ (r : Has c a). inr (has_left c a b r)) h

pub has_right : (c : ℕ) (a b : List ℕ) → Has c b → Has c (a ++ b)
unfolding Has
has_right c [] b h = h
has_right c (x ∷ a) b h = inr (has_right c a b h)

pub has_split : {X : Type 0} (c : ℕ) (a b : List ℕ) → (Has c a → X) → (Has c b → X) → Has c (a ++ b) → X
unfolding Has
has_split c [] b f g h = g h
has_split c (x ∷ a) b f g h = ⊎_elim (λ (e : x ≡ c). f (inl e)) (λ (r : Has c (a ++ b)). has_split c a b (λ z. f (inr z)) g r) h

-- the first goes to where b starts
pub has-reverse : (c : ℕ) (xs : List ℕ) → Has c (reverse xs) → Has c xs
unfolding Has
has-reverse c [] h = h
has-reverse c (x ∷ xs) h = has_split c (reverse xs) (x ∷ []) (λ z. inr (has-reverse c xs z)) (λ z. ⊎_elim (λ (e : x ≡ c). inl e) (λ (w : ⊥). absurd w) z) (subst (Has c) (reverse-cons x xs) h)

pub has_moved : (c x : ℕ) (a b : List ℕ) → Has c (a ++ x ∷ b) → Has c (x ∷ a ++ b)
unfolding Has
has_moved c x a b h = has_split c a (x ∷ b) (λ z. inr (has_left c a b z)) (λ z. ⊎_elim (λ (e : x ≡ c). inl e) (λ (r : Has c b). inr (has_right c a b r)) z) h

pub distinct_moved : (x : ℕ) (a b : List ℕ) → Distinct (x ∷ a ++ b) → Distinct (a ++ x ∷ b)
unfolding Distinct Away Has
distinct_moved x [] b d = d
distinct_moved x (y ∷ a) b d = (
  away_of y (a ++ x ∷ b)
      (λ h. has_split y a (x ∷ b) (λ z. away_not y (a ++ b) d.1.0 (has_left y a b z))
      (λ z. ⊎_elim (λ (e : x ≡ y). d.0.0 (sym e)) (λ (r : Has y b). away_not y (a ++ b) d.1.0 (has_right y a b r)) z) h),
  distinct_moved x a b (d.0.1, d.1.1),
)

pub distinct_append : (a b : List ℕ) → Distinct a → Distinct b → ((x : ℕ) → Has x a → Has x b → ⊥) → Distinct (a ++ b)
unfolding Distinct Has
distinct_append [] b d e f = e
distinct_append (x ∷ a) b d e f =
    (away_of x (a ++ b) (λ h. has_split x a b (λ z. away_not x a d.0 z) (λ z. f x (inl refl) z) h), distinct_append a b d.1 e (λ y z w. f y (inr z) w))

-- ---- the count
pub has-without : {X : Type 0} (c x : ℕ) (xs : List ℕ) → (Has x xs → (x ≡ c → ⊥) → X) → Has x (without c xs) → X
unfolding Has without
has-without c x [] f h = absurd h
has-without {X = X} c x (y ∷ ys) f h = by (eqb y c) refl h (has-without c x ys (λ z n. f (inr z) n))
  where
    by : (t : Bool) → eqb y c ≡ t → Has x (cond t (without c ys) (y ∷ without c ys)) → (Has x (without c ys) → X) → X
    by true e k r = r k
    by false e k r = ⊎_elim (λ (z : y ≡ x). f (inl z) (λ w. eqb-false y c e (z ∙ w))) r k

pub distinct_without : (c : ℕ) (xs : List ℕ) → Distinct xs → Distinct (without c xs)
unfolding Distinct without
distinct_without c [] d = tt
distinct_without c (y ∷ ys) d = by (eqb y c) (distinct_without c ys d.1)
  where
    by : (t : Bool) → Distinct (without c ys) → Distinct (cond t (without c ys) (y ∷ without c ys))
    by true r = r
    by false r = (away_of y (without c ys) (λ h. has-without c y ys (λ z n. away_not y ys d.0 z) h), r)

pub same-without : (c : ℕ) (xs : List ℕ) → Away c xs → without c xs ≡ xs
unfolding without Away
same-without c [] a = refl
same-without c (x ∷ xs) a = rw (ne_eqb x c a.0) (ap (λ (l : List ℕ). x ∷ l) (same-without c xs a.1))

length_without : (c : ℕ) (xs : List ℕ) → Distinct xs → length xs ≤ suc (length (without c xs))
unfolding Distinct without
length_without c [] d = omega arith
length_without c (y ∷ ys) d = by (eqb y c) refl (length_without c ys d.1)
  where
    by : (t : Bool) → eqb y c ≡ t → length ys ≤ suc (length (without c ys)) → suc (length ys) ≤ suc (length (cond t (without c ys) (y ∷ without c ys)))
    by true e r = omega (arith, ap length (same-without c ys (subst (λ (m : ℕ). Away m ys) (eqb-true y c e) d.0)))
    by false e r = omega arith

pub pigeon : (n : ℕ) (xs : List ℕ) → Distinct xs → ((x : ℕ) → Has x xs → x < n) → length xs ≤ n
unfolding Has
pigeon zero [] d f = omega arith
pigeon zero (x ∷ xs) d f = absurd (omega (arith, f x (inl refl)))
pigeon (suc n) xs d f =
    omega (arith, length_without n xs d, pigeon n (without n xs) (distinct_without n xs d) (λ x h. has-without n x xs (λ z m. less x (f x z) m) h))
  where
    less : (x : ℕ) → x < suc n → (x ≡ n → ⊥) → x < n
    less x h m = by (dec_le (suc x) n)
      where
        by : Dec (suc x ≤ n) → x < n
        by (yes k) = omega arith
        by (no k) = absurd (m (omega arith))
