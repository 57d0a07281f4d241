-- How often a number stands in a list, after lists are put together and after a number is left out.
use Rattle.std.proofs.Common.{◌≡◌, refl, ap, ◌≢◌, Bool, true, false, cond, List, [], ◌∷◌, ◌++◌, ℕ, suc, ◌+◌, arith, length, eqb}
use borrow.Author.Tests.{eq-eqb, ne_eqb, eqb-true}
use Rattle.tree.specs.Tree.{one}
use Rattle.tree.specs.Tree.{without}
use Rattle.tree.specs.Shape.{count}

pub one-eq : (a b : ℕ) → a ≡ b → one (eqb a b) ≡ 1
one-eq a b e = ap one (eq-eqb a b e)

pub one-ne : (a b : ℕ) → a ≢ b → one (eqb a b) ≡ 0
one-ne a b e = ap one (ne_eqb a b e)

pub count-append : (c : ℕ) (xs ys : List ℕ) → count c (xs ++ ys) ≡ count c xs + count c ys
unfolding count
count-append c [] ys = omega arith
count-append c (x ∷ xs) ys = omega (arith, count-append c xs ys)

pub count_snoc : (c : ℕ) (xs : List ℕ) (x : ℕ) → count c (xs ++ (x ∷ [])) ≡ count c xs + one (eqb x c)
unfolding count
count_snoc c xs x = omega (arith, count-append c xs (x ∷ []))

-- what leaves a list is counted no more, and the rest as before
pub count-without : (c b : ℕ) (xs : List ℕ) → b ≢ c → count b (without c xs) ≡ count b xs
unfolding count without
count-without c b [] ne = refl
count-without c b (x ∷ xs) ne = by (eqb x c) refl (count-without c b xs ne)
  where
    by : (t : Bool) → eqb x c ≡ t → count b (without c xs) ≡ count b xs → count b (cond t (without c xs) (x ∷ without c xs)) ≡ one (eqb x b) + count b xs
    by true e ih = let f = eqb-true x c e in omega (arith, one-ne x b (omega arith))
    by false e ih = omega arith

pub count_gone : (c : ℕ) (xs : List ℕ) → count c (without c xs) ≡ 0
unfolding count without
count_gone c [] = refl
count_gone c (x ∷ xs) = by (eqb x c) refl (count_gone c xs)
  where
    by : (t : Bool) → eqb x c ≡ t → count c (without c xs) ≡ 0 → count c (cond t (without c xs) (x ∷ without c xs)) ≡ 0
    by true e ih = ih
    by false e ih = omega (arith, ap one e)

pub length_without : (c : ℕ) (xs : List ℕ) → length (without c xs) + count c xs ≡ length xs
unfolding without count
length_without c [] = refl
length_without c (x ∷ xs) = by (eqb x c) (length_without c xs)
  where
    by : (t : Bool) → length (without c xs) + count c xs ≡ length xs → length (cond t (without c xs) (x ∷ without c xs)) + (one t + count c xs) ≡ suc (length xs)
    by true ih = omega arith
    by false ih = omega arith
