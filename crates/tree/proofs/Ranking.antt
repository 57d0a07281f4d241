-- A rank below the number of nodes, from any numbers that fall from child to parent: how many nodes have a lower one.
use Rattle.std.proofs.Common.{◌≡◌, refl, ap, ℕ, zero, suc, ◌+◌, ◌≤◌, ◌<◌, arith, ltb}
use Rattle.std.proofs.Math.Decide.{dec_lt}
use borrow.Author.Tests.{lt-ltb, le-ltb}
use Rattle.tree.specs.Tree.{one, sum_to}

-- ---- sums
sum-no_more : (n : ℕ) (f g : ℕ → ℕ) → ((j : ℕ) → f j ≤ g j) → sum_to n f ≤ sum_to n g
unfolding sum_to
sum-no_more zero f g h = omega arith
sum-no_more (suc n) f g h = omega (arith, sum-no_more n f g h, h n)

sum_less : (n i : ℕ) (f g : ℕ → ℕ) → ((j : ℕ) → f j ≤ g j) → i < n → f i < g i → sum_to n f < sum_to n g
unfolding sum_to
sum_less zero i f g h l s = absurd (omega arith)
sum_less (suc n) i f g h l s = by (dec_lt i n) (sum_less n i f g h)
  where
    by : Dec (i < n) → (i < n → f i < g i → sum_to n f < sum_to n g) → sum_to n f + f n < sum_to n g + g n
    by (yes k) ih = omega (arith, ih k s, h n)
    by (no k) ih = let z : i ≡ n = omega arith in omega (arith, sum-no_more n f g h, ap f z, ap g z)

sum_ones : (n : ℕ) → sum_to n (λ j. 1) ≡ n
unfolding sum_to
sum_ones zero = refl
sum_ones (suc n) = omega (arith, sum_ones n)

-- ---- how many of the first n have a lower number than i
module _ (n : ℕ) (r : ℕ → ℕ) where
  lower_than : ℕ → ℕ → ℕ
  lower_than i j = one (ltb (r j) (r i))

  data Lower (i j : ℕ) : Type 0 where
    is : r j < r i → lower_than i j ≡ 1 → Lower i j
    not : r i ≤ r j → lower_than i j ≡ 0 → Lower i j

  lower : (i j : ℕ) → Lower i j
  unfolding lower_than
  lower i j = by (dec_lt (r j) (r i))
    where
      by : Dec (r j < r i) → Lower i j
      by (yes h) = is h (ap one (lt-ltb (r j) (r i) h))
      by (no h) = not (omega arith) (ap one (le-ltb (r j) (r i) (omega arith)))

  pub standing : ℕ → ℕ
  standing i = sum_to n (lower_than i)

  own : (i : ℕ) → lower_than i i ≡ 0
  own i = by (lower i i)
    where
      by : Lower i i → lower_than i i ≡ 0
      by (is h e) = absurd (omega arith)
      by (not h e) = e

  most : (i j : ℕ) → lower_than i j ≤ 1
  most i j = by (lower i j)
    where
      by : Lower i j → lower_than i j ≤ 1
      by (is h e) = omega arith
      by (not h e) = omega arith

  pub standing_small : (i : ℕ) → i < n → standing i < n
  unfolding standing
  standing_small i h = omega (arith, sum_less n i (lower_than i) (λ j. 1) (most i) h (omega (arith, own i)), sum_ones n)

  pub standing_falls : (a b : ℕ) → a < n → r a < r b → standing a < standing b
  unfolding standing
  standing_falls a b h l = sum_less n a (lower_than a) (lower_than b) more h (by (lower b a))
    where
      more : (j : ℕ) → lower_than a j ≤ lower_than b j
      more j = by (lower a j) (lower b j)
        where
          by : Lower a j → Lower b j → lower_than a j ≤ lower_than b j
          by (is x e) (is y f) = omega arith
          by (is x e) (not y f) = absurd (omega arith)
          by (not x e) v = omega arith

      by : Lower b a → lower_than a a < lower_than b a
      by (is x e) = omega (arith, own a)
      by (not x e) = absurd (omega arith)
