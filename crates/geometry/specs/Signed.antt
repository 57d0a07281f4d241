-- The signed law library: ℤ as naturals that `omega` reads. A number z with -K ≤ z < K stands for the natural z + K, its bias;
-- order, distance, least and greatest commute with that. The end is for code: a signed local of 32 bits is read back from its bits.
use Rattle.std.proofs.Common.{sym, subst, ◌∙◌, arith, ltb-true, ltb-false, leb-true, leb-false, le-leb, lt-ltb, le-ltb, eqb-true}
use Rattle.std.proofs.Math.IntN.{sub_ℕ}
use Rattle.std.proofs.Math.Path.{ap}
use Rattle.std.specs.Prelude.{◌≡◌, refl, Bool, true, false, ◌&&◌, cond, T, leb, ltb, eqb, ℤ, pos, negsuc, nat_abs, ◌≤ℤ◌, ℕ, zero, suc, ◌+◌, ◌-◌, ◌≤◌, ◌<◌, min, max}
use Rattle.std.proofs.lemmas.Bool.{eqb-false}
use Rattle.std.specs.Int.Signed.{le_z, lt_z, mag}
use Rattle.std.proofs.lemmas.Bool.Decides.{Decides-int_eq, same_from_decides}
use Rattle.std.specs.Bool.{Decides}
use Rattle.std.specs.Cmp.{first_so, second_so}
use Rattle.std.specs.Ordering.{int_eq}
use Rattle.std.specs.Int.{w32}
use mir.Val.{SFits, to_z, of_z, sel}
use Rattle.std.proofs.lemmas.Int.{to_z-of_z}
use Rattle.geometry.specs.declared.Point.{Point}
use Rattle.geometry.specs.declared.Interval.{Interval}
use Rattle.geometry.specs.Geometry.{gap, min_z, max_z, clip, eq_z, same}

-- ---- Booleans
pub is_true : (b : Bool) → T b → b ≡ true
is_true true t = refl
is_true false t = absurd t

pub no_way : {X : Type 0} → false ≡ true → X
no_way e = absurd (subst T (sym e) tt)

-- ---- the bias
unfoldable pub bias : ℕ → ℤ → ℕ
bias K (pos n) = n + K
bias K (negsuc n) = K - suc n

-- -K ≤ z < K
pub record In (K : ℕ) (z : ℤ) : Type 0 where
  pub below : mag z < K

-- a bound above three numbers
module _ (a b c : ℤ) where
  abbrev pub bound : ℕ
  bound = suc (mag a + mag b + mag c)

  pub in_a : In bound a
  in_a = record { below = omega arith }

  pub in_b : In bound b
  in_b = record { below = omega arith }

  pub in_c : In bound c
  in_c = record { below = omega arith }

-- a test of order, each way
pub lt_yes : {K : ℕ} (x y : ℤ) → In K x → In K y → lt_z x y ≡ true → bias K x < bias K y
unfolding bias
lt_yes (pos a) (pos b) f g e = omega (arith, ltb-true a b e)
lt_yes (pos a) (negsuc b) f g e = no_way e
lt_yes (negsuc a) (pos b) f g e = omega arith
lt_yes (negsuc a) (negsuc b) f g e = omega (arith, ltb-true b a e)

pub lt_no : {K : ℕ} (x y : ℤ) → In K x → In K y → lt_z x y ≡ false → bias K y ≤ bias K x
unfolding bias
lt_no (pos a) (pos b) f g e = omega (arith, ltb-false a b e)
lt_no (pos a) (negsuc b) f g e = omega arith
lt_no (negsuc a) (pos b) f g e = no_way (sym e)
lt_no (negsuc a) (negsuc b) f g e = omega (arith, ltb-false b a e)

pub le_yes : {K : ℕ} (x y : ℤ) → In K x → In K y → le_z x y ≡ true → bias K x ≤ bias K y
unfolding bias
le_yes (pos a) (pos b) f g e = omega (arith, leb-true a b e)
le_yes (pos a) (negsuc b) f g e = no_way e
le_yes (negsuc a) (pos b) f g e = omega arith
le_yes (negsuc a) (negsuc b) f g e = omega (arith, leb-true b a e)

pub le_no : {K : ℕ} (x y : ℤ) → In K x → In K y → le_z x y ≡ false → bias K y < bias K x
unfolding bias
le_no (pos a) (pos b) f g e = omega (arith, leb-false a b e)
le_no (pos a) (negsuc b) f g e = omega arith
le_no (negsuc a) (pos b) f g e = no_way (sym e)
le_no (negsuc a) (negsuc b) f g e = omega (arith, leb-false b a e)

-- the order itself, each way
pub le_out : {K : ℕ} (x y : ℤ) → In K x → In K y → x ≤ℤ y → bias K x ≤ bias K y
le_out x y f g h = le_yes x y f g (is_true (le_z x y) h.le)

pub le_in : {K : ℕ} (x y : ℤ) → In K x → In K y → bias K x ≤ bias K y → x ≤ℤ y
le_in {K} x y f g h = record { le = by (le_z x y) refl }
  where
    by : (b : Bool) → le_z x y ≡ b → T b
    by true e = tt
    by false e = absurd (omega (arith, le_no x y f g e))

pub bias_inj : {K : ℕ} (x y : ℤ) → In K x → In K y → bias K x ≡ bias K y → x ≡ y
unfolding bias
bias_inj (pos a) (pos b) f g e = ap pos (omega arith)
bias_inj (pos a) (negsuc b) f g e = absurd (omega arith)
bias_inj (negsuc a) (pos b) f g e = absurd (omega arith)
bias_inj (negsuc a) (negsuc b) f g e = ap negsuc (omega (arith, f.below, g.below))

-- ---- distance
abs-sub : (a b : ℕ) → nat_abs (sub_ℕ a b) ≡ (a - b) + (b - a)
abs-sub a b = by (ltb a b) refl
  where
    by : (t : Bool) → ltb a b ≡ t → nat_abs (cond t (negsuc (b - suc a)) (pos (a - b))) ≡ (a - b) + (b - a)
    by true e = omega (arith, ltb-true a b e)
    by false e = omega (arith, ltb-false a b e)

pub gap-bias : {K : ℕ} (x y : ℤ) → In K x → In K y → gap x y ≡ (bias K x - bias K y) + (bias K y - bias K x)
unfolding bias gap
gap-bias (pos a) (pos zero) f g = omega arith
gap-bias (pos a) (pos (suc b)) f g = omega (arith, abs-sub a (suc b))
gap-bias (pos a) (negsuc b) f g = omega (arith, f.below, g.below)
gap-bias (negsuc a) (pos zero) f g = omega (arith, abs-sub 0 (suc a))
gap-bias (negsuc a) (pos (suc b)) f g = omega (arith, f.below, g.below)
gap-bias (negsuc a) (negsuc b) f g = omega (arith, abs-sub (suc b) (suc a), f.below, g.below)

-- ---- least, greatest, clipped
by_test : (P : ℤ → Type 0) (a b : ℤ) (t : Bool) → (t ≡ true → P a) → (t ≡ false → P b) → P (cond t a b)
by_test P a b true y n = y refl
by_test P a b false y n = n refl

-- they are those of the order, whichever is given at equal numbers
flip : (m n : ℕ) (x y : ℤ) → cond (ltb n m) y x ≡ cond (leb m n) x y
flip m n x y = by (leb m n) refl
  where
    by : (t : Bool) → leb m n ≡ t → cond (ltb n m) y x ≡ cond t x y
    by true e = ap (λ (t : Bool). cond t y x) (le-ltb n m (leb-true m n e))
    by false e = ap (λ (t : Bool). cond t y x) (lt-ltb n m (leb-false m n e))

pub min_z-is : (a b : ℤ) → min_z a b ≡ cond (le_z a b) a b
unfolding min_z
min_z-is (pos m) (pos n) = flip m n (pos m) (pos n)
min_z-is (pos m) (negsuc n) = refl
min_z-is (negsuc m) (pos n) = refl
min_z-is (negsuc m) (negsuc n) = flip n m (negsuc m) (negsuc n)

pub max_z-is : (a b : ℤ) → max_z a b ≡ cond (le_z a b) b a
unfolding max_z
max_z-is (pos m) (pos n) = flip m n (pos n) (pos m)
max_z-is (pos m) (negsuc n) = refl
max_z-is (negsuc m) (pos n) = refl
max_z-is (negsuc m) (negsuc n) = flip n m (negsuc n) (negsuc m)

module _ {K : ℕ} (x y : ℤ) (f : In K x) (g : In K y) where
  pub min_in : In K (min_z x y)
  unfolding min_z
  min_in = by_test (In K) y x (lt_z y x) (λ e. g) (λ e. f)

  pub max_in : In K (max_z x y)
  unfolding max_z
  max_in = by_test (In K) x y (lt_z y x) (λ e. f) (λ e. g)

  pub bias-min : bias K (min_z x y) ≡ min (bias K x) (bias K y)
  unfolding min_z
  bias-min = by_test (λ z. bias K z ≡ min (bias K x) (bias K y)) y x (lt_z y x) (λ e. omega (arith, lt_yes y x g f e)) (λ e. omega (arith, lt_no y x g f e))

  pub bias-max : bias K (max_z x y) ≡ max (bias K x) (bias K y)
  unfolding max_z
  bias-max = by_test (λ z. bias K z ≡ max (bias K x) (bias K y)) x y (lt_z y x) (λ e. omega (arith, lt_yes y x g f e)) (λ e. omega (arith, lt_no y x g f e))

module _ {K : ℕ} (i : Interval) (v : ℤ) (fl : In K i.lb) (fu : In K i.ub) (fv : In K v) where
  pub clip_in : In K (clip i v)
  unfolding clip
  clip_in = max_in _ _ fl (min_in _ _ fv fu)

  pub bias-clip : bias K (clip i v) ≡ max (bias K i.lb) (min (bias K v) (bias K i.ub))
  unfolding clip
  bias-clip = bias-max _ _ fl (min_in _ _ fv fu) ∙ ap (λ (n : ℕ). max (bias K i.lb) n) (bias-min _ _ fv fu)

-- ---- equality
pub le_refl : (x : ℤ) → le_z x x ≡ true
le_refl (pos n) = le-leb n n (omega arith)
le_refl (negsuc n) = le-leb n n (omega arith)

le_antisym : (x y : ℤ) → le_z x y ≡ true → le_z y x ≡ true → x ≡ y
le_antisym (pos a) (pos b) e f = ap pos (omega (arith, leb-true a b e, leb-true b a f))
le_antisym (pos a) (negsuc b) e f = no_way e
le_antisym (negsuc a) (pos b) e f = no_way f
le_antisym (negsuc a) (negsuc b) e f = ap negsuc (omega (arith, leb-true b a e, leb-true a b f))

pub eq_z-refl : (x : ℤ) → eq_z x x ≡ true
eq_z-refl x = rw (le_refl x)

pub eq_z-eq : (x y : ℤ) → eq_z x y ≡ true → x ≡ y
eq_z-eq x y e = le_antisym x y (first_so (le_z x y) (le_z y x) e) (second_so (le_z x y) (le_z y x) e)

Decides-eq_z : (x y : ℤ) → Decides (eq_z x y) (x ≡ y)
Decides-eq_z x y = (eq_z-eq x y, λ e. subst (λ (z : ℤ). eq_z x z ≡ true) e (eq_z-refl x))

eq_z-is : (x y : ℤ) → eq_z x y ≡ int_eq x y
eq_z-is x y = same_from_decides (eq_z x y) (int_eq x y) (Decides-eq_z x y) (Decides-int_eq x y)

-- the derived `==` of points
pub same_is : (p q : Point) → same p q ≡ (int_eq p.xcoord q.xcoord && int_eq p.ycoord q.ycoord)
unfolding same
same_is p q = λ i. eq_z-is p.xcoord q.xcoord i && eq_z-is p.ycoord q.ycoord i

-- ---- code
-- z is in i32's range
abbrev pub In32 : ℤ → Type 0
In32 z = SFits w32 z

abbrev pub half : ℕ
half = 2147483648

abbrev pub back : ℤ → ℤ
back z = to_z w32 (of_z w32 z)

pub home : {z : ℤ} → In32 z → back z ≡ z
home {z} f = to_z-of_z w32 z f

-- a point and an interval of such numbers
pub record InPoint (p : Point) : Type 0 where
  pub xcoord : In32 p.xcoord
  pub ycoord : In32 p.ycoord

pub record InInterval (i : Interval) : Type 0 where
  pub lb : In32 i.lb
  pub ub : In32 i.ub

pub low : {z : ℤ} → In32 z → In half z
low f = record { below = f.sfits }

-- a test of two locals, as one of the numbers
pub le-home : {x y : ℤ} → In32 x → In32 y → le_z (back x) (back y) ≡ le_z x y
le-home f g = λ i. le_z (home f i) (home g i)

pub lt-home : {x y : ℤ} → In32 x → In32 y → lt_z (back x) (back y) ≡ lt_z x y
lt-home f g = λ i. lt_z (home f i) (home g i)

-- a test `==` of two locals is one of their bits
pub bits_same : {x y : ℤ} → In32 x → In32 y → of_z w32 x ≡ of_z w32 y → x ≡ y
bits_same f g e = sym (home f) ∙ ap (to_z w32) e ∙ home g

pub eq-home : {x y : ℤ} → In32 x → In32 y → eqb (of_z w32 x) (of_z w32 y) ≡ eq_z x y
eq-home {x} {y} f g = by (eqb (of_z w32 x) (of_z w32 y)) (eq_z x y) refl refl
  where
    by : (s t : Bool) → eqb (of_z w32 x) (of_z w32 y) ≡ s → eq_z x y ≡ t → s ≡ t
    by true true e d = refl
    by true false e d = absurd (no_way (sym d ∙ subst (λ (z : ℤ). eq_z x z ≡ true) (bits_same f g (eqb-true _ _ e)) (eq_z-refl x)))
    by false true e d = absurd (eqb-false _ _ e (ap (of_z w32) (eq_z-eq x y d)))
    by false false e d = refl

-- rules for `omega`'s list, so that it reads signed tests as tests of biased numbers
to_z_in : (n : ℕ) → In32 (to_z w32 n)
to_z_in n = by (ltb n 2147483648) refl
  where
    by : (t : Bool) → ltb n 2147483648 ≡ t → In32 (sel t (pos n) (negsuc (4294967296 - suc n)))
    by true e = record { sfits = ltb-true n 2147483648 e }
    by false e = record { sfits = omega (arith, ltb-false n 2147483648 e) }

pub bits_lt : (m n : ℕ) → lt_z (to_z w32 m) (to_z w32 n) ≡ true → bias half (to_z w32 m) < bias half (to_z w32 n)
bits_lt m n = lt_yes _ _ (low (to_z_in m)) (low (to_z_in n))

pub bits_ge : (m n : ℕ) → lt_z (to_z w32 m) (to_z w32 n) ≡ false → bias half (to_z w32 n) ≤ bias half (to_z w32 m)
bits_ge m n = lt_no _ _ (low (to_z_in m)) (low (to_z_in n))

pub bits_le : (m n : ℕ) → le_z (to_z w32 m) (to_z w32 n) ≡ true → bias half (to_z w32 m) ≤ bias half (to_z w32 n)
bits_le m n = le_yes _ _ (low (to_z_in m)) (low (to_z_in n))

pub bits_gt : (m n : ℕ) → le_z (to_z w32 m) (to_z w32 n) ≡ false → bias half (to_z w32 n) < bias half (to_z w32 m)
bits_gt m n = le_no _ _ (low (to_z_in m)) (low (to_z_in n))

pub bias-home : (z : ℤ) → In32 z → bias half (back z) ≡ bias half z
bias-home z f = ap (bias half) (home f)

pub ruleset zarith = (arith, bits_lt, bits_ge, bits_le, bits_gt, bias-home)
