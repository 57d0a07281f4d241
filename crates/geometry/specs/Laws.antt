-- Laws of distance and of the nearest point, over all of ℤ: no range is asked. One coordinate goes to ℕ by a bias K above the numbers at hand.
use Rattle.std.specs.Prelude.{◌≡◌, ◌⊎◌, ℕ, ◌+◌, ◌*◌, ◌≤◌, min, max, ℤ, pos, nat_abs}
use Rattle.std.proofs.Common.{ap, sym, inl, inr, ⊎_elim, arith}
use Rattle.std.proofs.Math.Decide.{dec_le}
use Rattle.std.proofs.Math.IntN.{+ℤ_idr}
use Rattle.geometry.specs.declared.Point.{Point}
use Rattle.geometry.specs.Geometry.{gap, dist, hull, box, clip, nearest}
use Rattle.geometry.specs.Signed.{bias, In, bound, in_a, in_b, in_c, gap-bias, min_in, max_in, bias-min, bias-max, clip_in, bias-clip}

-- ---- one coordinate
pub gap-sym : (a b : ℤ) → gap a b ≡ gap b a
gap-sym a b = omega (arith, gap-bias a b (in_a a b a) (in_b a b a), gap-bias b a (in_b a b a) (in_a a b a))

pub gap-triangle : (a b c : ℤ) → gap a c ≤ gap a b + gap b c
gap-triangle a b c =
    omega (arith, gap-bias a c (in_a a b c) (in_c a b c), gap-bias a b (in_a a b c) (in_b a b c), gap-bias b c (in_b a b c) (in_c a b c))

-- n lies between a and c
abbrev Between : ℕ → ℕ → ℕ → Type 0
Between a n c = ((a ≤ n) × (n ≤ c)) ⊎ ((c ≤ n) × (n ≤ a))

between : {K : ℕ} (a n c : ℤ) → In K a → In K n → In K c → Between (bias K a) (bias K n) (bias K c) → gap a n + gap n c ≡ gap a c
between a n c f g h =
    ⊎_elim (λ w. omega (arith, gap-bias a n f g, gap-bias n c g h, gap-bias a c f h))
    (λ w. omega (arith, gap-bias a n f g, gap-bias n c g h, gap-bias a c f h))

le-or : (a b : ℕ) → (a ≤ b) ⊎ (b ≤ a)
le-or a b = by_dec (dec_le a b)
  where
    by_dec : Dec (a ≤ b) → (a ≤ b) ⊎ (b ≤ a)
    by_dec (yes h) = inl h
    by_dec (no h) = inr (omega arith)

-- v clipped to the interval of a and b is the middle one of the three
module _ (a b v : ℤ) where
  abbrev n : ℤ
  n = clip (hull a b) v

  clip-K : In (bound a b v) n
  clip-K = clip_in (hull a b) v (min_in a b (in_a a b v) (in_b a b v)) (max_in a b (in_a a b v) (in_b a b v)) (in_c a b v)

  clip_is : bias (bound a b v) n ≡ max (min (bias (bound a b v) a) (bias (bound a b v) b)) (min (bias (bound a b v) v) (max (bias (bound a b v) a) (bias (bound a b v) b)))
  clip_is =
      omega (arith, bias-clip (hull a b) v (min_in a b (in_a a b v) (in_b a b v)) (max_in a b (in_a a b v) (in_b a b v)) (in_c a b v), bias-min a b (in_a a b v) (in_b a b v), bias-max a b (in_a a b v) (in_b a b v))

  pub clip_av : gap a n + gap n v ≡ gap a v
  clip_av =
      between _ _ _ (in_a a b v) clip-K (in_c a b v)
      (⊎_elim (λ h. inl (omega (arith, clip_is))) (λ h. inr (omega (arith, clip_is))) (le-or (bias (bound a b v) a) (bias (bound a b v) v)))

  pub clip_ab : gap a n + gap n b ≡ gap a b
  clip_ab =
      between _ _ _ (in_a a b v) clip-K (in_b a b v)
      (⊎_elim (λ h. inl (omega (arith, clip_is))) (λ h. inr (omega (arith, clip_is))) (le-or (bias (bound a b v) a) (bias (bound a b v) b)))

  pub clip_bv : gap b n + gap n v ≡ gap b v
  clip_bv =
      between _ _ _ (in_b a b v) clip-K (in_c a b v)
      (⊎_elim (λ h. inl (omega (arith, clip_is))) (λ h. inr (omega (arith, clip_is))) (le-or (bias (bound a b v) b) (bias (bound a b v) v)))

-- ---- two coordinates
pub dist-sym : (p q : Point) → dist p q ≡ dist q p
unfolding dist
dist-sym p q = omega (arith, gap-sym p.xcoord q.xcoord, gap-sym p.ycoord q.ycoord)

gap_self : (a : ℤ) → gap a a ≡ 0
gap_self a = omega (arith, gap-bias a a (in_a a a a) (in_a a a a))

pub dist_self : (p : Point) → dist p p ≡ 0
unfolding dist
dist_self p = omega (arith, gap_self p.xcoord, gap_self p.ycoord)

pub triangle : (p q r : Point) → dist p r ≤ dist p q + dist q r
unfolding dist
triangle p q r = omega (arith, gap-triangle p.xcoord q.xcoord r.xcoord, gap-triangle p.ycoord q.ycoord r.ycoord)

-- the nearest point to q of the box of P and C lies on a shortest way between any two of the three
module _ (P C q : Point) where
  pub via-parent : dist P (nearest (box P C) q) + dist (nearest (box P C) q) q ≡ dist P q
  unfolding dist
  via-parent = omega (arith, clip_av P.xcoord C.xcoord q.xcoord, clip_av P.ycoord C.ycoord q.ycoord)

  pub via-child : dist C (nearest (box P C) q) + dist (nearest (box P C) q) q ≡ dist C q
  unfolding dist
  via-child = omega (arith, clip_bv P.xcoord C.xcoord q.xcoord, clip_bv P.ycoord C.ycoord q.ycoord)

  pub on_edge : dist P (nearest (box P C) q) + dist (nearest (box P C) q) C ≡ dist P C
  unfolding dist
  on_edge = omega (arith, clip_ab P.xcoord C.xcoord q.xcoord, clip_ab P.ycoord C.ycoord q.ycoord)

  pub near-parent : dist (nearest (box P C) q) q ≤ dist P q
  near-parent = omega (arith, via-parent)

  -- a way from P to C by q is longer than the direct one by twice the distance from q to the box
  pub twice_near : dist P q + dist C q ≡ dist P C + 2 * dist (nearest (box P C) q) q
  twice_near = omega (arith, via-parent, via-child, on_edge, dist-sym C (nearest (box P C) q))

-- ---- points within M of the origin, each way: their distances are small, and the nearest point stays there
pub record Within (M : ℕ) (p : Point) : Type 0 where
  pub xcoord : nat_abs p.xcoord ≤ M
  pub ycoord : nat_abs p.ycoord ≤ M

abs-gap : (a : ℤ) → nat_abs a ≡ gap a (pos 0)
unfolding gap
abs-gap a = sym (ap nat_abs (+ℤ_idr a))

gap-small : (M : ℕ) (a b : ℤ) → nat_abs a ≤ M → nat_abs b ≤ M → gap a b ≤ 2 * M
gap-small M a b f g = omega (arith, abs-gap a, abs-gap b, gap-triangle a (pos 0) b, gap-sym b (pos 0))

-- |a| ≤ M, in biased numbers
abbrev Ball : ℕ → ℕ → ℤ → Type 0
Ball K M a = (bias K a ≤ bias K (pos 0) + M) × (bias K (pos 0) ≤ bias K a + M)

ball : {K : ℕ} (M : ℕ) (a : ℤ) → In K a → In K (pos 0) → nat_abs a ≤ M → Ball K M a
ball M a f z h = omega (arith, abs-gap a, gap-bias a (pos 0) f z)

ball-abs : {K : ℕ} (M : ℕ) (a : ℤ) → In K a → In K (pos 0) → Ball K M a → nat_abs a ≤ M
ball-abs M a f z h = omega (arith, abs-gap a, gap-bias a (pos 0) f z)

clip-small : (M : ℕ) (a b v : ℤ) → nat_abs a ≤ M → nat_abs b ≤ M → nat_abs (clip (hull a b) v) ≤ M
clip-small M a b v f g =
    ball-abs M _ (clip-K a b v) zero_in (omega (arith, clip_is a b v, ball M a (in_a a b v) zero_in f, ball M b (in_b a b v) zero_in g))
  where
    zero_in : In (bound a b v) (pos 0)
    zero_in = record { below = omega arith }

pub dist-small : {M : ℕ} {p q : Point} → Within M p → Within M q → dist p q ≤ 4 * M
unfolding dist
dist-small {M} {p} {q} f g = omega (arith, gap-small M p.xcoord q.xcoord f.xcoord g.xcoord, gap-small M p.ycoord q.ycoord f.ycoord g.ycoord)

pub nearest-within : {M : ℕ} {a b : Point} (p : Point) → Within M a → Within M b → Within M (nearest (box a b) p)
nearest-within {M} p f g = record { xcoord = clip-small M _ _ p.xcoord f.xcoord g.xcoord; ycoord = clip-small M _ _ p.ycoord f.ycoord g.ycoord }
