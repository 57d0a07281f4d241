-- Points by index, from any index on: the form in which a loop over two columns has them. From 0 on they are the columns' points.
use Rattle.std.proofs.Common.{ℕ, zero, suc, ◌+◌, ◌≡◌, refl, ap, ◌∙◌, List, [], ◌∷◌, ◌++◌, arith, length, ℤ}
use Rattle.geometry.specs.declared.Point.{Point}
use Rattle.tree.specs.Memory.{point_at, points_of}

-- k of them from i on
unfoldable pub seg : (ℕ → Point) → ℕ → ℕ → List Point
seg f i zero = []
seg f i (suc k) = f i ∷ seg f (suc i) k

pub seg_append : (f : ℕ → Point) (i a b : ℕ) → seg f i (a + b) ≡ seg f i a ++ seg f (i + a) b
unfolding seg
seg_append f i zero b = λ t. seg f (omega_zero t) (omega_left t)
  where
    omega_zero : i ≡ i + 0
    omega_zero = omega arith

    omega_left : 0 + b ≡ b
    omega_left = omega arith
seg_append f i (suc a) b =
    ap (seg f i) (s_left a b) ∙ ap (λ (l : List Point). f i ∷ l) (seg_append f (suc i) a b ∙ ap (λ (x : ℕ). seg f (suc i) a ++ seg f x b) (s_right i a))
  where
    s_left : (a b : ℕ) → suc a + b ≡ suc (a + b)
    s_left a b = omega arith

    s_right : (i a : ℕ) → suc i + a ≡ i + suc a
    s_right i a = omega arith

seg_shift : (f : ℕ → Point) (i k : ℕ) → seg f (suc i) k ≡ seg (λ n. f (suc n)) i k
unfolding seg
seg_shift f i zero = refl
seg_shift f i (suc k) = ap (λ (l : List Point). f (suc i) ∷ l) (seg_shift f (suc i) k)

pub seg_points : (px py : List ℤ) → length py ≡ length px → seg (point_at px py) 0 (length px) ≡ points_of px py
unfolding seg points_of
seg_points [] py e = refl
seg_points (x ∷ px) [] e = absurd (omega arith)
seg_points (x ∷ px) (y ∷ py) e =
    ap (λ (l : List Point). record { xcoord = x; ycoord = y } ∷ l) (seg_shift (point_at (x ∷ px) (y ∷ py)) 0 (length px) ∙ seg_points px py (omega arith))
