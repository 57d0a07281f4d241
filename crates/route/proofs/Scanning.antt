-- The loop for W: the greater of w and the farthest of the terminals from i on is the farthest of all.
use Rattle.std.proofs.Common.{ℕ, zero, suc, ◌+◌, ◌-◌, ◌≤◌, ◌<◌, max, ◌≡◌, refl, sym, ap, ◌∙◌, List, arith, add-one, length, ℤ}
use Rattle.geometry.specs.declared.Point.{Point}
use Rattle.geometry.specs.Geometry.{dist}
use Rattle.tree.specs.Route.{farthest}
use Rattle.tree.specs.Memory.{point_at, points_of}
use Rattle.sorting.proofs.Segments.{seg, seg_points}

-- what is left, from the i-th terminal on
abbrev left : List ℤ → List ℤ → Point → ℕ → ℕ
left px py s i = farthest s (seg (point_at px py) i (length px - i))

pub record Scanned (px py : List ℤ) (s : Point) (w i : ℕ) : Type 0 where
  pub is : max w (left px py s i) ≡ farthest s (points_of px py)

module _ (px py : List ℤ) (s : Point) where
  pub scanned_starts : length py ≡ length px → Scanned px py s 0 0
  scanned_starts e =
      let z : length px - 0 ≡ length px = omega arith in
      let all : left px py s 0 ≡ farthest s (points_of px py) = ap (λ (k : ℕ). farthest s (seg (point_at px py) 0 k)) z ∙ ap (farthest s) (seg_points px py e) in
      record { is = omega (arith, all) }

  pub scanned_turn : (w i : ℕ) → Scanned px py s w i → i < length px → (d w' : ℕ) → d ≡ dist s (point_at px py i) → w' ≡ max d w
      → Scanned px py s w' (i + 1)
  unfolding seg
  scanned_turn w i v h d w' ed ew =
      let more : length px - i ≡ suc (length px - (i + 1)) = omega arith in
      let next : suc i ≡ i + 1 = omega arith in
      let step : left px py s i ≡ max (dist s (point_at px py i)) (left px py s (i + 1)) =
      ap (λ (k : ℕ). farthest s (seg (point_at px py) i k)) more ∙ ap (λ (j : ℕ). max (dist s (point_at px py i)) (farthest s (seg (point_at px py) j (length px - (i + 1))))) next in
      record { is = omega (arith, step, ed, ew, v.is) }

  pub scanned_ends : (w i : ℕ) → Scanned px py s w i → length px ≤ i → w ≡ farthest s (points_of px py)
  unfolding seg
  scanned_ends w i v h =
      let z : length px - i ≡ 0 = omega arith in
      let none : left px py s i ≡ 0 = ap (λ (k : ℕ). farthest s (seg (point_at px py) i k)) z in
      omega (arith, none, v.is)
