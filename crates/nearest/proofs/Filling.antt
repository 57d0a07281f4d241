-- A distance is the sum of two gaps. The column of distances is filled from the front: none at first, one more with each store.
use Rattle.std.proofs.Common.{ℕ, ◌+◌, ◌≤◌, ◌<◌, ◌≡◌, sym, ap, ◌∙◌, List, arith, length, get_or, set, length-set, get_or-set_same, get_or-set_other, ℤ, pos, negsuc, nat_abs}
use Rattle.std.proofs.Math.Decide.{ℕ_discrete}
use Rattle.geometry.specs.declared.Point.{Point}
use Rattle.geometry.specs.Geometry.{gap, dist}
use Rattle.geometry.specs.Laws.{Within}
use Rattle.geometry.specs.Signed.{In32, InPoint, back, home}
use Rattle.tree.specs.Limits.{reach}
use Rattle.tree.specs.Memory.{point_at}
use Rattle.nearest.specs.Columns.{Distances}

-- ---- one distance
near_fits : (z : ℤ) → nat_abs z ≤ reach → In32 z
near_fits (pos n) h = record { sfits = omega arith }
near_fits (negsuc n) h = record { sfits = omega arith }

pub two_gaps : {p q : Point} → Within reach p → InPoint q → {x y : ℕ} → x ≡ gap (back p.xcoord) (back q.xcoord) → y ≡ gap (back p.ycoord) (back q.ycoord)
    → x + y ≡ dist p q
unfolding dist
two_gaps {p} {q} w f ex ey = λ i. (ex ∙ (λ j. gap (home (near_fits p.xcoord w.xcoord) j) (home f.xcoord j))) i + (ey ∙ (λ j. gap (home (near_fits p.ycoord w.ycoord) j) (home f.ycoord j))) i

-- ---- their column
pub none_yet : {q : Point} {xs ys : List ℤ} {e : List ℕ} → Distances 0 q xs ys e
none_yet = record { in_e = omega arith; each = λ k h. absurd (omega arith) }

pub one_more : {q : Point} {xs ys : List ℤ} {e : List ℕ} {i v : ℕ} → Distances i q xs ys e → i < length e → v ≡ dist (point_at xs ys i) q
    → Distances (i + 1) q xs ys (set e i v)
one_more {q} {xs} {ys} {e} {i} {v} d h f = record { in_e = omega (arith, length-set e i v); each = λ k l. by k l (ℕ_discrete k i) }
  where
    by : (k : ℕ) → k < i + 1 → Dec (k ≡ i) → get_or (set e i v) k 0 ≡ dist (point_at xs ys k) q
    by k l (yes z) = ap (λ (x : ℕ). get_or (set e i v) x 0) z ∙ get_or-set_same e i v 0 h ∙ f ∙ ap (λ (x : ℕ). dist (point_at xs ys x) q) (sym z)
    by k l (no z) = get_or-set_other e i k v 0 z ∙ d.each k (omega arith)
