-- Keys and points filled in from the front: one more with each store.
use Rattle.std.proofs.Common.{ℕ, ◌+◌, ◌<◌, ◌≡◌, sym, ap, ◌∙◌, List, arith, length, get_or, set, length-set, get_or-set_same, get_or-set_other, ℤ}
use Rattle.std.proofs.Math.Decide.{ℕ_discrete}
use Rattle.geometry.specs.declared.Point.{Point}
use Rattle.tree.specs.Memory.{point_at}
use Rattle.sorting.specs.Keys.{key_of, point_of, Keyed, Read}
use Rattle.sorting.proofs.Moves.{put_other, put_same, put_length_x, put_length_y}

pub keyed_more : {px py : List ℤ} {s : Point} {keys : List ℕ} {i v : ℕ} → Keyed px py s i keys → i < length keys → v ≡ key_of s (point_at px py i) → Keyed px py s (i + 1) (set keys i v)
keyed_more {px} {py} {s} {keys} {i} {v} a h e = record { size = length-set keys i v ∙ a.size; each = λ k l. by k l (ℕ_discrete k i) }
  where
    by : (k : ℕ) → k < i + 1 → Dec (k ≡ i) → get_or (set keys i v) k 0 ≡ key_of s (point_at px py k)
    by k l (yes d) = ap (λ (x : ℕ). get_or (set keys i v) x 0) d ∙ get_or-set_same keys i v 0 h ∙ e ∙ ap (λ (x : ℕ). key_of s (point_at px py x)) (sym d)
    by k l (no d) = get_or-set_other keys i k v 0 d ∙ a.each k (omega arith)

pub read_more : {keys : List ℕ} {px py px' py' : List ℤ} {i : ℕ} {p : Point} → Read keys i px py → i < length keys → p ≡ point_of (get_or keys i 0)
    → px' ≡ set px i p.xcoord → py' ≡ set py i p.ycoord → Read keys (i + 1) px' py'
read_more {keys} {px} {py} {px'} {py'} {i} {p} a h e ex ey =
    record {
      size_x = put_length_x px py i p px' py' ex ey ∙ a.size_x;
      size_y = put_length_y px py i p px' py' ex ey ∙ a.size_y;
      each = λ k l. by k l (ℕ_discrete k i);
    }
  where
    by : (k : ℕ) → k < i + 1 → Dec (k ≡ i) → point_at px' py' k ≡ point_of (get_or keys k 0)
    by k l (yes d) =
        ap (point_at px' py') d ∙ put_same px py i p px' py' ex ey (omega (arith, a.size_x)) (omega (arith, a.size_y)) ∙ e ∙ ap (λ (x : ℕ). point_of (get_or keys x 0)) (sym d)
    by k l (no d) = put_other px py i p px' py' ex ey k d ∙ a.each k (omega arith)
