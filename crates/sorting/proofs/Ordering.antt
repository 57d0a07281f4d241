-- Sorted keys are those of the sorted points: as keys order as their points do, the points read back are in order, and a list in order of the same
-- points is the definition's sorted list.
use Rattle.std.proofs.Common.{ℕ, suc, ◌≤◌, ◌<◌, ◌≡◌, List, [], ◌∷◌, length, get_or, map, refl, sym, ap, subst, ◌∙◌, arith, add-one, All, Bool, true, false, cond, ℤ, ltb, eqb}
use Rattle.std.proofs.Math.Bool.{false≢true}
use borrow.Author.Tests.{ltb-false, le-ltb, not-false}
use Rattle.std.specs.List.{sum_by}
use Rattle.std.specs.List.Sorted.{IsPermutation, IsSorted}
use Rattle.std.specs.declared.cmp.Ordering.TheVariants.{Less, Equal, Greater}
use Rattle.std.specs.Ordering.{is_lt, nat_cmp}
use Rattle.std.proofs.lemmas.List.Recursion.{is_sum_by}
use Rattle.std.proofs.lemmas.List.Sorted.{sum_by-IsPermutation, IsPermutation-map, All-permutation}
use Rattle.std.proofs.lemmas.List.{get_or_default}
use Rattle.geometry.specs.declared.Point.{Point}
use Rattle.geometry.specs.Geometry.{same}
use Rattle.geometry.specs.Laws.{Within}
use Rattle.tree.specs.Limits.{reach}
use Rattle.tree.specs.Tree.{one}
use Rattle.tree.specs.Memory.{point_at, points_of}
use Rattle.tree.specs.Route.{ordered, place, sort, times, SameTerminals}
use Rattle.tree.proofs.Order.{sort-same}
use Rattle.sorting.specs.Keys.{key_of, point_of, Keyed, Read}
use Rattle.sorting.specs.Points.{Even, Sorted}
use Rattle.sorting.proofs.Keys.{key_order, key_back}

-- ---- a permutation has each point as often
times-sum : (p : Point) (ps : List Point) → times p ps ≡ sum_by (λ q. one (same p q)) ps
unfolding times
times-sum p = is_sum_by (times p) (λ q. one (same p q)) refl (λ q ps. refl)

same_often : (ps qs : List Point) → IsPermutation ps qs → SameTerminals ps qs
same_often ps qs h p = times-sum p ps ∙ sym (sum_by-IsPermutation (λ q. one (same p q)) ps qs h) ∙ sym (times-sum p qs)

-- ---- keys of points within reach
pub record Fits (s : Point) (k : ℕ) : Type 0 where
  pub is : key_of s (point_of k) ≡ k
  pub near : Within reach (point_of k)

key_fits : (s p : Point) → Within reach p → Fits s (key_of s p)
key_fits s p f = record { is = ap (key_of s) (key_back s p f); near = subst (Within reach) (sym (key_back s p f)) f }

pub not_less : (a b : ℕ) → is_lt (nat_cmp a b) ≡ false → b ≤ a
not_less a b f = by (ltb a b) refl f
  where
    by : (t : Bool) → ltb a b ≡ t → is_lt (cond t Less (cond (eqb a b) Equal Greater)) ≡ false → b ≤ a
    by true e f = absurd (false≢true (sym f))
    by false e f = ltb-false a b e

keys_ordered : (s : Point) (k l : ℕ) → Fits s k → Fits s l → is_lt (nat_cmp l k) ≡ false → ordered s (point_of k) (point_of l) ≡ true
keys_ordered s k l f g h =
    not-false (ordered s (point_of k) (point_of l))
    (sym (key_order s (point_of k) (point_of l) f.near g.near) ∙ (λ i. ltb (g.is i) (f.is i)) ∙ le-ltb l k (not_less l k h))

-- ---- a list in order is its own sorted list
module _ (s : Point) where
  unfoldable pub InOrder : List ℕ → Type 0
  InOrder ks = (k : ℕ) (d : ℕ) → suc k < length ks → ordered s (point_of (get_or ks k d)) (point_of (get_or ks (suc k) d)) ≡ true

  pub sort-fixed : (ks : List ℕ) → InOrder ks → sort s (map point_of ks) ≡ map point_of ks
  unfolding InOrder place
  sort-fixed [] o = refl
  sort-fixed (k ∷ []) o = refl
  sort-fixed (k ∷ l ∷ ks) o =
      let ih = sort-fixed (l ∷ ks) (λ n d h. o (suc n) d (omega arith)) in
      ap (place s (point_of k)) ih
      ∙ ap (λ (b : Bool). cond b (point_of k ∷ point_of l ∷ map point_of ks) (point_of l ∷ place s (point_of k) (map point_of ks))) (o 0 k (omega arith))

  in_order : (ks : List ℕ) → All (Fits s) ks → IsSorted nat_cmp ks → InOrder ks
  unfolding InOrder
  in_order ks f o k d h =
      keys_ordered s _ _ (f k d (omega arith)) (f (suc k) d h)
      (ap (λ n. is_lt (nat_cmp (get_or ks n d) (get_or ks k d))) (sym (add-one k)) ∙ o k d (omega arith) (omega arith))

-- ---- columns
read_points : (ks : List ℕ) (px py : List ℤ) → length px ≡ length ks → length py ≡ length ks
    → ((k : ℕ) → k < length ks → point_at px py k ≡ point_of (get_or ks k 0)) → points_of px py ≡ map point_of ks
unfolding points_of
read_points [] [] py e f h = refl
read_points [] (x ∷ px) py e f h = absurd (omega arith)
read_points (k ∷ ks) [] py e f h = absurd (omega arith)
read_points (k ∷ ks) (x ∷ px) [] e f h = absurd (omega arith)
read_points (k ∷ ks) (x ∷ px) (y ∷ py) e f h =
    λ i. h 0 (omega arith) i ∷ read_points ks px py (omega arith) (omega arith) (λ n l. h (suc n) (omega arith)) i

module _ (px py px' py' : List ℤ) (s : Point) (ks ks' : List ℕ) (e : Even px py) (put : Keyed px py s (length px) ks)
    (same_ks : IsPermutation ks ks') (sorted : IsSorted nat_cmp ks') (read : Read ks' (length ks') px' py') where
  fits : All (Fits s) ks'
  fits =
      All-permutation (Fits s) ks ks' same_ks
      (λ k d h. let l : k < length px = omega (arith, put.size) in
      subst (Fits s) (sym (get_or_default ks k d 0 h ∙ put.each k l)) (key_fits s (point_at px py k) (e.near k l)))

  put_points : points_of px py ≡ map point_of ks
  put_points =
      read_points ks px py (sym put.size) (e.both ∙ sym put.size)
      (λ k h. let l : k < length px = omega (arith, put.size) in sym (ap point_of (put.each k l) ∙ key_back s (point_at px py k) (e.near k l)))

  shuffled : IsPermutation (points_of px py) (map point_of ks')
  shuffled = subst (λ ps. IsPermutation ps (map point_of ks')) (sym put_points) (IsPermutation-map point_of ks ks' same_ks)

  pub sorted_points : length px' ≡ length px → Sorted px py s px' py'
  sorted_points n =
      record {
        is =
            read_points ks' px' py' read.size_x read.size_y read.each
            ∙ sym (sort-fixed s ks' (in_order s ks' fits sorted))
            ∙ sym (sort-same s (points_of px py) (map point_of ks') (same_often _ _ shuffled));
        even =
            record {
              both = read.size_y ∙ sym read.size_x;
              near = λ k h. let l : k < length ks' = omega (arith, read.size_x) in
                  let f = fits k 0 l in subst (Within reach) (sym (read.each k l)) f.near;
            };
        size = n;
      }
