-- What the library's sort leaves is the definition's sorted list of the same keys: each is there as often (`sort-same`), and in order.
use Rattle.std.proofs.Common.{ℕ, suc, ◌<◌, ◌≡◌, List, [], ◌∷◌, length, get_or, refl, sym, ap, ◌∙◌, arith, add-one, Bool, false, cond, ltb, eqb}
use Rattle.std.specs.List.{sum_by}
use Rattle.std.specs.List.Sorted.{IsPermutation, IsSorted}
use Rattle.std.specs.Ordering.{is_lt, nat_cmp}
use Rattle.std.proofs.lemmas.List.Recursion.{is_sum_by}
use Rattle.std.proofs.lemmas.List.Sorted.{sum_by-IsPermutation}
use borrow.Author.Tests.{le-ltb}
use Rattle.tree.specs.Tree.{one}
use Rattle.tree.specs.Shape.{count}
use Rattle.sorting.specs.Keys.{place_key, sort_keys, SameKeys}
use Rattle.sorting.proofs.Scattering.{sort-same}
use Rattle.sorting.proofs.Ordering.{not_less}

count-sum : (x : ℕ) (ks : List ℕ) → count x ks ≡ sum_by (λ k. one (eqb k x)) ks
unfolding count
count-sum x = is_sum_by (count x) (λ k. one (eqb k x)) refl (λ k ks. refl)

same_keys : (ks ls : List ℕ) → IsPermutation ks ls → SameKeys ks ls
same_keys ks ls h x = count-sum x ks ∙ sym (sum_by-IsPermutation (λ k. one (eqb k x)) ks ls h) ∙ sym (count-sum x ls)

-- a list in order is its own sorted list
fixed : (ks : List ℕ) → ((k : ℕ) (d : ℕ) → suc k < length ks → ltb (get_or ks (suc k) d) (get_or ks k d) ≡ false) → sort_keys ks ≡ ks
unfolding place_key
fixed [] o = refl
fixed (k ∷ []) o = refl
fixed (k ∷ l ∷ ks) o =
    ap (place_key k) (fixed (l ∷ ks) (λ n d h. o (suc n) d (omega arith)))
    ∙ ap (λ (b : Bool). cond b (l ∷ place_key k ks) (k ∷ l ∷ ks)) (o 0 k (omega arith))

pub keys_sorted : (ks ls : List ℕ) → IsPermutation ks ls → IsSorted nat_cmp ls → ls ≡ sort_keys ks
keys_sorted ks ls h o = sym (fixed ls in_order) ∙ sym (sort-same ks ls (same_keys ks ls h))
  where
    in_order : (k : ℕ) (d : ℕ) → suc k < length ls → ltb (get_or ls (suc k) d) (get_or ls k d) ≡ false
    in_order k d l =
        le-ltb _ _
        (not_less (get_or ls (suc k) d) (get_or ls k d)
        (ap (λ n. is_lt (nat_cmp (get_or ls n d) (get_or ls k d))) (sym (add-one k)) ∙ o k d (omega arith) (omega arith)))
