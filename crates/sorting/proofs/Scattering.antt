-- Sorting depends on how often each key stands in a list, and on nothing else (`sort-same`): `sort_keys` of the code rests on that. And a law that the
-- code no longer uses, since it no longer guesses an order before it sorts:
-- Keys that went to places which were free: the places hold the keys so far, each as often, and are free for the rest. So once all keys went, the
-- places hold the same keys; and sorting depends only on how often each key stands there. Nothing is asked of which place a key goes to.
use Rattle.std.proofs.Common.{ℕ, zero, suc, ◌+◌, ◌-◌, ◌≤◌, ◌<◌, ◌≡◌, refl, sym, ap, ◌∙◌, Bool, true, false, not, cond, List, [], ◌∷◌, arith, add-one, length, get_or, set, take, replicate, length-set, ext_get_or, take-suc, ltb, eqb}
use Rattle.std.proofs.Math.ListN.{length-replicate, get_or-replicate}
use Rattle.std.proofs.Math.Seq.{take-length}
use borrow.Author.Tests.{ltb-true, ltb-false, le-ltb, eqb-true, eq-eqb, not-true, not-false}
use Rattle.tree.specs.Tree.{one}
use Rattle.tree.specs.Shape.{count}
use Rattle.tree.proofs.Folding.{Total, Places, places_comm, Counts, fold_same}
use Rattle.tree.proofs.Counting.{count_snoc}
use Rattle.sorting.specs.Keys.{place_key, sort_keys, free, AllFree, SameKeys}

-- ---- sorting depends on counts alone
-- v may stand before k
abbrev before : ℕ → ℕ → Bool
before v k = not (ltb k v)

in_order : Total before
in_order =
    record {
      trans = λ a b c e f. ap not (le-ltb c a (omega (arith, le a b e, le b c f)));
      either = λ a b e. ap not (le-ltb a b (omega (arith, gt a b e)));
      anti = λ a b e f. omega (arith, le a b e, le b a f);
    }
  where
    le : (a b : ℕ) → before a b ≡ true → a ≤ b
    le a b e = ltb-false b a (not-true (ltb b a) e)

    gt : (a b : ℕ) → before a b ≡ false → b < a
    gt a b e = ltb-true b a (not-false (ltb b a) e)

placing : Places before place_key
unfolding place_key
placing =
    record {
      last = λ v. refl;
      here = λ v k ks e. ap (λ (t : Bool). cond t (k ∷ place_key v ks) (v ∷ k ∷ ks)) (not-true (ltb k v) e);
      on = λ v k ks e. ap (λ (t : Bool). cond t (k ∷ place_key v ks) (v ∷ k ∷ ks)) (not-false (ltb k v) e);
    }

counting : Counts (λ x y. eqb y x) count
unfolding count
counting = record { is = λ x y e. sym (eqb-true y x e); self = λ x. eq-eqb x x refl; none = λ x. refl; more = λ x y l. refl }

pub sort-same : (ks ls : List ℕ) → SameKeys ks ls → sort_keys ks ≡ sort_keys ls
sort-same = fold_same counting place_key [] (places_comm in_order placing)

-- ---- one store
count_set : (x : ℕ) (l : List ℕ) (r v : ℕ) → r < length l → count x (set l r v) + one (eqb (get_or l r 0) x) ≡ count x l + one (eqb v x)
unfolding count
count_set x [] r v h = absurd (omega arith)
count_set x (a ∷ l) zero v h = omega arith
count_set x (a ∷ l) (suc r) v h = omega (arith, count_set x l r v (omega arith))

-- ---- the keys before i have gone
pub record Scattered (keys places : List ℕ) (i : ℕ) : Type 0 where
  pub low : i ≤ length keys
  pub size : length places ≡ length keys
  pub each : (x : ℕ) → count x places ≡ count x (take i keys) + count x (replicate (length keys - i) free)

pub scatter_starts : {keys places : List ℕ} → length places ≡ length keys → AllFree places → Scattered keys places 0
unfolding count
scatter_starts {keys} {places} e f = record { low = omega arith; size = e; each = λ x. omega (arith, ap (count x) is) }
  where
    is : places ≡ replicate (length keys - 0) free
    is =
        ext_get_or 0 places (replicate (length keys - 0) free) (omega (arith, e, length-replicate (length keys - 0) free))
        (λ k h. f.each k h ∙ sym (get_or-replicate (length keys - 0) k free 0 (omega (arith, e))))

module _ {keys places : List ℕ} {i : ℕ} (s : Scattered keys places i) where
  pub scatter_more : (r : ℕ) → i < length keys → r < length places → get_or places r 0 ≡ free → Scattered keys (set places r (get_or keys i 0)) (i + 1)
  unfolding count
  scatter_more r more h e = record { low = omega arith; size = length-set places r (get_or keys i 0) ∙ s.size; each = each }
    where
      left : (x : ℕ) → count x (replicate (length keys - i) free) ≡ one (eqb free x) + count x (replicate (length keys - (i + 1)) free)
      left x = let d : length keys - i ≡ suc (length keys - (i + 1)) = omega arith in ap (λ (n : ℕ). count x (replicate n free)) d

      gone : (x : ℕ) → count x (take (i + 1) keys) ≡ count x (take i keys) + one (eqb (get_or keys i 0) x)
      gone x = ap (λ (n : ℕ). count x (take n keys)) (add-one i) ∙ ap (count x) (take-suc keys i 0 more) ∙ count_snoc x (take i keys) (get_or keys i 0)

      each : (x : ℕ) → count x (set places r (get_or keys i 0)) ≡ count x (take (i + 1) keys) + count x (replicate (length keys - (i + 1)) free)
      each x = omega (arith, count_set x places r (get_or keys i 0) h, ap (λ (y : ℕ). one (eqb y x)) e, s.each x, left x, gone x)

  pub scatter_ends : length keys ≤ i → SameKeys places keys
  unfolding count
  scatter_ends h x =
      let all : i ≡ length keys = omega (arith, s.low) in
      let none : length keys - i ≡ 0 = omega arith in
      omega (arith, s.each x, ap (λ (n : ℕ). count x (take n keys)) all ∙ ap (count x) (take-length keys), ap (λ (n : ℕ). count x (replicate n free)) none)
