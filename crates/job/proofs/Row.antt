-- Laws of things side by side: their number, one more at the end; a column that is filled from its start;
-- and whether a test holds of any, as `any` over their indices answers.
use Rattle.std.proofs.Common.{◌≡◌, refl, sym, ap, ◌∙◌, Bool, true, false, ◌||◌, List, [], ◌∷◌, ◌++◌, append_assoc, map, ℕ, zero, suc, ◌+◌, ◌-◌, ◌*◌, ◌≤◌, ◌<◌, mul-suc, mul-zero, add-one, arith, length, drop, set, get_or, drop-cons}
use Rattle.std.proofs.Math.Seq.{set_at}
use Rattle.std.specs.Bool.{MatchBool}
use Rattle.std.specs.List.{list_any, range_with_len, HoldsAt, AllWithin}
use Rattle.std.proofs.lemmas.List.Folds.{list_any_at, list_any_none}
use Rattle.tree.specs.Search.{any_of}
use Rattle.job.specs.Layout.{row}

module _ {A : Type 0} (f : ℕ → A) (w : ℕ) where
  pub row-length : (at n : ℕ) → length (row f w at n) ≡ n
  unfolding row
  row-length at zero = refl
  row-length at (suc n) = ap suc (row-length (at + w) n)

  -- what is read of each
  pub row-map : {B : Type 0} (g : A → B) (at n : ℕ) → map g (row f w at n) ≡ row (λ p. g (f p)) w at n
  unfolding row
  row-map g at zero = refl
  row-map g at (suc n) = ap (λ (l : List _). g (f at) ∷ l) (row-map g (at + w) n)

  -- read a distance d on
  pub row_shift : (d at n : ℕ) → row (λ p. f (p + d)) w at n ≡ row f w (at + d) n
  unfolding row
  row_shift d at zero = refl
  row_shift d at (suc n) =
      let e : at + w + d ≡ at + d + w = omega arith in
      ap (λ (l : List A). f (at + d) ∷ l) (row_shift d (at + w) n ∙ ap (λ (k : ℕ). row f w k n) e)

  -- one more at the end
  row_snoc : (at n : ℕ) → row f w at (suc n) ≡ row f w at n ++ (f (at + w * n) ∷ [])
  unfolding row
  row_snoc at zero = ap (λ (k : ℕ). f k ∷ []) (omega (arith, mul-zero w))
  row_snoc at (suc n) =
      ap (λ (l : List A). f at ∷ l)
      (row_snoc (at + w) n ∙ ap (λ (k : ℕ). row f w (at + w) n ++ (f k ∷ [])) (omega (arith, mul-suc w n)))

  -- a column l, whose first i are what is read: it is l'
  pub Filled : List A → ℕ → ℕ → List A → Type 0
  Filled l at i l' = l' ≡ row f w at i ++ drop i l

  module _ (l : List A) (at : ℕ) where
    pub fill_none : Filled l at 0 l
    unfolding Filled row
    fill_none = refl

    pub fill_more : (d : A) (i : ℕ) (l' : List A) → Filled l at i l' → i < length l → (x : A) → x ≡ f (at + w * i) → Filled l at (i + 1) (set l' i x)
    unfolding Filled
    fill_more d i l' e h x y =
        ap (λ (r : List A). set r i x) (e ∙ ap (λ (r : List A). row f w at i ++ r) (drop-cons l i d h))
        ∙ set_at (row f w at i) (get_or l i d) (drop (suc i) l) x i (row-length at i)
        ∙ ap (λ (a : A). row f w at i ++ (a ∷ drop (suc i) l)) y
        ∙ sym (append_assoc (row f w at i) (f (at + w * i) ∷ []) (drop (suc i) l))
        ∙ ap (λ (r : List A). r ++ drop (suc i) l) (sym (row_snoc at i))
        ∙ ap (λ (k : ℕ). row f w at k ++ drop k l) (sym (add-one i))

    pub fill_all : (n i : ℕ) (l' : List A) → Filled l at i l' → i ≡ n → l' ≡ row f w at n ++ drop n l
    unfolding Filled
    fill_all n i l' e z = e ∙ ap (λ (k : ℕ). row f w at k ++ drop k l) z

-- ---- a test of any of n things side by side, where p tests the i-th
-- what `any` answers over the n indices from i on
abbrev pub AnyOf : (ℕ → Bool) → ℕ → ℕ → Bool → Type 0
AnyOf p i n r =
    MatchBool r
    ((k : ℕ) × (k < length (range_with_len i n)) × HoldsAt (λ x. p x ≡ true) (range_with_len i n) k)
    (AllWithin (λ x. p x ≡ false) (range_with_len i n) 0 (length (range_with_len i n)))

any_indices : (p : ℕ → Bool) (i n : ℕ) (r : Bool) → AnyOf p i n r → r ≡ list_any p (range_with_len i n)
any_indices p i n true h = sym (list_any_at p (range_with_len i n) h.0 0 h.1 (h.2 0))
any_indices p i n false h = sym (list_any_none p (range_with_len i n) (λ k d l. h k d (omega arith) l))

module _ {A : Type 0} (f : ℕ → A) (w at : ℕ) (g : A → Bool) where
  any_row : (i n : ℕ) → list_any (λ k. g (f (at + w * k))) (range_with_len i n) ≡ any_of g (row f w (at + w * i) n)
  unfolding any_of row
  any_row i zero = refl
  any_row i (suc n) =
      let step : at + w * i + w ≡ at + w * (i + 1) = rw (add-one, mul-suc w i) (omega arith) in
      ap (λ (r : Bool). g (f (at + w * i)) || r) (any_row (i + 1) n ∙ ap (λ (k : ℕ). any_of g (row f w k n)) (sym step))

  pub any_is : (n : ℕ) (r : Bool) → AnyOf (λ k. g (f (at + w * k))) 0 n r → r ≡ any_of g (row f w at n)
  any_is n r h =
      let start : at + w * 0 ≡ at = omega (arith, mul-zero w) in
      any_indices _ 0 n r h ∙ any_row 0 n ∙ ap (λ (k : ℕ). any_of g (row f w k n)) start
