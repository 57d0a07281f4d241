-- A test of any element of a list, by the list's members: it fails where it fails of each, so two lists with the same members have one answer.
use Rattle.std.proofs.Common.{◌≡◌, refl, sym, ap, ◌∙◌, Bool, true, false, ◌||◌, List, [], ◌∷◌}
use mathlib.Core.List.{Memᴰ}
use Rattle.tree.specs.Search.{any_of}
use Rattle.tree.proofs.Deciding.{never}

pub or_no : (a b : Bool) → (a || b) ≡ false → (a ≡ false) × (b ≡ false)
or_no false b e = (refl, e)
or_no true b e = never e

module _ {A : Type 0} (f : A → Bool) where
  pub none_of : {k : A} {l : List A} → Memᴰ k l → any_of f l ≡ false → f k ≡ false
  unfolding any_of
  none_of (Memᴰ.head {x = x} {xs = xs} e) h = ap f e ∙ (or_no (f x) (any_of f xs) h).0
  none_of (Memᴰ.tail {x = x} {xs = xs} m) h = none_of m (or_no (f x) (any_of f xs) h).1

  none-all : (l : List A) → ((k : A) → Memᴰ k l → f k ≡ false) → any_of f l ≡ false
  unfolding any_of
  none-all [] h = refl
  none-all (x ∷ l) h = rw (h x (Memᴰ.head refl)) (none-all l (λ k m. h k (Memᴰ.tail m)))

  pub any_members : (k l : List A) → ((x : A) → Memᴰ x k → Memᴰ x l) → ((x : A) → Memᴰ x l → Memᴰ x k) → any_of f k ≡ any_of f l
  any_members k l there back = by (any_of f k) (any_of f l) refl refl
    where
      by : (s t : Bool) → any_of f k ≡ s → any_of f l ≡ t → s ≡ t
      by true true e d = refl
      by false false e d = refl
      by true false e d = sym e ∙ none-all k (λ x m. none_of (there x m) d)
      by false true e d = sym (sym d ∙ none-all l (λ x m. none_of (back x m) e))
