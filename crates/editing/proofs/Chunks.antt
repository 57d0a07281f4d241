-- `any` over chunks of four numbers: the keepouts that are left decide as all of them do, so a chunk that passes decides, and so does their end.
use Rattle.std.proofs.Common.{◌≡◌, refl, sym, subst, ◌∙◌, Bool, true, false, List, [], ◌∷◌, ℤ, Bor, Option, None, Some}
use denote.Param.Members.{Mut}
use Rattle.std.specs.Fn.{Called}
use Rattle.std.specs.Iterator.{Yields, YieldsThen}
use Rattle.std.specs.List.{FoldsTo}
use Rattle.std.specs.Option.{MatchOption}
use Rattle.std.specs.Slice.Iter.{chunks_exact_rest, chunks_exact_size, chunks_exact_steps}
use Rattle.geometry.specs.declared.Rectangle.{Rectangle}
use Rattle.tree.specs.Memory.{keepouts_of}
use Rattle.tree.specs.Search.{any_of}
use Rattle.search.specs.Branch.{keepout_at}
use Rattle.search.proofs.Keepouts.{Left, left_hit, left_next, left_none}

module _ {F : Type 0} {g : Mut F (Bor (List ℤ) × Unit {0}) Bool} (test : Rectangle → Bool) (l : List ℤ) (f : F)
    (yes : (x : Bor (List ℤ)) (q : F) → Called g f (x, tt) true q → test (keepout_at x.now 0) ≡ true)
    (no : (x : Bor (List ℤ)) (q : F) → Called g f (x, tt) false q → (q ≡ f) × (test (keepout_at x.now 0) ≡ false)) where
  left_after : (xs : List (Bor (List ℤ))) (s t : _) (j : F) → Left test l (chunks_exact_size s) (chunks_exact_rest s) → Yields chunks_exact_steps s xs t
      → FoldsTo (λ p x q. Called g p (x, tt) false q) f xs j → (j ≡ f) × Left test l (chunks_exact_size t) (chunks_exact_rest t)
  left_after [] s t j v y d = (sym d, subst (λ s. Left test l (chunks_exact_size s) (chunks_exact_rest s)) y v)
  left_after (x ∷ xs) s t j v y d =
      let n = no x d.0 d.1 in
      left_after xs _ t j (left_next v x.now (chunks_exact_rest y.0) y.1.1.0 y.1.1.1 refl refl n.1 y.1.0) y.2 (subst (λ p. FoldsTo (λ p x q. Called g p (x, tt) false q) p xs j) n.0 d.2)

  pub any_left : (s u : _) (r : Bool) → Left test l (chunks_exact_size s) (chunks_exact_rest s)
      → (xs : List (Bor (List ℤ))) × (o : Option (Bor (List ℤ))) × (j : F) × YieldsThen chunks_exact_steps s xs o u × FoldsTo (λ p x q. Called g p (x, tt) false q) f xs j × MatchOption o (r ≡ false) (λ x. (r ≡ true) × ((h : F) × Called g j (x, tt) true h))
      → r ≡ any_of test (keepouts_of l)
  any_left s u r v d = ends d.1 d.3.2 d.5
    where
      after : (d.2 ≡ f) × Left test l (chunks_exact_size d.3.0) (chunks_exact_rest d.3.0)
      after = left_after d.0 s _ d.2 v d.3.1 d.4

      ends : (o : Option (Bor (List ℤ))) → chunks_exact_steps d.3.0 o u → MatchOption o (r ≡ false) (λ x. (r ≡ true) × ((h : F) × Called g d.2 (x, tt) true h)) → r ≡ any_of test (keepouts_of l)
      ends None st m = m ∙ left_none after.1 st.1.0
      ends (Some x) st m =
          m.0 ∙ left_hit after.1 x.now (chunks_exact_rest u) st.1.0 st.1.1 refl refl (yes x m.1.0 (subst (λ k. Called g k (x, tt) true m.1.0) after.0 m.1.1))
