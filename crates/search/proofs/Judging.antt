-- The tests of one branch, and what is found with it, are those of the definitions: L ≤ allowed on signed numbers, the take.
use Rattle.std.proofs.Common.{ℕ, ◌+◌, ◌≤◌, ◌≡◌, refl, ap, sym, ◌∙◌, subst, Bool, true, false, ◌||◌, cond, arith, leb, T, ℤ, pos, negsuc, nat_abs, None, Some}
use lib.Signed.{le_z, lt_z}
use borrow.Author.Tests.{leb-true, le-ltb}
use mir.Syntax.{w32}
use mir.Val.{to_z, of_z}
use mir.ValLaws.{to_z-of_z}
use Rattle.geometry.specs.declared.Point.{Point}
use Rattle.geometry.specs.Geometry.{dist}
use Rattle.std.specs.Cmp.{first_so, second_so}
use Rattle.geometry.specs.Signed.{In32}
use Rattle.search.specs.declared.Join.{Join}
use Rattle.search.specs.declared.Best.{Best}
use Rattle.search.specs.declared.Query.{Query}
use Rattle.search.specs.declared.NodeView.{NodeView}
use Rattle.search.specs.Branch.{judge, take_it, join_at, run_to}
use Rattle.search.specs.Thin.{is_past, judged_at}

-- ---- L ≤ allowed
abs-le : (l : ℕ) (z : ℤ) → lt_z z (pos 0) ≡ false → leb l (nat_abs z) ≡ le_z (pos l) z
abs-le l (pos n) e = refl
abs-le l (negsuc n) e = absurd (subst T e tt)

module _ (z : ℤ) (f : In32 z) (e : lt_z (to_z w32 (of_z w32 z)) (pos 0) ≡ false) where
  home : to_z w32 (of_z w32 z) ≡ z
  home = to_z-of_z w32 z f

  pub allowed-yes : (l : ℕ) → leb l (nat_abs (to_z w32 (of_z w32 z))) ≡ le_z (pos l) z
  allowed-yes l = ap (λ (y : ℤ). leb l (nat_abs y)) home ∙ abs-le l z (rw home at e)

-- ---- the take rule
-- a branch within the allowance was found, at a distance of at most d
pub record Found (b : Best) (d : ℕ) : Type 0 where
  pub within : b.within ≡ true
  pub near : b.best ≤ d

pub found : (b : Best) (d : ℕ) → is_past b d ≡ true → Found b d
found b d e = record { within = first_so b.within (leb b.best d) e; near = leb-true _ _ (second_so b.within (leb b.best d) e) }

-- then a branch at d or farther is not taken
pub takes_none : (w : Bool) (D L limit d : ℕ) (b : Best) → Found b d → d ≤ D → take_it w D L limit b ≡ false
takes_none true D L limit d b f h = rw (f.within, le-ltb D b.best (omega (arith, f.near)))
takes_none false D L limit d b f h = rw f.within

-- ---- the judge
module _ (a : Query) (P C : NodeView) (n : Point) (b : Best) (d e : ℕ) (w t : Bool)
    (hd : d ≡ dist n a.point) (he : e ≡ dist P.point n) (hw : w ≡ le_z (pos (P.path + e + d)) a.allowed)
    (ht : t ≡ take_it w d (P.path + e + d) a.limit b) where
  is_path : run_to a.point P n ≡ P.path + e + d
  is_path = rw (hd, he)

  is_within : le_z (pos (run_to a.point P n)) a.allowed ≡ w
  is_within = ap (λ (l : ℕ). le_z (pos l) a.allowed) is_path ∙ sym hw

  is_taken_lem : take_it (le_z (pos (run_to a.point P n)) a.allowed) (dist n a.point) (run_to a.point P n) a.limit b ≡ t
  is_taken_lem = (λ i. take_it (is_within i) (sym hd i) (is_path i) a.limit b) ∙ sym ht

  judge-yes : (j : Join) (v : Bool) → t ≡ true → j ≡ join_at n P C → v ≡ w || b.within → record { join = j; best = d; within = v } ≡ judge a P C n b
  unfolding judge
  judge-yes j v et ej ev = rw (is_taken_lem, et) (λ i. record { join = ej i; best = hd i; within = (ev ∙ ap (λ (x : Bool). x || b.within) (sym is_within)) i })

  when : {s : Bool} → t ≡ s → cond s (Some (judge a P C n b)) None ≡ judged_at a P C b n
  when et = λ i. cond ((sym et ∙ sym is_taken_lem) i) (Some (judge a P C n b)) None

  pub judged-yes : (j : Join) (v : Bool) → t ≡ true → j ≡ join_at n P C → v ≡ w || b.within
      → Some (record { join = j; best = d; within = v }) ≡ judged_at a P C b n
  judged-yes j v et ej ev = ap Some (judge-yes j v et ej ev) ∙ when et

  pub judged_no : t ≡ false → None ≡ judged_at a P C b n
  judged_no et = when et

-- a branch that is past what was found
pub judged-past : (a : Query) (P C : NodeView) (n : Point) (b : Best) (d : ℕ) → d ≡ dist n a.point → is_past b d ≡ true → None ≡ judged_at a P C b n
judged-past a P C n b d hd e =
    judged_no a P C n b d (dist P.point n) _ _ hd refl refl refl
    (takes_none (le_z (pos (P.path + dist P.point n + d)) a.allowed) d (P.path + dist P.point n + d) a.limit d b (found b d e) (omega arith))
