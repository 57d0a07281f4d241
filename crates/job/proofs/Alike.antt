-- Jobs alike but for order are read alike. The tests that are left after 1 to 3 give both the same: test 4 is of equal bytes,
-- test 5 of terminals that stand there as often, which a fold with commuting steps cannot tell apart, and test 6 of the same keepouts.
use Rattle.std.proofs.Common.{◌≡◌, refl, sym, ap, subst, ◌∙◌, Bool, true, false, ◌||◌, ◌&&◌, cond, List, [], ◌∷◌, ℕ, ltb}
use mathlib.Core.List.{foldr}
use Rattle.geometry.specs.declared.Point.{Point}
use Rattle.tree.specs.Search.{any_of}
use Rattle.tree.specs.Route.{SameTerminals}
use Rattle.tree.proofs.Order.{same_fold}
use Rattle.job.specs.Job.{Answer, refused, accepted, nonzero, outside, invalid_keepout, wrong_mode, far_out, bad_keepout, job_of, read_job, terminals_of, keepouts_in, mode_of}
use Rattle.job.specs.Alike.{PassesTo3, AlikeButOrder, SameReading}
use Rattle.job.proofs.Any.{any_members}
use Rattle.job.proofs.Verdict.{pass, from_4}

-- ---- a test of any of the terminals depends on how often each stands there
module _ (f : Point → Bool) where
  swap : (p q : Point) (r : Bool) → (f p || (f q || r)) ≡ (f q || (f p || r))
  swap p q r = by (f p) (f q)
    where
      by : (x y : Bool) → (x || (y || r)) ≡ (y || (x || r))
      by true true = refl
      by true false = refl
      by false true = refl
      by false false = refl

  any_fold : (l : List Point) → any_of f l ≡ foldr (λ p r. f p || r) false l
  unfolding any_of
  any_fold [] = refl
  any_fold (p ∷ l) = ap (λ (r : Bool). f p || r) (any_fold l)

  any_often : (ts us : List Point) → SameTerminals ts us → any_of f ts ≡ any_of f us
  any_often ts us h = any_fold ts ∙ same_fold (λ p r. f p || r) false swap ts us h ∙ sym (any_fold us)

-- where tests 1 to 3 are passed, those from 4 on decide
after_3 : (b : List ℕ) → PassesTo3 b → read_job b ≡ from_4 b
unfolding read_job
after_3 b h = pass _ _ h.long ∙ pass _ _ h.few ∙ pass _ _ h.whole ∙ pass _ _ h.offsets

module _ (a b : List ℕ) (h : AlikeButOrder a b) where
  mode_test : wrong_mode a ≡ wrong_mode b
  mode_test =
      λ i. ltb 2 (h.mode i) || (any_of nonzero (h.spare i) || (ltb (h.mode i) 2 && nonzero (h.multiplier i)))

  far_test : far_out a ≡ far_out b
  far_test = λ i. outside (h.source i) || any_often outside (terminals_of a) (terminals_of b) h.terminals i

  keepout_test : bad_keepout a ≡ bad_keepout b
  keepout_test = any_members invalid_keepout (keepouts_in a) (keepouts_in b) (λ k m. h.keepouts.there m) (λ k m. h.keepouts.back m)

  -- the tests from 4 on, by what they say
  abbrev tests : List ℕ → Bool → Bool → Bool → Answer
  tests d mode far keepout = cond mode (refused 4) (cond far (refused 5) (cond keepout (refused 6) (accepted (job_of d))))

  rest : (mode far keepout : Bool) → SameReading (tests a mode far keepout) (tests b mode far keepout)
  rest true far keepout = refl
  rest false true keepout = refl
  rest false false true = refl
  rest false false false =
      record { mode = λ i. mode_of (h.mode i) (h.multiplier i); source = h.source; terminals = h.terminals; keepouts = h.keepouts }

  -- the same refusal, or jobs that differ in order and repetition alone
  pub read_alike : SameReading (read_job a) (read_job b)
  read_alike =
      let left : tests a (wrong_mode a) (far_out a) (bad_keepout a) ≡ read_job a = sym (after_3 a h.first) in
      let right : tests b (wrong_mode a) (far_out a) (bad_keepout a) ≡ read_job b =
      (λ i. tests b (mode_test i) (far_test i) (keepout_test i)) ∙ sym (after_3 b h.second) in
      subst (λ (x : Answer). SameReading x (read_job b)) left (subst (SameReading (tests a (wrong_mode a) (far_out a) (bad_keepout a))) right (rest (wrong_mode a) (far_out a) (bad_keepout a)))
