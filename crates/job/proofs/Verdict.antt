-- The tests of `read_job` in their order. A test that is passed leaves the rest to decide, which is how the code goes;
-- and where a job is accepted, all were passed.
use Rattle.std.proofs.Common.{◌≡◌, refl, sym, ap, ◌∙◌, Bool, true, false, cond, List, ℕ, ◌≤◌, arith, ltb}
use borrow.Author.Tests.{ltb-false}
use Rattle.tree.specs.Limits.{most_terminals, most_keepouts}
use Rattle.job.specs.Job.{Job, Answer, refused, accepted, terminal_count, keepout_count, short, too_many, wrong_length, wrong_offset, wrong_mode, far_out, bad_keepout, job_of, read_job}
use Rattle.job.proofs.Any.{or_no}

pub pass : {t : Bool} (x y : Answer) → t ≡ false → cond t x y ≡ y
pass x y e = ap (λ (t : Bool). cond t x y) e

-- the answer of the tests from each on, where those before it are passed
module _ (b : List ℕ) where
  abbrev pub from_6 : Answer
  from_6 = cond (bad_keepout b) (refused 6) (accepted (job_of b))

  abbrev pub from_5 : Answer
  from_5 = cond (far_out b) (refused 5) from_6

  abbrev pub from_4 : Answer
  from_4 = cond (wrong_mode b) (refused 4) from_5

  abbrev pub from_3 : Answer
  from_3 = cond (wrong_offset b) (refused 3) from_4

  abbrev pub from_length : Answer
  from_length = cond (wrong_length b) (refused 1) from_3

  abbrev pub from_2 : Answer
  from_2 = cond (too_many b) (refused 2) from_length

-- ---- where no test refuses
pub record Passed (b : List ℕ) : Type 0 where
  pub few : too_many b ≡ false
  pub near : far_out b ≡ false
  pub valid : bad_keepout b ≡ false
  pub is : read_job b ≡ accepted (job_of b)

passes : (t : Bool) (n : ℕ) (y : Answer) {j : Job} → cond t (refused n) y ≡ accepted j → (t ≡ false) × (y ≡ accepted j)
passes false n y e = (refl, e)
passes true n y e = cc

pub passed : (b : List ℕ) {j : Job} → read_job b ≡ accepted j → Passed b
unfolding read_job
passed b e =
    let p1 = passes (short b) 1 (from_2 b) e in
    let p2 = passes (too_many b) 2 (from_length b) p1.1 in
    let pl = passes (wrong_length b) 1 (from_3 b) p2.1 in
    let p3 = passes (wrong_offset b) 3 (from_4 b) pl.1 in
    let p4 = passes (wrong_mode b) 4 (from_5 b) p3.1 in
    let p5 = passes (far_out b) 5 (from_6 b) p4.1 in
    let p6 = passes (bad_keepout b) 6 (accepted (job_of b)) p5.1 in
    record {
      few = p2.0;
      near = p5.0;
      valid = p6.0;
      is = e ∙ sym p6.1;
    }

-- what test 2 says of the counts
pub record Few (b : List ℕ) : Type 0 where
  pub terminals : terminal_count b ≤ most_terminals
  pub keepouts : keepout_count b ≤ most_keepouts

pub few_of : (b : List ℕ) → too_many b ≡ false → Few b
few_of b e =
    let h = or_no (ltb most_terminals (terminal_count b)) (ltb most_keepouts (keepout_count b)) e in
    record { terminals = ltb-false _ _ h.0; keepouts = ltb-false _ _ h.1 }
