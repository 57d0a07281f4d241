-- A job cut past the longest that passes test 2 gives the same output: its length is wrong either way, and test 2 reads the header alone.
use Rattle.std.proofs.Common.{◌≡◌, refl, sym, ap, ◌∙◌, ⊎_elim, Bool, true, false, cond, not, ◌||◌, List, ℕ, ◌+◌, ◌≤◌, ◌<◌, arith, length, take, take_all, get_or-take, length-take-le, ltb}
use borrow.Author.Tests.{le-ltb, ne_eqb}
use Rattle.wire.specs.Puts.{le-or}
use Rattle.wire.specs.Fields.{le16}
use Rattle.wire.specs.Laws.{le_ext}
use Rattle.tree.specs.Limits.{most_terminals, most_keepouts}
use Rattle.job.specs.Layout.{header_size, size_of}
use Rattle.job.specs.Job.{Answer, refused, terminal_count, keepout_count, short, too_many, wrong_length, read_job}
use Rattle.job.proofs.Verdict.{few_of, from_3, from_length, from_2}
use Rattle.route.specs.Routing.{routing_of, route_of}
use Rattle.planning.specs.Output.{output_for, output_of}

-- the longest job
abbrev pub most_job : ℕ
most_job = size_of most_terminals most_keepouts

-- what is longer is refused by test 2, or by its length
long : (b : List ℕ) → most_job < length b → read_job b ≡ cond (too_many b) (refused 2) (refused 1)
unfolding read_job
long b h =
    let s : short b ≡ false = le-ltb (length b) header_size (omega arith) in
    (λ i. cond (s i) (refused 1) (from_2 b)) ∙ by (too_many b) refl
  where
    by : (t : Bool) → too_many b ≡ t → cond t (refused 2) (from_length b) ≡ cond t (refused 2) (refused 1)
    by true e = refl
    by false e =
        let few = few_of b e in
        let w : wrong_length b ≡ true = ap not (ne_eqb (length b) (size_of (terminal_count b) (keepout_count b)) (λ z. omega arith)) in
        λ i. cond (w i) (refused 1) (from_3 b)

module _ (n : ℕ) (b : List ℕ) (h : most_job < n) where
  field_cut : (at : ℕ) → at + 2 ≤ n → le16 (take n b) at ≡ le16 b at
  field_cut at g = le_ext 2 (take n b) b at at (λ i l. get_or-take n b (at + i) 0 (omega arith))

  job_cut : read_job (take n b) ≡ read_job b
  job_cut = ⊎_elim (λ g. ap read_job (take_all n b g)) cut (le-or (length b) n)
    where
      cut : n ≤ length b → read_job (take n b) ≡ read_job b
      cut g =
          let l : length (take n b) ≡ n = length-take-le n b g in
          let t : terminal_count (take n b) ≡ terminal_count b = field_cut 0 (omega arith) in
          let k : keepout_count (take n b) ≡ keepout_count b = field_cut 2 (omega arith) in
          long (take n b) (omega arith) ∙ (λ i. cond (ltb most_terminals (t i) || ltb most_keepouts (k i)) (refused 2) (refused 1)) ∙ sym (long b (omega arith))

  pub output_cut : output_of (take n b) ≡ output_of b
  unfolding output_of route_of
  output_cut = ap (λ (a : Answer). output_for (routing_of a)) job_cut
