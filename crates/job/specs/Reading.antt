-- A job in memory, and what `read_job` gives for each answer. Definitions only.
use Rattle.std.specs.Prelude.{◌≡◌, ℕ, Result, Ok, Err, ◌-◌, ◌*◌, List, [], ◌∷◌, ◌++◌, map, length, take, replicate, ℤ, pos}
use Rattle.geometry.specs.declared.Point.{Point}
use Rattle.geometry.specs.declared.Rectangle.{Rectangle}
use Rattle.tree.specs.Limits.{most_terminals, most_keepouts}
use Rattle.tree.specs.Memory.{points_of, keepouts_of}
use Rattle.job.specs.Job.{Job, Answer, refused, accepted, job_of, read_job}
use Rattle.job.specs.declared.RoutingJob.{RoutingJob}
use Rattle.refusal.specs.declared.Refusal.{Refusal}
use Rattle.refusal.specs.Refusals.{number_of}

-- ---- points in two columns, rectangles in one
abbrev pub xcoords : List Point → List ℤ
xcoords = map (λ (p : Point). p.xcoord)

abbrev pub ycoords : List Point → List ℤ
ycoords = map (λ (p : Point). p.ycoord)

-- four numbers each: lower x, upper x, lower y, upper y
unfoldable pub flat : List Rectangle → List ℤ
flat [] = []
flat (k ∷ ks) = k.xcoord.lb ∷ k.xcoord.ub ∷ k.ycoord.lb ∷ k.ycoord.ub ∷ flat ks

-- ---- the job in memory, and back
-- numbers, filled up with 0 to a length
abbrev pub filled : ℕ → List ℤ → List ℤ
filled n l = l ++ replicate (n - length l) (pos 0)

abbrev pub packed : Job → RoutingJob
packed j =
    record {
      mode = j.mode;
      source = j.source;
      terminal_xs = filled most_terminals (xcoords j.terminals);
      terminal_ys = filled most_terminals (ycoords j.terminals);
      terminal_count = length j.terminals;
      keepouts = filled (4 * most_keepouts) (flat j.keepouts);
      keepout_count = length j.keepouts;
    }

abbrev pub unpacked : RoutingJob → Job
unpacked r =
    record {
      mode = r.mode;
      source = r.source;
      terminals = points_of (take r.terminal_count r.terminal_xs) (take r.terminal_count r.terminal_ys);
      keepouts = keepouts_of (take (4 * r.keepout_count) r.keepouts);
    }

-- ---- the answer
-- "A refusal gives its number"; else there is the job
abbrev pub answer_in : Result RoutingJob Refusal → Answer
answer_in (Err e) = refused (number_of e)
answer_in (Ok r) = accepted (unpacked r)

-- what the tests say of a file: the first refusal, or that it is accepted
abbrev pub Tested : List ℕ → Result (Unit {0}) Refusal → Type 0
Tested b (Err e) = read_job b ≡ refused (number_of e)
Tested b (Ok u) = read_job b ≡ accepted (job_of b)
