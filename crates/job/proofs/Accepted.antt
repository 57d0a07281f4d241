-- What an accepted job has (`Accepted`), as a list and in memory.
-- The idea: where no test refuses, each test's negation holds, of every terminal and keepout.
use Rattle.std.proofs.Common.{◌≡◌, refl, sym, ap, subst, ◌∙◌, true, false, ◌&&◌, List, [], ◌∷◌, map, ℕ, zero, suc, ◌≤◌, ◌<◌, arith, length, get_or, ℤ, pos, negsuc, nat_abs, neg_ℤ, leb}
use Rattle.std.proofs.Math.ListN.{length-map, get_or-append}
use lib.Signed.{le_z}
use mathlib.Core.List.{Memᴰ}
use borrow.Author.Tests.{leb-true, not-false}
use Rattle.geometry.specs.declared.Point.{Point}
use Rattle.geometry.specs.declared.Rectangle.{Rectangle}
use Rattle.geometry.specs.Geometry.{origin, invalid, contains, inside}
use Rattle.std.specs.Cmp.{first_so, second_so}
use Rattle.geometry.specs.Signed.{no_way}
use Rattle.geometry.specs.Laws.{Within}
use Rattle.tree.specs.Limits.{reach, most_terminals}
use Rattle.tree.specs.Memory.{point_at}
use Rattle.tree.specs.Search.{any_of}
use Rattle.job.specs.Job.{Job, accepted, coordinates, outside, invalid_keepout, terminals_of, source_of, job_of, read_job}
use Rattle.job.specs.Reading.{filled, packed}
use Rattle.job.specs.Accepted.{Valid, Accepted}
use Rattle.job.proofs.Any.{or_no, none_of}
use Rattle.job.proofs.Verdict.{passed, few_of}
use Rattle.job.proofs.Packing.{terminals-length, keepouts-length}

-- ---- one point, one keepout
near : (M : ℕ) (z : ℤ) → inside (record { lb = neg_ℤ (pos M); ub = pos M }) z ≡ true → nat_abs z ≤ M
unfolding inside
near M (pos n) e = leb-true n M (second_so (le_z (neg_ℤ (pos M)) (pos n)) (leb n M) e)
near zero (negsuc n) e = no_way (first_so false true e)
near (suc m) (negsuc n) e = omega (arith, leb-true n m (first_so (leb n m) true e))

pub within : (p : Point) → outside p ≡ false → Within reach p
unfolding outside contains
within p e =
    let x = inside coordinates p.xcoord in
    let y = inside coordinates p.ycoord in
    let h = not-false (x && y) e in
    record { xcoord = near reach p.xcoord (first_so x y h); ycoord = near reach p.ycoord (second_so x y h) }

valid : (k : Rectangle) → invalid_keepout k ≡ false → Valid k
unfolding invalid_keepout
valid k e = let h = or_no (invalid k.xcoord) (invalid k.ycoord) e in record { xcoord = h.0; ycoord = h.1 }

-- ---- the job
accepted_of : (b : List ℕ) {j : Job} → read_job b ≡ accepted j → Accepted (job_of b)
accepted_of b e =
    let p = passed b e in
    let few = few_of b p.few in
    let far = or_no (outside (source_of b)) (any_of outside (terminals_of b)) p.near in
    record {
      few-terminals = omega (arith, terminals-length b);
      few-keepouts = omega (arith, keepouts-length b);
      source = within (source_of b) far.0;
      terminals = λ m. within _ (none_of outside m far.1);
      keepouts = λ m. valid _ (none_of invalid_keepout m p.valid);
    }

-- every job that is read
pub accepted-job : (b : List ℕ) {j : Job} → read_job b ≡ accepted j → Accepted j
accepted-job b {j} e =
    let same : job_of b ≡ j = same-job (sym (passed b e).is ∙ e) in
    subst Accepted same (accepted_of b e)
  where
    same-job : {k l : Job} → accepted k ≡ accepted l → k ≡ l
    same-job h = cc

-- ---- the job in memory
-- a number of a column that was filled up
get_or-filled : (m : ℕ) (g : Point → ℤ) (l : List Point) (i : ℕ) → i < length l → get_or (filled m (map g l)) i (pos 0) ≡ g (get_or l i origin)
get_or-filled m g l i h = get_or-append (map g l) _ (pos 0) i (omega (arith, length-map l g)) ∙ each l i h
  where
    each : (l : List Point) (i : ℕ) → i < length l → get_or (map g l) i (pos 0) ≡ g (get_or l i origin)
    each [] i h = absurd (omega arith)
    each (p ∷ l) zero h = refl
    each (p ∷ l) (suc i) h = each l i (omega arith)

member : (l : List Point) (i : ℕ) → i < length l → Memᴰ (get_or l i origin) l
member [] i h = absurd (omega arith)
member (p ∷ l) zero h = Memᴰ.head refl
member (p ∷ l) (suc i) h = Memᴰ.tail (member l i (omega arith))

-- the terminals of the job in memory, by index
pub near_in_memory : (j : Job) → Accepted j → (i : ℕ) → i < length j.terminals → Within reach (point_at (packed j).terminal_xs (packed j).terminal_ys i)
near_in_memory j a i h =
    let x = get_or-filled most_terminals (λ p. p.xcoord) j.terminals i h in
    let y = get_or-filled most_terminals (λ p. p.ycoord) j.terminals i h in
    let w = a.terminals (member j.terminals i h) in
    record { xcoord = rw x w.xcoord; ycoord = rw y w.ycoord }
