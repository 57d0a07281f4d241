-- A job in memory. The columns that the code reads, of numbers a stride apart, are those of `packed`;
-- and what stands in memory gives the job's terminals and keepouts again.
use Rattle.std.proofs.Common.{◌≡◌, refl, sym, ap, ◌∙◌, List, [], ◌∷◌, ◌++◌, ℕ, zero, suc, ◌+◌, ◌-◌, ◌*◌, ◌≤◌, arith, length, take, drop, replicate, length-append, take_at, ℤ, pos}
use Rattle.std.proofs.Math.ListN.{length-replicate, length-map}
use Rattle.geometry.specs.declared.Point.{Point}
use Rattle.geometry.specs.declared.Rectangle.{Rectangle}
use Rattle.wire.specs.Fields.{int32}
use Rattle.tree.specs.Memory.{points_of, keepouts_of}
use Rattle.job.specs.Layout.{row, header_size, terminal_size, keepout_size, keepouts_at}
use Rattle.job.specs.Job.{Job, point_from, rectangle_from, terminal_count, keepout_count, terminals_of, keepouts_in}
use Rattle.job.specs.Reading.{filled, xcoords, ycoords, flat, packed, unpacked}
use Rattle.job.proofs.Row.{row-length, row-map, row_shift}

-- ---- what the code reads
-- l is a column of zeros, its start written over
module _ (m : ℕ) (b : List ℕ) (w at n : ℕ) {l : List ℤ} where
  pub column_read : l ≡ row (int32 b) w at n ++ drop n (replicate m (pos 0)) → n ≤ m → l ≡ filled m (row (int32 b) w at n)
  column_read e h =
      e ∙ ap (λ (r : List ℤ). row (int32 b) w at n ++ r) (zeros n m h)
      ∙ ap (λ (k : ℕ). row (int32 b) w at n ++ replicate (m - k) (pos 0)) (sym (row-length (int32 b) w at n))
    where
      zeros : (n m : ℕ) → n ≤ m → drop n (replicate m (pos 0)) ≡ replicate (m - n) (pos 0)
      zeros zero m h = let e : m ≡ m - 0 = omega arith in ap (λ (k : ℕ). replicate k (pos 0)) e
      zeros (suc n) zero h = absurd (omega arith)
      zeros (suc n) (suc m) h = let e : m - n ≡ suc m - suc n = omega arith in zeros n m (omega arith) ∙ ap (λ (k : ℕ). replicate k (pos 0)) e

module _ (b : List ℕ) where
  pub terminals-length : length (terminals_of b) ≡ terminal_count b
  terminals-length = row-length (point_from b) terminal_size header_size (terminal_count b)

  pub keepouts-length : length (keepouts_in b) ≡ keepout_count b
  keepouts-length = row-length (rectangle_from b) keepout_size (keepouts_at (terminal_count b)) (keepout_count b)

  pub xs_read : row (int32 b) terminal_size header_size (terminal_count b) ≡ xcoords (terminals_of b)
  xs_read = sym (row-map (point_from b) terminal_size (λ p. p.xcoord) header_size (terminal_count b))

  pub ys_read : row (int32 b) terminal_size (header_size + 4) (terminal_count b) ≡ ycoords (terminals_of b)
  ys_read =
      sym (row-map (point_from b) terminal_size (λ p. p.ycoord) header_size (terminal_count b) ∙ row_shift (int32 b) terminal_size 4 header_size (terminal_count b))

  -- n keepouts are 4 n numbers
  flat_read : (at n : ℕ) → row (int32 b) 4 at (4 * n) ≡ flat (row (rectangle_from b) keepout_size at n)
  unfolding flat row
  flat_read at zero = refl
  flat_read at (suc n) =
      let four : 4 * suc n ≡ suc (suc (suc (suc (4 * n)))) = omega arith in
      let e8 : at + 4 + 4 ≡ at + 8 = omega arith in
      let e12 : at + 4 + 4 + 4 ≡ at + 8 + 4 = omega arith in
      let e16 : at + 4 + 4 + 4 + 4 ≡ at + 16 = omega arith in
      ap (row (int32 b) 4 at) four
      ∙ (λ i. int32 b at ∷ int32 b (at + 4) ∷ int32 b (e8 i) ∷ int32 b (e12 i) ∷ (ap (λ (k : ℕ). row (int32 b) 4 k (4 * n)) e16 ∙ flat_read (at + 16) n) i)

  pub keepouts_read : row (int32 b) 4 (keepouts_at (terminal_count b)) (4 * keepout_count b) ≡ flat (keepouts_in b)
  keepouts_read = flat_read (keepouts_at (terminal_count b)) (keepout_count b)

-- ---- the job again, from what stands in memory
pub points-back : (ps : List Point) → points_of (xcoords ps) (ycoords ps) ≡ ps
unfolding points_of
points-back [] = refl
points-back (p ∷ ps) = ap (λ (r : List Point). p ∷ r) (points-back ps)

pub rectangles_back : (ks : List Rectangle) → keepouts_of (flat ks) ≡ ks
unfolding flat keepouts_of
rectangles_back [] = refl
rectangles_back (k ∷ ks) = ap (λ (r : List Rectangle). k ∷ r) (rectangles_back ks)

pub flat-length : (ks : List Rectangle) → length (flat ks) ≡ 4 * length ks
unfolding flat
flat-length [] = refl
flat-length (k ∷ ks) = omega (arith, flat-length ks)

-- a column that has room is as long as it is to be
pub filled-length : (m : ℕ) (l : List ℤ) → length l ≤ m → length (filled m l) ≡ m
filled-length m l h = simp (length-append, length-replicate) (omega arith)

module _ (j : Job) where
  pub xs_back : take (packed j).terminal_count (packed j).terminal_xs ≡ xcoords j.terminals
  xs_back = take_at (xcoords j.terminals) _ _ (length-map j.terminals _)

  pub ys_back : take (packed j).terminal_count (packed j).terminal_ys ≡ ycoords j.terminals
  ys_back = take_at (ycoords j.terminals) _ _ (length-map j.terminals _)

  pub flat_back : take (4 * (packed j).keepout_count) (packed j).keepouts ≡ flat j.keepouts
  flat_back = take_at (flat j.keepouts) _ _ (flat-length j.keepouts)

  -- the points of the columns' first numbers are the terminals, and the rectangles of the first numbers the keepouts
  pub terminals-back : (unpacked (packed j)).terminals ≡ j.terminals
  terminals-back = (λ i. points_of (xs_back i) (ys_back i)) ∙ points-back j.terminals

  pub keepouts-back : (unpacked (packed j)).keepouts ≡ j.keepouts
  keepouts-back = ap keepouts_of flat_back ∙ rectangles_back j.keepouts

  pub job-back : unpacked (packed j) ≡ j
  job-back = λ i. record { mode = j.mode; source = j.source; terminals = terminals-back i; keepouts = keepouts-back i }
