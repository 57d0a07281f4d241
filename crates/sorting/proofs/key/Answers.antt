-- `sorting::key`: each part is below its place.
use Rattle.std.proofs.Common.{◌≡◌, ◌≤◌, ◌<◌, ℤ, pos, negsuc, nat_abs, ap, arith}
use Rattle.geometry.specs.Geometry.{gap}
use Rattle.geometry.specs.Signed.{In32, back, home}
use Rattle.geometry.specs.Laws.{dist-small}
use Rattle.tree.specs.Limits.{reach}
use Rattle.sorting.specs.Keys.{least, part, key_of}
use Rattle.sorting.proofs.Keys.{part_small}
use Rattle.sorting.proofs.key.Goals as goal

fits : (z : ℤ) → nat_abs z ≤ reach → In32 z
fits (pos n) h = record { sfits = omega arith }
fits (negsuc n) h = record { sfits = omega arith }

-- a coordinate is read back from a local's bits before it is measured
measured : (z : ℤ) → nat_abs z ≤ reach → gap (back z) least ≡ gap z least
measured z h = ap (λ (x : ℤ). gap x least) (home (fits z h))

below : (z : ℤ) → nat_abs z ≤ reach → gap (back z) least < part
below z h = omega (arith, measured z h, part_small z h)

pub overflow_mul-result : goal.overflow_mul-result
overflow_mul-result c = omega (arith, dist-small c.requires.0 c.requires.1)

pub overflow_add-result : goal.overflow_add-result
overflow_add-result c = omega (arith, dist-small c.requires.0 c.requires.1, below)

pub overflow_mul-result-2 : goal.overflow_mul-result-2
overflow_mul-result-2 c = omega (arith, dist-small c.requires.0 c.requires.1, below)

pub overflow_add-result-2 : goal.overflow_add-result-2
overflow_add-result-2 c = omega (arith, dist-small c.requires.0 c.requires.1, below)

-- the search finds this too, but refuses a wrong body only by a limit of its own
pub returns : goal.returns
unfolding key_of
returns c = omega (arith, measured)
