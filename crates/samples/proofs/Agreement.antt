-- The samples agree with the definitions: both sides are computed.
use Rattle.std.proofs.Common.{refl}
use lib.Ieee.{of_bits, mul, of_int, to_signed}
use Rattle.geometry.specs.Geometry.{gap, dist, min_z, max_z, clip, inside, contains, covers, blocks, same}
use Rattle.allowance.specs.Allowance.{product, half_up, rounded, allowed_of}
use Rattle.tree.specs.Tree.{node_at, change, without, replace_last, sum_to}
use Rattle.tree.specs.Search.{any_of, stops, blocked, takes, judge, examine, branches, walk, find}
use Rattle.tree.specs.Route.{ordered, place, attach, joined, insert, inserts}
use Rattle.samples.specs.Samples.{samples, node_figures, Agree}

pub samples-agree : Agree samples
unfolding samples node_figures gap dist min_z max_z clip inside contains covers blocks same node_at change without replace_last sum_to any_of stops blocked takes judge examine branches walk find ordered place attach joined insert inserts of_bits mul of_int to_signed product half_up rounded allowed_of
samples-agree = refl
