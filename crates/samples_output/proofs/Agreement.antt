-- The outputs agree with the definition: both sides are computed.
use Rattle.std.proofs.Common.{refl}
use lib.Ieee.{of_bits, mul, of_int, to_signed}
use Rattle.geometry.specs.Geometry.{gap, dist, min_z, max_z, clip, invalid, inside, contains, covers, blocks, same}
use Rattle.allowance.specs.Allowance.{product, half_up, rounded, allowed_of}
use Rattle.wire.specs.Fields.{le, twos32, le_bytes}
use Rattle.decimal.specs.Decimal.{digits, decimal_of, int_text}
use Rattle.tree.specs.Tree.{node_at, change, without, replace_last, sum_to}
use Rattle.tree.specs.Measures.{greatest, worst_below}
use Rattle.tree.specs.Search.{any_of, stops, blocked, takes, judge, examine, branches, walk, find}
use Rattle.tree.specs.Route.{ordered, place, attach, joined, insert, inserts}
use Rattle.job.specs.Layout.{row}
use Rattle.job.specs.Job.{mode_of, outside, invalid_keepout, read_job}
use Rattle.route.specs.Routing.{route_of}
use Rattle.text.specs.Text.{indent, head_of, line_of, each, text_from}
use Rattle.planning.specs.Output.{refusal_line, figures_line, tree_output, output_of}
use Rattle.samples_output.specs.Samples.{samples, Agree}

pub outputs_agree : Agree samples
unfolding samples gap dist min_z max_z clip invalid inside contains covers blocks same node_at change without replace_last sum_to greatest worst_below any_of stops blocked takes judge examine branches walk find ordered place attach joined insert inserts of_bits mul of_int to_signed product half_up rounded allowed_of le twos32 le_bytes digits decimal_of int_text row mode_of outside invalid_keepout read_job route_of indent head_of line_of each text_from refusal_line figures_line tree_output output_of
outputs_agree = refl
