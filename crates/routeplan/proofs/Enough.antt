-- What is read of the input is enough: the output is that of the whole.
use Rattle.std.proofs.Common.{◌≡◌, List, ℕ, arith, take}
use Rattle.planning.specs.Output.{output_of}
use Rattle.planning.proofs.Cut.{output_cut}
use Rattle.routeplan.specs.Input.{most_read}

pub enough : (input : List ℕ) → output_of (take most_read input) ≡ output_of input
enough input = output_cut most_read input (omega arith)
