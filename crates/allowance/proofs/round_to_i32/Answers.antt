-- `allowance::round_to_i32`: a value that is no NaN is rounded by the fields of its pattern.
use Rattle.std.proofs.Common.{rules, ℕ, ◌^◌, ap, ◌∙◌, leb}
use lib.Ieee.{binary64, to_bits}
use mir.Syntax.{w32}
use mir.ValLaws.{to_z-of_z}
use Rattle.allowance.proofs.Clamp.{clamped}
use Rattle.allowance.proofs.Fields.{by_pattern}
use Rattle.allowance.proofs.round_to_i32.Goals as goal

pub returns : goal.returns
returns c =
    to_z-of_z w32 c.signed.result (record { sfits = c.signed.type_inv })
    ∙ c.signed.ensures
    ∙ ap (λ (n : ℕ). clamped (leb (2 ^ 63) (to_bits binary64 c.args.p)) n) c.magnitude-size.ensures
    ∙ by_pattern c.args.p (search rules) (search rules)
