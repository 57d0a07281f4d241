-- `decimal::put_digits`: each turn takes the first digit of `rest` off.
use Rattle.wire.specs.Puts.{left_less, left-none}
use Rattle.decimal.proofs.FromFirst.{digit_step, digit_rest, padded-none}
use Rattle.decimal.proofs.put_digits.Goals as goal

pub loop-k-preserved : goal.loop-k-preserved
loop-k-preserved c =
    let u = c.power.ensures in
    let d = c.first_digit-digit.ensures in
    (digit_rest _ _ _ _ u d.1, left_less c.loop-k.invariant.1 (digit_step _ _ _ _ _ c.loop-k-test.true u d.0 d.1) c.put-p.ensures)

pub returns : goal.returns
returns c = left-none c.loop-k.invariant.1 (padded-none _ _ c.loop-k-test.false)
