-- `decimal::put_i32`: the sign, and then the magnitude's digits.
use Rattle.std.proofs.Common.{to_z-of_z}
use Rattle.decimal.proofs.Sign.{puts_minus}
use Rattle.decimal.proofs.put_i32.Goals as goal

pub returns-then-z-lt0 : goal.returns-then-z-lt0
returns-then-z-lt0 c =
    let home = to_z-of_z c.ranges.z in
    puts_minus _ _ (rw home at c.if-z-lt0.true) (rw home at c.unsigned_abs-m.ensures.value) c.put-p.ensures c.put_u32.ensures
