-- `decimal::write_i32`: where there is room, what was put is the whole text.
use Rattle.std.proofs.Common.{to_z-of_z, arith}
use Rattle.decimal.proofs.Whole.{written, stored}
use Rattle.decimal.proofs.write_i32.Goals as goal

pub returns : goal.returns
returns c =
    let home = to_z-of_z c.ranges.z in
    let size = rw home at c.len_i32.ensures in
    let put = rw home at c.put_i32.ensures in
    record { value = written _ _ _ (omega arith) put; out_after = stored _ _ _ (omega arith) put }
