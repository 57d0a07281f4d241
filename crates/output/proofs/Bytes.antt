-- Bytes at the start of a buffer.
use Rattle.std.proofs.Common.{◌≡◌, ap, ◌∙◌, List, ◌++◌, ℕ, ◌+◌, ◌≤◌, arith, length, take, drop}
use Rattle.std.proofs.Math.Seq.{take-append_seam}
use Rattle.wire.specs.Puts.{Puts, puts_room}

pub put_first : {xs out out' : List ℕ} {n : ℕ} → Puts out 0 xs out' n → length xs ≤ length out → (n ≡ length xs) × (take (length xs) out' ≡ xs)
put_first {xs} {out} p h =
    let w = puts_room p (omega arith) in
    (omega (arith, w.1), ap (take (length xs)) w.0 ∙ take-append_seam xs (drop (0 + length xs) out))
