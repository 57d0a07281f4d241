-- What was read of an input. Definitions only. `old` and `new` are the bytes that the source has left before and after, where it tells them; of
-- a source that does not, these clauses hold of any. What one read does is std's `ReadConsumes` and `ReadsAtMost`.
use Rattle.std.specs.Prelude.{ℕ, List, Option, Result, ◌≤◌, ◌<◌, length, take, IfOk}
use Rattle.std.specs.Io.KnownBytes.{Consumes, IsAtEnd}

-- the source's next bytes lie at the start of the buffer, and do not fill it only where it has no more
abbrev pub InputIn : {E : Type 0} → Option (List ℕ) → Option (List ℕ) → List ℕ → Result ℕ E → Type 0
InputIn old new buf r = IfOk r (λ n. (n ≤ length buf) × Consumes old new (take n buf) × (n < length buf → IsAtEnd new))
