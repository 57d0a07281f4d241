-- What is read of standard input. Definitions only.
use Rattle.std.specs.Prelude.{ℕ}

-- more than the longest job has
abbrev pub most_read : ℕ
most_read = 2048
