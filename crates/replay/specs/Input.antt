-- A buffer's length. Definitions only.
use Rattle.std.specs.Prelude.{ℕ}

-- more than any case of the input has
abbrev pub most_case : ℕ
most_case = 131072
