-- The lengths of the buffers that a script's calls are lent, beside that of the text. Definitions only.
use Rattle.std.specs.Prelude.{ℕ}

-- the largest that a call is lent: tree bytes, indices
abbrev pub most_bytes : ℕ
most_bytes = 4024

abbrev pub most_listed : ℕ
most_listed = 250

-- a text and its line
abbrev pub most_answer : ℕ
most_answer = 65552
