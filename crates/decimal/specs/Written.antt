-- What `write_i32` answers and leaves. Document 01: "11, an output buffer shorter than what is to be written", and then "all lent bytes
-- are then as before"; "Success leaves bytes past the written ones unchanged." Definitions only.
use Rattle.std.specs.Prelude.{Bool, cond, List, ◌++◌, ℕ, ◌+◌, leb, ℤ, length, take, drop, Option, Some, None}
use Rattle.decimal.specs.Decimal.{int_text}

-- the place after the text of z at the place at
abbrev pub after : ℕ → ℤ → ℕ
after at z = at + length (int_text z)

-- the text fits whole into l
abbrev pub fits : List ℕ → ℕ → ℤ → Bool
fits l at z = leb (after at z) (length l)

unfoldable pub written_of : List ℕ → ℕ → ℤ → Option ℕ
written_of l at z = cond (fits l at z) (Some (after at z)) None

-- the rest of the buffer is as before
unfoldable pub buffer_after : List ℕ → ℕ → ℤ → List ℕ
buffer_after l at z = cond (fits l at z) (take at l ++ int_text z ++ drop (after at z) l) l
