-- What `routeplan` writes, for jobs given as bytes: one list, of what the definition gives beside what document 01 states.
use Rattle.std.specs.Prelude.{◌≡◌, List, [], ◌∷◌, ◌++◌, map, ℕ}
use Rattle.decimal.specs.Text.{bytes}
use Rattle.wire.specs.Fields.{le_bytes}
use Rattle.planning.specs.Output.{output_of}

pub record Sample : Type 0 where
  pub job : List ℕ
  pub stated : List ℕ

abbrev one : ℕ
one = 0x3ff0_0000_0000_0000

-- a header: T, K, the two offsets, mode 2 with three spare bytes, the multiplier 1, and the source (0, 0)
abbrev header : ℕ → ℕ → ℕ → List ℕ
header t k at = le_bytes 2 t ++ le_bytes 2 k ++ le_bytes 4 32 ++ le_bytes 4 at ++ (2 ∷ 0 ∷ 0 ∷ 0 ∷ []) ++ le_bytes 8 one ++ le_bytes 4 0 ++ le_bytes 4 0

-- x, y of a terminal
abbrev terminal : ℕ → ℕ → List ℕ
terminal x y = le_bytes 4 x ++ le_bytes 4 y

unfoldable pub samples : List Sample
samples =
    -- M6, "terminals (10, 2), (4, 6), by `routeplan`, whole"
    record {
      job = header 2 0 48 ++ terminal 10 2 ++ terminal 4 6;
      stated = bytes "Source(source, (0, 0))\n  Steiner(steiner_1, (4, 2))\n    Terminal(terminal_1, (4, 6))\n    Terminal(terminal_2, (10, 2))\nallowed 12 farthest 12 total 16 worst 12\n";
    }
    -- "under 32 bytes"
    ∷ record { job = []; stated = bytes "refused 1\n" }
    -- "121 gives 2", before the length is looked at
    ∷ record { job = header 121 0 1000; stated = bytes "refused 2\n" }
    -- "1000001 gives 5"
    ∷ record { job = header 1 0 40 ++ terminal 1000001 0; stated = bytes "refused 5\n" }
    ∷ []

-- the list agrees with the definition, as a whole
abbrev pub Agree : List Sample → Type 0
Agree l = map (λ (s : Sample). output_of s.job) l ≡ map (λ (s : Sample). s.stated) l
