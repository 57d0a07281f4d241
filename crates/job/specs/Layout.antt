-- The places of a job's fields (document 01, "Job header"). Definitions only.
use Rattle.std.specs.Prelude.{ℕ, zero, suc, ◌+◌, ◌*◌, List, [], ◌∷◌}

-- "Job header, 32 bytes"
abbrev pub header_size : ℕ
header_size = 32

-- "A terminal is x, y i32"
abbrev pub terminal_size : ℕ
terminal_size = 8

-- "a keepout is lower x, upper x, lower y, upper y i32"
abbrev pub keepout_size : ℕ
keepout_size = 16

-- "keepouts' offset u32 (must be 32 + 8T)"
abbrev pub keepouts_at : ℕ → ℕ
keepouts_at t = header_size + terminal_size * t

-- "32 + 8T + 16K"
abbrev pub size_of : ℕ → ℕ → ℕ
size_of t k = keepouts_at t + keepout_size * k

-- n things side by side from a place on, each read by f and w bytes after the one before
unfoldable pub row : {A : Type 0} → (ℕ → A) → ℕ → ℕ → ℕ → List A
row f w at zero = []
row f w at (suc n) = f at ∷ row f w (at + w) n
