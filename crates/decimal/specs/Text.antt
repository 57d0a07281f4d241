-- A quoted text as its bytes, for definitions and samples. Definitions only.
use Rattle.std.specs.Prelude.{List, [], ◌∷◌, ℕ}
use Prim.Native.Char.{code}
use Prim.Native.String.{String, [] as none, ◌∷◌ as ◌before◌}

abbrev pub bytes : String → List ℕ
bytes none = []
bytes (c before s) = code c ∷ bytes s
