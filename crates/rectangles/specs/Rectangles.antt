-- Rectangle records as flat numbers.
use Rattle.std.specs.Prelude.{ℕ, ◌+◌, ◌*◌, ◌≡◌, List, [], ◌∷◌, ◌++◌, length, take}
use Rattle.geometry.specs.declared.Rectangle.{Rectangle}
use Rattle.tree.specs.Limits.{most_keepouts}
use Rattle.tree.specs.Memory.{keepouts_of}
use Rattle.rectangles.specs.declared.Flat.{Flat}

-- how many there is room for: one more than an edit takes
abbrev pub room : ℕ
room = most_keepouts + 1

-- f has the rectangles ks, as far as there is room
pub record Gathers (ks : List Rectangle) (f : Flat) : Type 0 where
  pub is : keepouts_of (take (4 * f.count) f.bounds) ≡ take room ks
  pub count : f.count ≡ length (take room ks)
  pub long : length f.bounds ≡ 4 * room

-- r has one rectangle more than f, whatever f has
abbrev pub Adds : Flat → Rectangle → Flat → Type 0
Adds f k r = (ks : List Rectangle) → Gathers ks f → Gathers (ks ++ k ∷ []) r
