-- A signed parameter stands in a call as what is read back from its bits. These laws bring shapes of such numbers home to the numbers.
-- Assumes nothing.
use Rattle.std.proofs.Common.{◌≡◌, ℤ}
use Rattle.geometry.specs.Signed.{In32, back, home}
use Rattle.leaf_calls.specs.Shapes.{point_of, rectangle_of}

pub point-home : {x y : ℤ} → In32 x → In32 y → point_of (back x) (back y) ≡ point_of x y
point-home f g i = point_of (home f i) (home g i)

pub rectangle_home : {a b c d : ℤ} → In32 a → In32 b → In32 c → In32 d → rectangle_of (back a) (back b) (back c) (back d) ≡ rectangle_of a b c d
rectangle_home e f g h i = rectangle_of (home e i) (home f i) (home g i) (home h i)
