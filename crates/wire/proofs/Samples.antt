-- Samples of the definitions, each by computing both sides.
use Rattle.std.proofs.Common.{◌≡◌, refl, [], ◌∷◌, pos, negsuc}
use Rattle.wire.specs.Fields.{le, le32, le64, int32, twos32, le_bytes, int32_bytes, bits32}

-- 0x04030201, and the last two bytes with 0 past the end
low_first : le32 (1 ∷ 2 ∷ 3 ∷ 4 ∷ []) 0 ≡ 67305985
unfolding le
low_first = refl

at_the_end : le32 (1 ∷ 2 ∷ 3 ∷ 4 ∷ []) 2 ≡ 1027
unfolding le
at_the_end = refl

-- the bits of 1.5, an f64
eight : le64 (0 ∷ 0 ∷ 0 ∷ 0 ∷ 0 ∷ 0 ∷ 248 ∷ 63 ∷ []) 0 ≡ 4609434218613702656
unfolding le
eight = refl

-- -1, and the least and the greatest i32
minus_one : int32 (255 ∷ 255 ∷ 255 ∷ 255 ∷ []) 0 ≡ negsuc 0
unfolding le twos32
minus_one = refl

least : int32 (0 ∷ 0 ∷ 0 ∷ 128 ∷ []) 0 ≡ negsuc 2147483647
unfolding le twos32
least = refl

greatest : int32 (255 ∷ 255 ∷ 255 ∷ 127 ∷ []) 0 ≡ pos 2147483647
unfolding le twos32
greatest = refl

-- 258, and -2
two_bytes : le_bytes 2 258 ≡ 2 ∷ 1 ∷ []
unfolding le_bytes
two_bytes = refl

minus_two : int32_bytes (negsuc 1) ≡ 254 ∷ 255 ∷ 255 ∷ 255 ∷ []
unfolding le_bytes bits32
minus_two = refl
