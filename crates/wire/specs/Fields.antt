-- Little-endian fields of a list of bytes. Definitions only.
-- "Multi-byte fields are little-endian; signed ones are two's complement."
use Rattle.std.specs.Prelude.{ℕ, zero, suc, ◌+◌, ◌-◌, ◌*◌, ◌/◌, ◌%◌, ◌^◌, ◌<◌, cond, List, [], ◌∷◌, get_or, ltb, ℤ, pos, negsuc}
use Rattle.std.proofs.Math.IntN.{sub_ℕ}

-- the byte at a place; 0 past the end
abbrev pub byte : List ℕ → ℕ → ℕ
byte b at = get_or b at 0

-- each element is a byte
pub record Bytes (b : List ℕ) : Type 0 where
  pub below : (i : ℕ) → byte b i < 256

-- the field of k bytes at a place: the low byte stands first
unfoldable pub le : ℕ → List ℕ → ℕ → ℕ
le zero b at = 0
le (suc k) b at = byte b at + 256 * le k b (at + 1)

-- a u16, a u32 and a u64
abbrev pub le16 : List ℕ → ℕ → ℕ
le16 = le 2

abbrev pub le32 : List ℕ → ℕ → ℕ
le32 = le 4

abbrev pub le64 : List ℕ → ℕ → ℕ
le64 = le 8

-- the number of 32 bits n in two's complement: n below 2 ^ 31, else n - 2 ^ 32
unfoldable pub twos32 : ℕ → ℤ
twos32 n = cond (ltb n (2 ^ 31)) (pos n) (sub_ℕ n (2 ^ 32))

-- an i32
abbrev pub int32 : List ℕ → ℕ → ℤ
int32 b at = twos32 (le32 b at)

-- v in k bytes, low byte first: what stands above them is left out
unfoldable pub le_bytes : ℕ → ℕ → List ℕ
le_bytes zero v = []
le_bytes (suc k) v = v % 256 ∷ le_bytes k (v / 256)

-- the 32 bits of a number from -2 ^ 31 to 2 ^ 31 - 1: z, or 2 ^ 32 + z below 0 (negsuc n is -(n + 1))
unfoldable pub bits32 : ℤ → ℕ
bits32 (pos n) = n
bits32 (negsuc n) = 2 ^ 32 - suc n

-- an i32's four bytes
abbrev pub int32_bytes : ℤ → List ℕ
int32_bytes z = le_bytes 4 (bits32 z)
