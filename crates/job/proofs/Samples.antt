-- Samples of the definitions at their edges, by computing both sides.
use Rattle.std.proofs.Common.{◌≡◌, refl, List, [], ◌∷◌, ◌++◌, map, ℕ, arith, ℤ, pos, negsuc, take}
use lib.Ieee.{binary64, of_bits}
use mathlib.Core.List.{Memᴰ}
use Rattle.geometry.specs.Geometry.{origin, invalid, inside, contains}
use Rattle.tree.specs.Search.{any_of}
use Rattle.tree.specs.Route.{times}
use Rattle.wire.specs.Fields.{le, twos32, le_bytes, bits32, int32_bytes}
use Rattle.job.specs.Layout.{row}
use Rattle.job.specs.Job.{Answer, refused, accepted, mode_of, outside, invalid_keepout, read_job}
use Rattle.job.specs.Alike.{AlikeButOrder}
use Rattle.job.specs.declared.Mode.TheVariants.{Constraints}

numbers : List ℤ → List ℕ
numbers [] = []
numbers (z ∷ zs) = int32_bytes z ++ numbers zs

-- a file: T, K, the two offsets, the mode, one of the spare bytes, the multiplier's bits; then numbers, the source's first
file : ℕ → ℕ → ℕ → ℕ → ℕ → ℕ → ℕ → List ℤ → List ℕ
file t k terminals keepouts mode spare bits zs =
    le_bytes 2 t ++ le_bytes 2 k ++ le_bytes 4 terminals ++ le_bytes 4 keepouts ++ (mode ∷ 0 ∷ spare ∷ 0 ∷ []) ++ le_bytes 8 bits ++ numbers zs

-- the bits of a NaN, of 1 and of -0
abbrev nan : ℕ
nan = 0x7ff8_0000_0000_0001

abbrev one : ℕ
one = 0x3ff0_0000_0000_0000

abbrev minus-zero : ℕ
minus-zero = 0x8000_0000_0000_0000

abbrev least : ℤ
least = negsuc 2147483647

abbrev greatest : ℤ
greatest = pos 2147483647

-- the least and the greatest coordinate
abbrev low : ℤ
low = negsuc 999999

abbrev high : ℤ
high = pos 1000000

-- the number of a refusal; 0 where there is none
abbrev refusal_number : Answer → ℕ
refusal_number (refused n) = n
refusal_number (accepted j) = 0

refusals : List (List ℕ) → List ℕ
refusals = map (λ (b : List ℕ). refusal_number (read_job b))

-- accepted: no terminals and no keepouts; any multiplier in mode 2; the farthest coordinates; a keepout's equal bounds, and its widest
passing : refusals
    (file 0 0 32 32 0 0 0 (pos 0 ∷ pos 0 ∷ [])
    ∷ file 0 0 32 32 2 0 nan (pos 0 ∷ pos 0 ∷ [])
    ∷ file 1 0 32 40 1 0 0 (low ∷ high ∷ high ∷ low ∷ [])
    ∷ file 0 2 32 32 2 0 one (pos 0 ∷ pos 0 ∷ pos 7 ∷ pos 7 ∷ low ∷ low ∷ least ∷ greatest ∷ least ∷ greatest ∷ [])
    ∷ [])
    ≡ 0 ∷ 0 ∷ 0 ∷ 0 ∷ []
unfolding read_job le twos32 le_bytes bits32 row any_of outside invalid_keepout invalid inside contains file numbers refusals
passing = refl

-- 1 and 2: 31 bytes, though T is 121; 121 terminals, or 65 keepouts, of which none is there; 120 terminals, of which none is there; a number too many
sizes : refusals
    (take 31 (file 121 0 32 32 0 0 0 (pos 0 ∷ pos 0 ∷ []))
    ∷ file 121 0 32 32 0 0 0 (pos 0 ∷ pos 0 ∷ [])
    ∷ file 0 65 32 32 0 0 0 (pos 0 ∷ pos 0 ∷ [])
    ∷ file 120 64 32 32 0 0 0 (pos 0 ∷ pos 0 ∷ [])
    ∷ file 0 0 33 32 0 0 0 (pos 0 ∷ pos 0 ∷ pos 0 ∷ [])
    ∷ [])
    ≡ 1 ∷ 2 ∷ 2 ∷ 1 ∷ 1 ∷ []
unfolding read_job le twos32 le_bytes bits32 row any_of outside invalid_keepout invalid inside contains file numbers refusals
sizes = refl

-- 3 to 6: the terminals' offset, and mode 3; the keepouts' offset; mode 3, and a far source; a spare byte; bits of -0 in mode 1;
-- a source and a terminal one too far, and a keepout's lower bound above its upper one; that bound alone
fields : refusals
    (file 0 0 33 32 3 0 0 (pos 0 ∷ pos 0 ∷ [])
    ∷ file 1 0 32 32 0 0 0 (pos 0 ∷ pos 0 ∷ pos 0 ∷ pos 0 ∷ [])
    ∷ file 0 0 32 32 3 0 0 (greatest ∷ pos 0 ∷ [])
    ∷ file 0 0 32 32 0 1 0 (pos 0 ∷ pos 0 ∷ [])
    ∷ file 0 0 32 32 1 0 minus-zero (pos 0 ∷ pos 0 ∷ [])
    ∷ file 0 1 32 32 0 0 0 (pos 0 ∷ pos 1000001 ∷ pos 1 ∷ pos 0 ∷ pos 0 ∷ pos 0 ∷ [])
    ∷ file 1 1 32 40 0 0 0 (pos 0 ∷ pos 0 ∷ negsuc 1000000 ∷ pos 0 ∷ pos 1 ∷ pos 0 ∷ pos 0 ∷ pos 0 ∷ [])
    ∷ file 1 1 32 40 0 0 0 (pos 0 ∷ pos 0 ∷ pos 0 ∷ pos 0 ∷ pos 0 ∷ pos 0 ∷ pos 1 ∷ pos 0 ∷ [])
    ∷ [])
    ≡ 3 ∷ 3 ∷ 4 ∷ 4 ∷ 4 ∷ 5 ∷ 5 ∷ 6 ∷ []
unfolding read_job le twos32 le_bytes bits32 row any_of outside invalid_keepout invalid inside contains file numbers refusals
fields = refl

-- ---- a job whole: sample M7
m7 : List ℕ
m7 = file 2 1 32 48 2 0 one (pos 0 ∷ pos 0 ∷ pos 10 ∷ pos 2 ∷ pos 4 ∷ pos 6 ∷ pos 2 ∷ pos 3 ∷ pos 0 ∷ pos 2 ∷ [])

whole : read_job m7
    ≡ accepted (record {
      mode = Constraints (of_bits binary64 one);
      source = origin;
      terminals = record { xcoord = pos 10; ycoord = pos 2 } ∷ record { xcoord = pos 4; ycoord = pos 6 } ∷ [];
      keepouts = record { xcoord = record { lb = pos 2; ub = pos 3 }; ycoord = record { lb = pos 0; ub = pos 2 } } ∷ [];
    })
unfolding read_job le twos32 le_bytes bits32 row any_of outside invalid_keepout invalid inside contains file numbers mode_of m7
whole = refl

-- ---- a job that is alike but for order: its terminals exchanged, its keepout twice
exchanged : List ℕ
exchanged =
    file 2 2 32 48 2 0 one (pos 0 ∷ pos 0 ∷ pos 4 ∷ pos 6 ∷ pos 10 ∷ pos 2 ∷ pos 2 ∷ pos 3 ∷ pos 0 ∷ pos 2 ∷ pos 2 ∷ pos 3 ∷ pos 0 ∷ pos 2 ∷ [])

once : {A : Type 0} {k x : A} → Memᴰ k (x ∷ x ∷ []) → Memᴰ k (x ∷ [])
once (Memᴰ.head e) = Memᴰ.head e
once (Memᴰ.tail m) = m

alike : AlikeButOrder m7 exchanged
unfolding le twos32 le_bytes bits32 row times file numbers m7 exchanged
alike =
    record {
      first = record { long = refl; few = refl; whole = refl; offsets = refl };
      second = record { long = refl; few = refl; whole = refl; offsets = refl };
      mode = refl;
      spare = refl;
      multiplier = refl;
      source = refl;
      terminals = λ p. omega arith;
      keepouts = record { there = λ m. Memᴰ.tail m; back = λ m. once m };
    }
