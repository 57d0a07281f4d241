-- Laws of fields: what a field depends on, its parts and its bound; what is written is read again, and nothing else changes; two's complement both ways.
-- The idea: a field is its k bytes (`le_ext`), so a law of one byte is one of every width. That a field is below its bound (`le_below`), gives its bytes
-- again (`le_bytes-bytes`), has parts (`le_split`, `le_bytes-split`), and that numbers and signed fields go both ways (`twos_fits`, `bits_twos`,
-- `int32_written`, `int32-past`) is what shows that the definitions are a format's. Of all these this crate's code needs `twos_of` and `bits_of`.
use Rattle.std.specs.Prelude.{◌≡◌, refl, Bool, true, false, cond, List, [], ◌∷◌, ◌++◌, ℕ, zero, suc, ◌+◌, ◌-◌, ◌*◌, ◌/◌, ◌%◌, ◌^◌, ◌≤◌, ◌<◌, length, take, drop, ℤ, pos, negsuc, ltb}
use Rattle.std.proofs.Common.{sym, ap, ◌∙◌, ⊎_elim, append_assoc, zero-add, add-zero, suc-add, add_assoc, mul_assoc, mod-lt, mod-eq_of_lt, arith, get_or-append-add, length-take-le, lt-ltb}
use Rattle.std.proofs.Math.Nat.{pow-succ', one-le-pow, div-add-mod, div-div-eq-div-mul, mod-mod_of_dvd, dvd-mul_right, add-mul-mod_self_left}
use Rattle.std.proofs.Math.ListN.{get_or-eq_default, get_or-append}
use Rattle.std.proofs.Math.IntN.{sub_ℕ}
use Rattle.std.specs.Int.{w32}
use mir.Val.{SFits, to_z, of_z, sel}
use mir.ValLaws.{to_z-of_z, of_z-to_z, of_z_fits, to_z-Fits}
use Rattle.wire.specs.Fields.{byte, Bytes, le, le_bytes, twos32, bits32, int32, int32_bytes}
use Rattle.wire.specs.Puts.{Puts, last_place, capped, le-or, puts_room}

-- ---- reading

-- a field is its k bytes: where these are equal, so are the fields
pub le_ext : (k : ℕ) (b c : List ℕ) (p q : ℕ) → ((i : ℕ) → i < k → byte b (p + i) ≡ byte c (q + i)) → le k b p ≡ le k c q
unfolding le
le_ext zero b c p q h = refl
le_ext (suc k) b c p q h =
    let first : byte b p ≡ byte c q = simp add-zero at (h 0 (omega arith)) in
    let rest : le k b (p + 1) ≡ le k c (q + 1) = le_ext k b c (p + 1) (q + 1) next in
    omega arith
  where
    next : (i : ℕ) → i < k → byte b (p + 1 + i) ≡ byte c (q + 1 + i)
    next i g =
        let e : p + 1 + i ≡ p + suc i = omega arith in
        let f : q + 1 + i ≡ q + suc i = omega arith in
        rw (e, f) (h (suc i) (omega arith))

-- past the end it is 0
pub le-past : (k : ℕ) (b : List ℕ) (at : ℕ) → length b ≤ at → le k b at ≡ 0
unfolding le
le-past zero b at h = refl
le-past (suc k) b at h = omega (arith, get_or-eq_default b 0 h, le-past k b (at + 1) (omega arith))

-- so a place that stopped at the largest usize reads as the place itself
pub le-up_to : (k : ℕ) (b : List ℕ) (at : ℕ) → length b ≤ last_place → le k b (capped at) ≡ le k b at
le-up_to k b at h = ⊎_elim here past (le-or at last_place)
  where
    here : at ≤ last_place → le k b (capped at) ≡ le k b at
    here g = let e : capped at ≡ at = omega arith in rw e

    past : last_place ≤ at → le k b (capped at) ≡ le k b at
    past g = le-past k b (capped at) (omega arith) ∙ sym (le-past k b at (omega arith))

-- its low j bytes, and above them the k others
pub le_split : (j k : ℕ) (b : List ℕ) (at : ℕ) → le (j + k) b at ≡ le j b at + 256 ^ j * le k b (at + j)
unfolding le
le_split zero k b at = rw (zero-add k, add-zero at) (omega arith)
le_split (suc j) k b at =
    let e : at + suc j ≡ at + 1 + j = omega arith in
    rw (suc-add j k, e, pow-succ' 256 j, mul_assoc) (omega (arith, le_split j k b (at + 1)))

-- it is below 256 ^ k
pub le_below : (k : ℕ) {b : List ℕ} → Bytes b → (at : ℕ) → le k b at < 256 ^ k
unfolding le
le_below zero h at = omega arith
le_below (suc k) h at = rw pow-succ' (omega (arith, h.below at, le_below k h (at + 1)))

-- a byte is a field of one byte
pub le-one : (b : List ℕ) (at : ℕ) → le 1 b at ≡ byte b at
unfolding le
le-one b at = omega arith

-- with a list in front it stands that much further on
pub le-append : (k : ℕ) (xs ys : List ℕ) (at : ℕ) → le k (xs ++ ys) (length xs + at) ≡ le k ys at
le-append k xs ys at = le_ext k _ _ _ _ (λ i h. rw add_assoc (get_or-append-add xs ys (at + i) 0))

-- ---- writing

-- they are k, and bytes
pub le_bytes-length : (k v : ℕ) → length (le_bytes k v) ≡ k
unfolding le_bytes
le_bytes-length zero v = refl
le_bytes-length (suc k) v = ap suc (le_bytes-length k (v / 256))

pub le_bytes-bytes : (k v : ℕ) → Bytes (le_bytes k v)
unfolding le_bytes
le_bytes-bytes k v = record { below = each k v }
  where
    each : (k v i : ℕ) → byte (le_bytes k v) i < 256
    each zero v i = omega arith
    each (suc k) v zero = omega arith
    each (suc k) v (suc i) = each k (v / 256) i

-- the low j bytes, and then the k others
pub le_bytes-split : (j k v : ℕ) → le_bytes (j + k) v ≡ le_bytes j v ++ le_bytes k (v / 256 ^ j)
unfolding le_bytes
le_bytes-split zero k v = let e : v / 1 ≡ v = omega arith in rw (zero-add k, e)
le_bytes-split (suc j) k v =
    let e : v / (256 * 256 ^ j) ≡ v / 256 / 256 ^ j = sym (div-div-eq-div-mul v 256 (256 ^ j)) in
    rw (suc-add j k, pow-succ' 256 j, e, le_bytes-split j k (v / 256))

-- what stands above the k bytes is left out
pub le_bytes-low : (k v : ℕ) → le_bytes k (v % 256 ^ k) ≡ le_bytes k v
unfolding le_bytes
le_bytes-low zero v = refl
le_bytes-low (suc k) v =
    let first : v % (256 * 256 ^ k) % 256 ≡ v % 256 = mod-mod_of_dvd 256 v (dvd-mul_right 256 (256 ^ k)) in
    rw (pow-succ' 256 k, first, rest (256 ^ k) (one-le-pow k 256 (omega arith)), le_bytes-low k (v / 256))
  where
    rest : (p : ℕ) → 0 < p → v % (256 * p) / 256 ≡ v / 256 % p
    rest p h =
        let all : 256 * (p * (v / (256 * p))) + v % (256 * p) ≡ v = rw mul_assoc at (div-add-mod v (256 * p)) in
        let high : v / 256 ≡ v % (256 * p) / 256 + p * (v / (256 * p)) = omega arith in
        let low : v % (256 * p) / 256 < p = omega (arith, mod-lt v {m = 256 * p} (omega arith)) in
        rw (high, add-mul-mod_self_left (v % (256 * p) / 256) p (v / (256 * p)), mod-eq_of_lt low)

-- read again they are v
pub le-le_bytes : (k v : ℕ) → v < 256 ^ k → le k (le_bytes k v) 0 ≡ v
unfolding le le_bytes
le-le_bytes zero v h = omega arith
le-le_bytes (suc k) v h =
    let high : v / 256 < 256 ^ k = omega (arith, rw pow-succ' at h) in
    omega (arith, le-append k (v % 256 ∷ []) (le_bytes k (v / 256)) 0, le-le_bytes k (v / 256) high)

module _ {l xs l' : List ℕ} {at r : ℕ} (w : Puts l at xs l' r) where
  -- where there is room, the bytes stand at their places
  pub puts_at : at + length xs ≤ length l → (i : ℕ) → i < length xs → byte l' (at + i) ≡ byte xs i
  puts_at h i g =
      let e : l' ≡ take at l ++ (xs ++ drop (at + length xs) l) = (puts_room w h).0 ∙ append_assoc (take at l) xs _ in
      let n : at ≡ length (take at l) = sym (length-take-le at l (omega arith)) in
      (λ t. byte (e t) (n t + i)) ∙ get_or-append-add (take at l) _ i 0 ∙ get_or-append xs _ 0 i g

-- and where there is room, the field that was written reads as the value
pub le_written : (k : ℕ) {l l' : List ℕ} {at v r : ℕ} → Puts l at (le_bytes k v) l' r → at + k ≤ length l → v < 256 ^ k → le k l' at ≡ v
le_written k {l} {l'} {at} {v} w h f =
    let n : length (le_bytes k v) ≡ k = le_bytes-length k v in
    le_ext k l' (le_bytes k v) at 0 (λ i g. puts_at w (omega arith) i (omega arith) ∙ sym (rw zero-add)) ∙ le-le_bytes k v f

-- ---- two's complement

-- the logic's own words of an i32 agree
pub bits_of : (z : ℤ) → bits32 z ≡ of_z w32 z
unfolding bits32
bits_of (pos n) = refl
bits_of (negsuc n) = refl

pub twos_of : (u : ℕ) → u < 2 ^ 32 → twos32 u ≡ to_z w32 u
unfolding twos32
twos_of u h = by (ltb u (2 ^ 31))
  where
    by : (t : Bool) → cond t (pos u) (sub_ℕ u (2 ^ 32)) ≡ sel t (pos u) (negsuc (2 ^ 32 - suc u))
    by true = refl
    by false = rw (lt-ltb u (2 ^ 32) h)

-- a number in i32's range is that of its bits
pub bits_below : (z : ℤ) → SFits w32 z → bits32 z < 2 ^ 32
bits_below z f = rw bits_of (of_z_fits w32 z f).fits

pub twos_bits : (z : ℤ) → SFits w32 z → twos32 (bits32 z) ≡ z
twos_bits z f = twos_of (bits32 z) (bits_below z f) ∙ ap (to_z w32) (bits_of z) ∙ to_z-of_z w32 z f

-- and 32 bits are those of their number, which is in the range
pub twos_fits : (u : ℕ) → u < 2 ^ 32 → SFits w32 (twos32 u)
twos_fits u h = rw (twos_of u h) (to_z-Fits w32 u (record { fits = h }))

pub bits_twos : (u : ℕ) → u < 2 ^ 32 → bits32 (twos32 u) ≡ u
bits_twos u h = bits_of (twos32 u) ∙ ap (of_z w32) (twos_of u h) ∙ of_z-to_z w32 u (record { fits = h })

-- an i32 that was written reads as itself; past the end it is 0
pub int32_written : {l l' : List ℕ} {at r : ℕ} {z : ℤ} → Puts l at (int32_bytes z) l' r → at + 4 ≤ length l → SFits w32 z → int32 l' at ≡ z
int32_written {z = z} w h f = ap twos32 (le_written 4 w h (bits_below z f)) ∙ twos_bits z f

pub int32-past : (b : List ℕ) (at : ℕ) → length b ≤ at → int32 b at ≡ pos 0
unfolding twos32
int32-past b at h = ap twos32 (le-past 4 b at h)
