-- A point's key: one number for its distance from the source, its x and its y, which orders as the three do in turn. And lists of keys.
use Rattle.std.specs.Prelude.{ℕ, ◌+◌, ◌*◌, ◌/◌, ◌%◌, ◌<◌, ◌≡◌, cond, length, get_or, ltb, ℤ, pos, negsuc, ◌-ℤ◌, List, [], ◌∷◌}
use mathlib.Core.List.{foldr}
use Rattle.tree.specs.Limits.{reach}
use Rattle.tree.specs.Shape.{count}
use Rattle.geometry.specs.declared.Point.{Point}
use Rattle.geometry.specs.Geometry.{gap, dist}
use Rattle.tree.specs.Memory.{point_at}

-- no coordinate is less: −1,000,000
abbrev pub least : ℤ
least = negsuc 999999

-- 21 bits: a coordinate within reach, counted from the least, is below it
abbrev pub part : ℕ
part = 2097152

unfoldable pub key_of : Point → Point → ℕ
key_of s p = (dist s p * part + gap p.xcoord least) * part + gap p.ycoord least

unfoldable pub point_of : ℕ → Point
point_of k = record { xcoord = pos (k / part % part) -ℤ pos reach; ycoord = pos (k % part) -ℤ pos reach }

-- the first n keys are those of the points
pub record Keyed (px py : List ℤ) (s : Point) (n : ℕ) (keys : List ℕ) : Type 0 where
  pub size : length keys ≡ length px
  pub each : (k : ℕ) → k < n → get_or keys k 0 ≡ key_of s (point_at px py k)

-- the first n points are those of the keys
pub record Read (keys : List ℕ) (n : ℕ) (px py : List ℤ) : Type 0 where
  pub size_x : length px ≡ length keys
  pub size_y : length py ≡ length keys
  pub each : (k : ℕ) → k < n → point_at px py k ≡ point_of (get_or keys k 0)

-- ---- sorting
-- v in its place in a sorted list
unfoldable pub place_key : ℕ → List ℕ → List ℕ
place_key v [] = v ∷ []
place_key v (k ∷ ks) = cond (ltb k v) (k ∷ place_key v ks) (v ∷ k ∷ ks)

abbrev pub sort_keys : List ℕ → List ℕ
sort_keys = foldr place_key []

-- ---- keys that change places
-- what stands where no key has gone: 2 ^ 64 - 1
abbrev pub free : ℕ
free = 18446744073709551615

pub record AllFree (places : List ℕ) : Type 0 where
  pub each : (k : ℕ) → k < length places → get_or places k 0 ≡ free

-- the same keys, each as often
abbrev pub SameKeys : List ℕ → List ℕ → Type 0
SameKeys ks ls = (x : ℕ) → count x ks ≡ count x ls
