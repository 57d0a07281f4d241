-- A job, read from bytes: the job header, and the tests of a job file in their order (document 01, "What each party can get wrong"). Definitions only.
use Rattle.std.specs.Prelude.{ℕ, ◌+◌, Bool, not, ◌&&◌, ◌||◌, cond, List, length, ltb, eqb, pos, neg_ℤ}
use Rattle.std.specs.Float.{binary64}
use Rattle.std.specs.Float.Ieee.{of_bits}
use Rattle.geometry.specs.declared.Point.{Point}
use Rattle.geometry.specs.declared.Interval.{Interval}
use Rattle.geometry.specs.declared.Rectangle.{Rectangle}
use Rattle.geometry.specs.Geometry.{invalid, contains}
use Rattle.tree.specs.Limits.{reach, most_terminals, most_keepouts}
use Rattle.tree.specs.Search.{any_of}
use Rattle.wire.specs.Fields.{byte, le16, le32, le64, int32}
use Rattle.job.specs.Layout.{header_size, terminal_size, keepout_size, keepouts_at, size_of, row}
use Rattle.job.specs.declared.Mode.{Mode}
use Rattle.job.specs.declared.Mode.TheVariants.{Simple, Steiners, Constraints}

pub record Job : Type 0 where
  pub mode : Mode
  pub source : Point
  pub terminals : List Point
  pub keepouts : List Rectangle

-- "A refusal gives its number"; else there is the job
pub data Answer : Type 0 where
  refused : ℕ → Answer
  accepted : Job → Answer

-- ---- the fields
-- "A terminal is x, y i32; a keepout is lower x, upper x, lower y, upper y i32."
abbrev pub point_from : List ℕ → ℕ → Point
point_from b at = record { xcoord = int32 b at; ycoord = int32 b (at + 4) }

abbrev pub interval_from : List ℕ → ℕ → Interval
interval_from b at = record { lb = int32 b at; ub = int32 b (at + 4) }

abbrev pub rectangle_from : List ℕ → ℕ → Rectangle
rectangle_from b at = record { xcoord = interval_from b at; ycoord = interval_from b (at + 8) }

-- "T u16, K u16, terminals' offset u32, keepouts' offset u32, mode u8, three spare bytes, multiplier as u64 bits of an f64, source x, y i32"
module _ (b : List ℕ) where
  abbrev pub terminal_count : ℕ
  terminal_count = le16 b 0

  abbrev pub keepout_count : ℕ
  keepout_count = le16 b 2

  abbrev pub terminals_offset : ℕ
  terminals_offset = le32 b 4

  abbrev pub keepouts_offset : ℕ
  keepouts_offset = le32 b 8

  abbrev pub mode_byte : ℕ
  mode_byte = byte b 12

  abbrev pub spare_bytes : List ℕ
  spare_bytes = row (byte b) 1 13 3

  abbrev pub multiplier_bits : ℕ
  multiplier_bits = le64 b 16

  abbrev pub source_of : Point
  source_of = point_from b 24

  -- then the terminals and the keepouts
  abbrev pub terminals_of : List Point
  terminals_of = row (point_from b) terminal_size header_size terminal_count

  abbrev pub keepouts_in : List Rectangle
  keepouts_in = row (rectangle_from b) keepout_size (keepouts_at terminal_count) keepout_count

-- "The mode is read as simple, with Steiners, or with constraints and their multiplier": "0 simple, 1 Steiner points, 2 constraints"
-- "Any 64 bits are a multiplier."
unfoldable pub mode_of : ℕ → ℕ → Mode
mode_of n bits = cond (eqb n 0) Simple (cond (eqb n 1) Steiners (Constraints (of_bits binary64 bits)))

-- ---- parts of the tests
abbrev pub nonzero : ℕ → Bool
nonzero n = not (eqb n 0)

-- "−1,000,000..1,000,000"
abbrev pub coordinates : Interval
coordinates = record { lb = neg_ℤ (pos reach); ub = pos reach }

-- a "coordinate outside −1,000,000..1,000,000"
unfoldable pub outside : Point → Bool
outside p = not (contains (record { xcoord = coordinates; ycoord = coordinates }) p)

-- 2, of the keepouts that an edit is given: more than a job may have
abbrev pub too_many_keepouts : List Rectangle → Bool
too_many_keepouts ks = ltb most_keepouts (length ks)

-- "a keepout interval with lower above upper"
unfoldable pub invalid_keepout : Rectangle → Bool
invalid_keepout k = invalid k.xcoord || invalid k.ycoord

-- ---- the tests: true refuses
module _ (b : List ℕ) where
  -- 1: "under 32 bytes"
  abbrev pub short : Bool
  short = ltb (length b) header_size

  -- 2: "T over 120 or K over 64"
  abbrev pub too_many : Bool
  too_many = ltb most_terminals (terminal_count b) || ltb most_keepouts (keepout_count b)

  -- 1: "after test 2, also any length but 32 + 8T + 16K"
  abbrev pub wrong_length : Bool
  wrong_length = not (eqb (length b) (size_of (terminal_count b) (keepout_count b)))

  -- 3: "an offset other than the required one": "(must be 32)", "(must be 32 + 8T)"
  abbrev pub wrong_offset : Bool
  wrong_offset = not (eqb (terminals_offset b) header_size) || not (eqb (keepouts_offset b) (keepouts_at (terminal_count b)))

  -- 4: "mode over 2; a nonzero spare byte; multiplier bits nonzero in mode 0 or 1"
  abbrev pub wrong_mode : Bool
  wrong_mode =
      ltb 2 (mode_byte b) || (any_of nonzero (spare_bytes b) || (ltb (mode_byte b) 2 && nonzero (multiplier_bits b)))

  -- 5: "a source or terminal coordinate outside −1,000,000..1,000,000"
  abbrev pub far_out : Bool
  far_out = outside (source_of b) || any_of outside (terminals_of b)

  -- 6: "a keepout interval with lower above upper. Keepout bounds are otherwise any i32."
  abbrev pub bad_keepout : Bool
  bad_keepout = any_of invalid_keepout (keepouts_in b)

  abbrev pub job_of : Job
  job_of =
      record {
        mode = mode_of (mode_byte b) (multiplier_bits b);
        source = source_of b;
        terminals = terminals_of b;
        keepouts = keepouts_in b;
      }

  -- "tested in this order"
  unfoldable pub read_job : Answer
  read_job =
      cond short (refused 1)
      (cond too_many (refused 2)
      (cond wrong_length (refused 1)
      (cond wrong_offset (refused 3)
      (cond wrong_mode (refused 4)
      (cond far_out (refused 5)
      (cond bad_keepout (refused 6)
      (accepted job_of)))))))
