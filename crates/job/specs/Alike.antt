-- Jobs that are alike but for order (document 01, "The words of demand 3"), and what reading gives of two such.
-- `proofs/Alike.antt` shows it: `AlikeButOrder a b → SameReading (read_job a) (read_job b)`.
use Rattle.std.specs.Prelude.{◌≡◌, false, List, ℕ}
use Rattle.tree.specs.Route.{SameTerminals, SameKeepouts}
use Rattle.job.specs.Job.{Job, Answer, refused, accepted, short, too_many, wrong_length, wrong_offset, mode_byte, spare_bytes, multiplier_bits, source_of, terminals_of, keepouts_in}

-- "pass tests 1 to 3"
pub record PassesTo3 (b : List ℕ) : Type 0 where
  pub long : short b ≡ false
  pub few : too_many b ≡ false
  pub whole : wrong_length b ≡ false
  pub offsets : wrong_offset b ≡ false

-- "Two jobs of any mode are alike but for order when both pass tests 1 to 3, have the same mode, spare bytes, multiplier bits and
-- source, have the same terminals, each as often, and each keepout of either is also in the other."
pub record AlikeButOrder (a b : List ℕ) : Type 0 where
  pub first : PassesTo3 a
  pub second : PassesTo3 b
  pub mode : mode_byte a ≡ mode_byte b
  pub spare : spare_bytes a ≡ spare_bytes b
  pub multiplier : multiplier_bits a ≡ multiplier_bits b
  pub source : source_of a ≡ source_of b
  pub terminals : SameTerminals (terminals_of a) (terminals_of b)
  pub keepouts : SameKeepouts (keepouts_in a) (keepouts_in b)

-- two jobs that differ in nothing but the order of terminals, and the order and repetition of keepouts
pub record SameJobs (j k : Job) : Type 0 where
  pub mode : j.mode ≡ k.mode
  pub source : j.source ≡ k.source
  pub terminals : SameTerminals j.terminals k.terminals
  pub keepouts : SameKeepouts j.keepouts k.keepouts

-- the same refusal, or two such jobs
abbrev pub SameReading : Answer → Answer → Type 0
SameReading (refused m) (refused n) = m ≡ n
SameReading (refused m) (accepted k) = ⊥
SameReading (accepted j) (refused n) = ⊥
SameReading (accepted j) (accepted k) = SameJobs j k
