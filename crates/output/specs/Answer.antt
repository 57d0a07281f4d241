-- What a call that writes to a lent buffer answers, and what the buffer then holds. Definitions only.
use Rattle.std.specs.Prelude.{ℕ, ◌≡◌, cond, List, [], ◌++◌, length, drop, leb, Result, Ok, Err}
use Rattle.wire.specs.Puts.{Puts}
use Rattle.refusal.specs.declared.Refusal.{Refusal}
use Rattle.refusal.specs.declared.Refusal.TheVariants.{NoRoom}

-- how much is to be written, where it fits; else "11, an output buffer shorter than what is to be written"
unfoldable pub answer_of : {X : Type 0} → List X → List X → Result ℕ Refusal
answer_of xs out = cond (leb (length xs) (length out)) (Ok (length xs)) (Err NoRoom)

-- "Success leaves bytes past the written ones unchanged"; after a refusal "all lent bytes are then as before"
unfoldable pub content_of : {X : Type 0} → List X → List X → List X
content_of xs out = cond (leb (length xs) (length out)) (xs ++ drop (length xs) out) out

-- the answer and the buffer after
pub record Answers {X : Type 0} (xs out : List X) (r : Result ℕ Refusal) (out' : List X) : Type 0 where
  pub answer : r ≡ answer_of xs out
  pub content : out' ≡ content_of xs out

-- P is what a writer may do to a buffer: what it finds there, its answer, what it leaves. It writes xs at the start of out, and would of an empty buffer.
pub record Writes {X : Type 0} (P : List X → ℕ → List X → Type 0) (xs out : List X) : Type 0 where
  pub measures : (m : ℕ) (none : List X) → P [] m none → Puts [] 0 xs none m
  pub writes : (r : ℕ) (out' : List X) → P out r out' → Puts out 0 xs out' r
