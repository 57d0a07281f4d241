-- An output, refused or written, by its length; or by m, how long it is by the same writer on a buffer of its own.
use Rattle.std.proofs.Common.{◌≡◌, ap, subst, ◌∙◌, true, false, List, ◌++◌, ℕ, ◌+◌, ◌≤◌, ◌<◌, arith, length, drop, leb, Result, Ok, Err}
use borrow.Author.Tests.{le-leb, lt-leb}
use Rattle.wire.specs.Puts.{Puts, last_place, puts_room}
use Rattle.refusal.specs.declared.Refusal.{Refusal}
use Rattle.refusal.specs.declared.Refusal.TheVariants.{NoRoom}
use Rattle.output.specs.Answer.{answer_of, content_of, Answers}

module _ {X : Type 0} {xs : List X} (out : List X) where
  pub too_long : length out < length xs → Answers xs out (Err NoRoom) out
  unfolding answer_of content_of
  too_long h =
      let t : leb (length xs) (length out) ≡ false = lt-leb _ _ h in
      record { answer = rw t; content = rw t }

  pub whole : {out' : List X} {r : ℕ} → length xs ≤ length out → Puts out 0 xs out' r → Answers xs out (Ok r) out'
  unfolding answer_of content_of
  whole {out'} {r} h p =
      let t : leb (length xs) (length out) ≡ true = le-leb _ _ h in
      let z : 0 + length xs ≡ length xs = omega arith in
      let w = puts_room p (omega arith) in
      record { answer = rw t (ap Ok (w.1 ∙ z)); content = rw t (w.0 ∙ (λ i. xs ++ drop (z i) out)) }

module _ {X : Type 0} {xs none none' : List X} {m : ℕ} (measured : Puts none 0 xs none' m) (out : List X) (few : length out < last_place) where
  pub refused : length out < m → Answers xs out (Err NoRoom) out
  refused h = too_long out (omega (arith, measured.to))

  pub written : {out' : List X} {r : ℕ} → m ≤ length out → Puts out 0 xs out' r → Answers xs out (Ok r) out'
  written h p = whole out (omega (arith, measured.to)) p

-- what is written, said in other words
pub answers_of : {X : Type 0} {xs ys out out' : List X} {r : Result ℕ Refusal} → xs ≡ ys → Answers xs out r out' → Answers ys out r out'
answers_of {X} {out = out} {out'} {r} e a = subst (λ (l : List X). Answers l out r out') e a
