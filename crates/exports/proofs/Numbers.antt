-- No more was written than the buffer holds, so a length has 63 bits.
use Rattle.std.proofs.Common.{◌≡◌, refl, sym, subst, Bool, true, false, cond, List, ℕ, ◌≤◌, ◌<◌, ◌^◌, arith, length, leb, Result, Ok, Err, IfOk}
use borrow.Author.Tests.{leb-true}
use Rattle.refusal.specs.declared.Refusal.{Refusal}
use Rattle.refusal.specs.declared.Refusal.TheVariants.{NoRoom}
use Rattle.output.specs.Answer.{Answers}
use Rattle.output.specs.Answer as O

pub size_small : {xs out out' : List ℕ} {r : Result ℕ Refusal} → Answers xs out r out' → length out < 2 ^ 63 → IfOk r (λ n. n < 2 ^ 63)
unfolding O.answer_of
size_small {xs} {out} a h = subst (λ (x : Result ℕ Refusal). IfOk x (λ n. n < 2 ^ 63)) (sym a.answer) (by (leb (length xs) (length out)) refl)
  where
    by : (t : Bool) → leb (length xs) (length out) ≡ t → IfOk (cond t (Ok (length xs)) (Err NoRoom)) (λ n. n < 2 ^ 63)
    by true e =
        let l : length xs ≤ length out = leb-true _ _ e in
        omega (arith, l, h)
    by false e = tt
