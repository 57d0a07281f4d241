-- A buffer's first bytes after what was put there, or after an answer that wrote.
-- And the output that the parts make: a tree's, by its text in a buffer; and a job's, by what its bytes get.
use Rattle.std.proofs.Common.{◌≡◌, refl, ap, ◌∙◌, Bool, true, false, cond, List, ◌++◌, ℕ, ◌+◌, ◌≤◌, ◌<◌, arith, length, take, drop, length-append, leb, Result, Ok, Err}
use Rattle.std.proofs.Math.Seq.{take-append_seam}
use borrow.Author.Tests.{le-leb, lt-leb}
use Rattle.wire.specs.Puts.{Puts, puts_as, puts_then, puts_length}
use Rattle.tree.specs.Tree.{Tree, total}
use Rattle.tree.specs.Measures.{worst}
use Rattle.text.specs.Text.{text_of}
use Rattle.refusal.specs.declared.Refusal.{Refusal}
use Rattle.refusal.specs.declared.Refusal.TheVariants.{NoRoom}
use Rattle.refusal.specs.Refusals.{number_of}
use Rattle.route.specs.Routing.{Routing, route_of}
use Rattle.output.specs.Answer.{content_of, Answers}
use Rattle.output.specs.Answer as O
use Rattle.output.proofs.Bytes.{put_first}
use Rattle.planning.specs.Output.{most_text, most_output, refusal_line, figures_line_of, tree_output, output_for, output_of}
use Rattle.planning.proofs.Room.{figures-short}

-- out's first n bytes are xs
pub record Front (xs out : List ℕ) (n : ℕ) : Type 0 where
  pub low : n ≤ length out
  pub text : take n out ≡ xs

-- of what was put there
put_front : {xs out out' : List ℕ} {n : ℕ} → Puts out 0 xs out' n → length xs ≤ length out → Front xs out' n
put_front {xs} {out} {out'} {n} p h =
    let (e, t) = put_first p h in
    record { low = omega (arith, e, puts_length p); text = ap (λ (k : ℕ). take k out') e ∙ t }

-- of an answer that wrote
pub front : {xs out out' : List ℕ} {r : Result ℕ Refusal} → Answers xs out r out' → {m : ℕ} → r ≡ Ok m → Front xs out' m
unfolding O.answer_of content_of
front {xs} {out} {out'} {r} a {m} e = by (leb (length xs) (length out)) refl
  where
    by : (t : Bool) → leb (length xs) (length out) ≡ t → Front xs out' m
    by true h =
        let w : r ≡ Ok (length xs) = a.answer ∙ (λ i. cond (h i) (Ok (length xs)) (Err NoRoom)) in
        let n : m ≡ length xs = cc in
        let c : out' ≡ xs ++ drop (length xs) out = a.content ∙ (λ i. cond (h i) (xs ++ drop (length xs) out) out) in
        let l : length out' ≡ length xs + length (drop (length xs) out) = ap length c ∙ length-append xs (drop (length xs) out) in
        record { low = omega (arith, n, l); text = (λ i. take (n i) (c i)) ∙ take-append_seam xs (drop (length xs) out) }
    by false h =
        let w : r ≡ Err NoRoom = a.answer ∙ (λ i. cond (h i) (Ok (length xs)) (Err NoRoom)) in
        cc

-- ---- a tree's output, by its text as it was put into a buffer with room for every output
module _ (t : Tree) {buffer buffer' : List ℕ} {m : ℕ} (size : most_output ≡ length buffer) (text : Puts buffer 0 (text_of t.nodes) buffer' m) where
  pub with_figures : m ≤ most_text → {figures buffer'' : List ℕ} {n : ℕ} → figures ≡ figures_line_of t → Puts buffer' m figures buffer'' n → Front (tree_output t) buffer'' n
  unfolding tree_output
  with_figures l e p =
      let k : length (text_of t.nodes) ≤ most_text = omega (arith, text.to) in
      let h : leb (length (text_of t.nodes)) most_text ≡ true = le-leb _ _ k in
      let f = figures-short t.allowed t.farthest (total t.nodes) (worst t.nodes) in
      rw h (put_front (puts_then text (puts_as p e)) (simp length-append (omega (arith, text.to, f))))

  pub too_long : most_text < m → refusal_line (number_of NoRoom) ≡ tree_output t
  unfolding tree_output
  too_long l =
      let k : most_text < length (text_of t.nodes) = omega (arith, text.to) in
      let h : leb (length (text_of t.nodes)) most_text ≡ false = lt-leb _ _ k in
      rw h

-- ---- a job's output, by what its bytes get
module _ (job : List ℕ) where
  pub of_routing : {x : Routing} → x ≡ route_of job → output_for x ≡ output_of job
  unfolding output_of
  of_routing e = ap output_for e
