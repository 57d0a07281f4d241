-- No output is longer than `most_output`: a number has at most ten digits, the text at most 65,536 bytes where it is written.
use Rattle.std.proofs.Common.{◌≡◌, refl, Bool, true, false, cond, List, [], ◌∷◌, ◌++◌, ℕ, zero, suc, ◌+◌, ◌/◌, ◌%◌, ◌≤◌, arith, ℤ, pos, negsuc, length, length-append, ltb, leb}
use borrow.Author.Tests.{leb-true}
use Rattle.decimal.specs.Decimal.{digits, decimal_of, int_text}
use Rattle.tree.specs.Tree.{Tree, total}
use Rattle.tree.specs.Measures.{worst}
use Rattle.text.specs.Text.{text_of}
use Rattle.refusal.specs.declared.Refusal.TheVariants.{NoRoom}
use Rattle.refusal.specs.Refusals.{number_of}
use Rattle.route.specs.Routing.{Routing, refused, routed, route_of}
use Rattle.planning.specs.Output.{most_text, most_output, refusal_line, figures_line, figures_line_of, tree_output, output_for, output_of}

-- ---- numbers
digits-few : (k n : ℕ) → length (digits k n) ≤ k
unfolding digits
digits-few zero n = omega arith
digits-few (suc k) n = by (ltb n 10) (digits k (n / 10)) (digits-few k (n / 10))
  where
    by : (t : Bool) (xs : List ℕ) → length xs ≤ k → length (cond t [] xs ++ ((48 + n % 10) ∷ [])) ≤ suc k
    by true xs h = omega arith
    by false xs h = omega (arith, length-append xs ((48 + n % 10) ∷ []))

decimal_few : (n : ℕ) → length (decimal_of n) ≤ 10
unfolding decimal_of
decimal_few n = digits-few 10 n

int_few : (z : ℤ) → length (int_text z) ≤ 11
unfolding int_text
int_few (pos n) = omega (arith, decimal_few n)
int_few (negsuc n) = omega (arith, decimal_few (suc n))

-- ---- lines
refusal_short : (n : ℕ) → length (refusal_line n) ≤ 19
unfolding refusal_line
refusal_short n = simp length-append (omega (arith, decimal_few n))

pub figures-short : (a : ℤ) (w l v : ℕ) → length (figures_line a w l v) ≤ 74
unfolding figures_line
figures-short a w l v = simp length-append (omega (arith, int_few a, decimal_few w, decimal_few l, decimal_few v))

-- ---- outputs
tree-short : (t : Tree) → length (tree_output t) ≤ most_output
unfolding tree_output
tree-short t = by (leb (length (text_of t.nodes)) most_text) refl
  where
    by : (b : Bool) → leb (length (text_of t.nodes)) most_text ≡ b → length (cond b (text_of t.nodes ++ figures_line_of t) (refusal_line (number_of NoRoom))) ≤ most_output
    by true e =
        let l : length (text_of t.nodes) ≤ most_text = leb-true _ _ e in
        simp length-append (omega (arith, l, figures-short t.allowed t.farthest (total t.nodes) (worst t.nodes)))
    by false e = omega (arith, refusal_short (number_of NoRoom))

for_short : (x : Routing) → length (output_for x) ≤ most_output
for_short (refused n) = omega (arith, refusal_short n)
for_short (routed t) = tree-short t

pub output_short : (job : List ℕ) → length (output_of job) ≤ most_output
unfolding output_of
output_short job = for_short (route_of job)
