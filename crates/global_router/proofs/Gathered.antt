-- An edit that is given the numbers of a list of rectangles, as far as there is room, is the edit that is given the list: more than an edit takes still are.
use Rattle.std.proofs.Common.{◌*◌, ◌≡◌, ap, ◌∙◌, cond, List, ℤ, take}
use Rattle.geometry.specs.declared.Point.{Point}
use Rattle.geometry.specs.declared.Rectangle.{Rectangle}
use Rattle.tree.specs.Tree.{Tree}
use Rattle.tree.specs.Search.{any_of, find, blocked}
use Rattle.job.specs.Job.{outside, invalid_keepout}
use Rattle.tree.specs.Memory.{keepouts_of}
use Rattle.rectangles.specs.declared.Flat.{Flat}
use Rattle.rectangles.specs.Rectangles.{room, Gathers}
use Rattle.rectangles.proofs.Gathering.{answers_same}
use Rattle.editing.specs.Edits.{refused, join_found, insert_terminal_with_constraints}

edit_same : (t : Tree) (p : Point) (x : ℤ) (ks : List Rectangle) → insert_terminal_with_constraints t p x (take room ks) ≡ insert_terminal_with_constraints t p x ks
unfolding insert_terminal_with_constraints
edit_same t p x ks =
    ap (cond (outside p) (refused 5))
    (answers_same (refused 2) (λ (l : List Rectangle). cond (any_of invalid_keepout l) (refused 6) (join_found t p (find (blocked l) t.nodes t.limit x p))) ks)

-- the numbers b that are lent of what was gathered
pub by_gathered : (t : Tree) (p : Point) (x : ℤ) {ks : List Rectangle} {f : Flat} {b : List ℤ} → Gathers ks f → b ≡ take (4 * f.count) f.bounds
    → insert_terminal_with_constraints t p x (keepouts_of b) ≡ insert_terminal_with_constraints t p x ks
by_gathered t p x {ks} h e = ap (λ (l : List Rectangle). insert_terminal_with_constraints t p x l) (ap keepouts_of e ∙ h.is) ∙ edit_same t p x ks
