-- `GlobalRoutingTree::insert_terminal_with_constraints`: the edit by the numbers that are gathered is the edit by the list.
use Rattle.std.proofs.Common.{subst, ◌∙◌}
use Rattle.geometry.specs.Signed.{home}
use Rattle.tree.specs.Memory.{keepouts_of}
use Rattle.editing.specs.Edits.{Edit, insert_terminal_with_constraints}
use Rattle.global_router.specs.Stored.{tree_of}
use Rattle.global_router.specs.Editing.{EditedTo}
use Rattle.global_router.proofs.Gathered.{by_gathered}
use Rattle.global_router.proofs.GlobalRoutingTree.insert_terminal_with_constraints.Goals as goal

pub returns : goal.returns
returns c =
    let a = c.args in
    let g = tree_of a.self.now in
    let f = c.insert_terminal_with_constraints_flat in
    subst (λ (x : Edit). EditedTo x a.self.now f.result f.new.self)
    ((λ i. insert_terminal_with_constraints g a.point (home c.ranges.allowed_wirelength i) (keepouts_of c.bounds-bounds.result.now))
    ∙ by_gathered g a.point a.allowed_wirelength c.gather-gathered.ensures c.bounds-bounds.ensures) f.ensures
