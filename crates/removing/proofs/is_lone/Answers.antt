-- `removing::is_lone`: the answers of the columns that say so.
use Rattle.std.proofs.Common.{arith, sym, ap, ◌∙◌}
use Rattle.tree.specs.Memory.{type_number}
use Rattle.joining.specs.Buffers.{column}
use Rattle.joining.proofs.Blocks.{column-most}
use Rattle.removing.proofs.Testing.{index_is, index_some, steiner_number, child_in, before_tells}
use Rattle.removing.proofs.is_lone.Goals as goal

pub kind_at-requires : goal.kind_at-requires
kind_at-requires c = omega (arith, c.from-at.ensures, c.requires.in_kind, column-most 1 c.args.arena.now.nodes.marks)

pub last_child-requires : goal.last_child-requires
last_child-requires c = omega (arith, c.from-at.ensures, c.requires.in_last, column-most 0 c.args.arena.now.links)

pub child_before-requires : goal.child_before-requires
child_before-requires c =
    let l = c.args.arena.now.links in
    let kind = steiner_number _ (ap type_number (sym c.kind_at.ensures ∙ c.in-Steiner.is)) in
    let last = sym c.in-Some.is ∙ c.last_child.ensures in
    omega (arith, child_in (column 1 c.args.arena.now.nodes.marks) (column 0 l) (column 1 l) c.args.i.0 _ c.from-at.ensures kind c.requires (index_some _ _ last) _ (c.from.ensures ∙ index_is _ last), column-most 1 l)

pub returns : goal.returns
returns c =
    let l = c.args.arena.now.links in
    let kind = steiner_number _ (ap type_number (sym c.kind_at.ensures ∙ c.in-Steiner.is)) in
    let last = sym c.in-Some.is ∙ c.last_child.ensures in
    before_tells (column 1 c.args.arena.now.nodes.marks) (column 0 l) (column 1 l) c.args.i.0 _ c.from-at.ensures kind (index_some _ _ last) _ (c.from.ensures ∙ index_is _ last) _ _ c.is_none.ensures c.child_before.ensures
