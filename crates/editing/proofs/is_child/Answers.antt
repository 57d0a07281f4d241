-- `editing::is_child`: the parent as its column has it.
use Rattle.std.proofs.Common.{ℕ, get_or, refl, ap, sym, ◌∙◌, arith}
use Rattle.tree.specs.Tree.{Node}
use Rattle.tree.specs.Memory.{parent_in}
use Rattle.joining.specs.Store.{parent_from}
use Rattle.joining.specs.Buffers.{column}
use Rattle.tables.specs.Table.{tabled}
use Rattle.tables.proofs.TableSizes.{size}
use Rattle.joining.proofs.Names.{parent_in-from}
use Rattle.editing.specs.Edits.{is_child_of}
use Rattle.editing.proofs.Refusing.{child_is}
use Rattle.editing.proofs.is_child.Goals as goal

pub returns : goal.returns
returns c =
    let t = c.args.t.now in
    let v = tabled t in
    c.eq.ensures ∙ child_is _ (λ x y. refl) c.parent_at.result c.args.p
    ∙ ap (is_child_of c.args.p.0)
    (ap parent_in c.parent_at.ensures ∙ parent_in-from _
    ∙ ap (λ (i : ℕ). parent_from (get_or (column 0 t.arena.nodes.marks) i 0)) c.from.ensures
    ∙ ap (λ (n : Node). n.parent) (sym (v.keeps.rows c.args.c.0 (omega (arith, size t, c.requires.1)))))
