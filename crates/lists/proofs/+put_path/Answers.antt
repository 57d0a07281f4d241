-- `lists::put_path`: the parent's path, then the node; the steps fall.
use Rattle.std.proofs.Common.{refl, arith}
use Rattle.wire.specs.Puts.{puts_as, puts_then}
use Rattle.joining.specs.Buffers.{column}
use Rattle.measures.proofs.Lending.{reads}
use Rattle.measures.proofs.Reading.{parent_is, parent_low}
use Rattle.lists.proofs.Paths.{read_at, path-none, path-source, path_more}
use Rattle.lists.proofs.+put_path.Goals as goal

pub returns-then-left-eq0 : goal.returns-then-left-eq0
returns-then-left-eq0 t c = puts_as c.put.ensures (path-none _ _ _ c.if-left-eq0.true)

pub parent_at-requires : goal.parent_at-requires
parent_at-requires t c = omega (arith, c.from.ensures, c.requires, (reads c.args.tree).few)

pub returns-in_default : goal.returns-in_default
returns-in_default t c =
    let d = read_at (column 0 c.args.tree.arena.now.nodes.marks) c.in_default.ensures c.from.ensures in
    puts_as c.put-in_default.ensures (path-source _ _ _ (parent_is (reads c.args.tree) _ c.requires d))

pub put_path-q-requires : goal.put_path-q-requires
put_path-q-requires t c =
    let d = read_at (column 0 c.args.tree.arena.now.nodes.marks) c.in-Some.ensures c.from.ensures in
    (omega (arith, c.decreases, c.if-left-eq0.false), (parent_low (reads c.args.tree) _ c.requires d refl))

pub returns : goal.returns
returns t c =
    let d = read_at (column 0 c.args.tree.arena.now.nodes.marks) c.in-Some.ensures c.from.ensures in
    puts_as (puts_then c.put_path-q.ensures c.put-2.ensures) (path_more _ _ _ _ c.if-left-eq0.false (parent_is (reads c.args.tree) _ c.requires d))
