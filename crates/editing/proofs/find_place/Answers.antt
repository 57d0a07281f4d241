-- `editing::find_place`: the search on the arena of a well-formed tree.
use Rattle.std.proofs.Common.{◌∙◌}
use Rattle.geometry.specs.Signed.{home}
use Rattle.tree.specs.Memory.{keepouts_of}
use Rattle.tree.specs.Search.{find, blocked}
use Rattle.tables.specs.Table.{table_tree}
use Rattle.editing.proofs.Refusing.{ready, finds}
use Rattle.editing.proofs.find_place.Goals as goal

pub find_insertion_point-found-requires : goal.find_insertion_point-found-requires
find_insertion_point-found-requires c =
    let of = c.columns-nodes.ensures in
    let to = c.link_columns-links.ensures in
    ready c.args.t.now of.xs of.ys of.path to.last to.prev _ c.requires _ c.from-n.ensures

pub returns : goal.returns
returns c =
    let t = c.args.t.now in
    let of = c.columns-nodes.ensures in
    let to = c.link_columns-links.ensures in
    finds t of.xs of.ys of.path to.last to.prev _ c.requires _ c.from-n.ensures _ c.find_insertion_point-found.result c.find_insertion_point-found.ensures
    ∙ (λ i. find (blocked (keepouts_of c.args.ks.now)) (table_tree t).nodes t.limit (home c.ranges.allowed i) c.args.q)
