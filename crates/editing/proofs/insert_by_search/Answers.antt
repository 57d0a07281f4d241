-- `editing::insert_by_search`: 5, 2, 6 in turn, then what `join_found` gives.
use Rattle.geometry.specs.Signed.{home}
use Rattle.editing.specs.Edits.{insert_terminal_with_constraints}
use Rattle.editing.proofs.Refusing.{stop, past, near, fits, found_is}
use Rattle.editing.proofs.insert_by_search.Goals as goal

pub returns-then-outside : goal.returns-then-outside
unfolding insert_terminal_with_constraints
returns-then-outside c = stop _ _ c.outside.ensures c.if-outside.true

pub returns-then-too_many : goal.returns-then-too_many
unfolding insert_terminal_with_constraints
returns-then-too_many c = past _ _ c.outside.ensures c.if-outside.false (stop _ _ c.too_many.ensures c.if-too_many.true)

pub returns-then-any_invalid : goal.returns-then-any_invalid
unfolding insert_terminal_with_constraints
returns-then-any_invalid c =
    past _ _ c.outside.ensures c.if-outside.false
    (past _ _ c.too_many.ensures c.if-too_many.false (stop _ _ c.any_invalid.ensures c.if-any_invalid.true))

pub find_place-j-requires : goal.find_place-j-requires
find_place-j-requires c = near c.outside.ensures c.if-outside.false

pub join_found-requires : goal.join_found-requires
join_found-requires c =
    record {
      within = near c.outside.ensures c.if-outside.false;
      fits = fits c.args.t.now c.args.ks.now c.args.q _ _ c.find_place-j.ensures;
    }

pub returns : goal.returns
unfolding insert_terminal_with_constraints
returns c =
    past _ _ c.outside.ensures c.if-outside.false
    (past _ _ c.too_many.ensures c.if-too_many.false
    (past _ _ c.any_invalid.ensures c.if-any_invalid.false
    (found_is c.args.t.now c.args.ks.now c.args.q _ (home c.ranges.allowed) c.find_place-j.ensures c.join_found.ensures)))
