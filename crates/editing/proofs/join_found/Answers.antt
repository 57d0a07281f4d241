-- `editing::join_found`: 10, or the tree with the terminal.
use Rattle.std.proofs.Common.{sym, ◌∙◌}
use Rattle.search.specs.Find.{join_of}
use Rattle.editing.proofs.Refusing.{stop, past, full-join, room, gives}
use Rattle.editing.proofs.join_found.Goals as goal

pub returns-then-is_full : goal.returns-then-is_full
returns-then-is_full c = stop _ _ (c.is_full.ensures ∙ full-join c.args.t.now (join_of c.args.j)) c.if-is_full.true

pub with_terminal-requires-clause-room : goal.with_terminal-requires-clause-room
with_terminal-requires-clause-room c = room c.args.t.now _ _ (sym c.is_full.ensures ∙ c.if-is_full.false)

pub returns : goal.returns
returns c = past _ _ (c.is_full.ensures ∙ full-join c.args.t.now (join_of c.args.j)) c.if-is_full.false (gives _ c.with_terminal.ensures)
