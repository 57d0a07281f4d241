-- `planning::write_tree`: where the text has at most 65,536 bytes, the text and the figures; else 11.
use Rattle.std.proofs.Common.{sym}
use Rattle.std.proofs.Math.Seq.{length-take-le}
use Rattle.tables.specs.Table.{table_tree}
use Rattle.output.proofs.Answering.{answers_of}
use Rattle.planning.specs.Output.{figures_line}
use Rattle.planning.proofs.Parts.{with_figures, too_long}
use Rattle.planning.proofs.write_tree.Goals as goal

pub returns-then-m-gt-MOST_TEXT : goal.returns-then-m-gt-MOST_TEXT
returns-then-m-gt-MOST_TEXT c =
    answers_of (too_long (table_tree c.args.t.now) (sym c.buffer-text.ensures) c.put_text-m.ensures c.if-m-gt-MOST_TEXT.true) c.write_refusal.ensures

-- the buffer's first bytes are the output
pub slice_bounds-text-end : goal.slice_bounds-text-end
slice_bounds-text-end c =
    let g = c.read_figures-f.ensures in
    let w = with_figures (table_tree c.args.t.now) (sym c.buffer-text.ensures) c.put_text-m.ensures c.if-m-gt-MOST_TEXT.false (λ i. figures_line (g.allowed i) (g.farthest i) (g.total i) (g.worst i)) c.put_figures-n.ensures in
    w.low

pub slice_bounds-write_bytes-end : goal.slice_bounds-write_bytes-end
slice_bounds-write_bytes-end c =
    let g = c.read_figures-f.ensures in
    let w = with_figures (table_tree c.args.t.now) (sym c.buffer-text.ensures) c.put_text-m.ensures c.if-m-gt-MOST_TEXT.false (λ i. figures_line (g.allowed i) (g.farthest i) (g.total i) (g.worst i)) c.put_figures-n.ensures in
    sym (length-take-le _ _ w.low)

pub returns : goal.returns
returns c =
    let g = c.read_figures-f.ensures in
    let w = with_figures (table_tree c.args.t.now) (sym c.buffer-text.ensures) c.put_text-m.ensures c.if-m-gt-MOST_TEXT.false (λ i. figures_line (g.allowed i) (g.farthest i) (g.total i) (g.worst i)) c.put_figures-n.ensures in
    answers_of w.text c.write_bytes.ensures
