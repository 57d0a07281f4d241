-- `job::job_of`: each column that was read is the definition's.
use Rattle.std.proofs.Common.{◌≡◌, rules, sym, ap, ◌∙◌, ◌+◌, ◌*◌}
use Rattle.tree.specs.Limits.{most_terminals, most_keepouts}
use Rattle.wire.specs.Fields.{int32}
use Rattle.job.specs.Layout.{row, header_size, terminal_size, keepouts_at}
use Rattle.job.specs.Job.{terminal_count, keepout_count}
use Rattle.job.specs.Reading.{filled}
use Rattle.job.proofs.Packing.{terminals-length, keepouts-length, xs_read, ys_read, keepouts_read}
use Rattle.job.proofs.job_of.Goals as goal

pub returns : goal.returns
returns c =
    let b = c.args.s.now in
    let t : c.from-t.result ≡ terminal_count b = cc in
    let k : c.from-k.result ≡ keepout_count b = cc in
    let x0 : c.read_column.result ≡ filled most_terminals (row (int32 b) terminal_size header_size c.from-t.result) = search rules in
    let x = x0 ∙ (λ i. filled most_terminals (row (int32 b) terminal_size header_size (t i))) ∙ ap (filled most_terminals) (xs_read b) in
    let y0 : c.read_column-2.result ≡ filled most_terminals (row (int32 b) terminal_size (header_size + 4) c.from-t.result) = search rules in
    let f0 : c.read_column-3.result ≡ filled (4 * most_keepouts) (row (int32 b) 4 c.keepouts_at.result (4 * c.from-k.result)) = search rules in
    let y = y0 ∙ (λ i. filled most_terminals (row (int32 b) terminal_size (header_size + 4) (t i))) ∙ ap (filled most_terminals) (ys_read b) in
    let f = f0 ∙ (λ i. filled (4 * most_keepouts) (row (int32 b) 4 (c.keepouts_at.ensures.is i) (4 * k i))) ∙ ap (filled (4 * most_keepouts)) (keepouts_read b) in
    λ i. record {
      mode = c.mode_of-mode.ensures i;
      source = c.source_of-source.ensures i;
      terminal_xs = x i;
      terminal_ys = y i;
      terminal_count = (t ∙ sym (terminals-length b)) i;
      keepouts = f i;
      keepout_count = (k ∙ sym (keepouts-length b)) i;
    }
