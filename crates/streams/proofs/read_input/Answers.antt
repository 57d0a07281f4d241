-- `streams::read_input`: what a turn reads stands after what was read before it.
use Rattle.std.proofs.Common.{rules, ◌-◌, ◌≤◌, length, subst, sym, List, ℕ}
use Rattle.std.specs.Io.KnownBytes.{Consumes}
use Rattle.std.proofs.KnownBytes.{Consumes-trans}
use Rattle.streams.proofs.Reading.{front_read}
use Rattle.streams.proofs.read_input.Goals as goal

pub loop-n-preserved : goal.loop-n-preserved
loop-n-preserved g c =
    let part = c.read.new.buf in
    let v = c.loop-n.invariant in
    let few : c.in_ok-k.k ≤ length part = c.in_ok-k.ensures.bound.0 in
    let front = front_read c.loop-n.n (length c.loop-n.buf - c.loop-n.n) c.in_ok-k.k c.loop-n.buf part v.0 few in (
      search rules,
      subst (λ (xs : List ℕ). Consumes (g.R.Read.remaining c.args.source.now) (g.R.Read.remaining c.read.new.self) xs) (sym front)
          (Consumes-trans _ (g.R.Read.remaining c.loop-n.source) _ _ _ v.1 c.in_ok-k.ensures.bytes.0),
    )
