-- `search::blocked`: the keepouts that are left decide as all of them do.
use Rattle.std.specs.Slice.Iter.{chunks_exact_rest, chunks_exact_size}
use Rattle.tree.specs.Search.{stops}
use Rattle.search.proofs.Keepouts.{Left}
use Rattle.search.proofs.blocked.Given as goal

abbrev pub invariant-loop-k : goal.invariant-loop-k
invariant-loop-k l = Left (stops l.q l.p l.c l.n) l.ks (chunks_exact_size l.k-iterator) (chunks_exact_rest l.k-iterator)
