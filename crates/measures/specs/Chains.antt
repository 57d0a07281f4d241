-- What an iterator along a chain of siblings has left.
use Rattle.std.specs.Prelude.{ℕ, List}
use Rattle.joining.specs.Buffers.{column}
use Rattle.measures.specs.Children.{chain_at}
use Rattle.measures.specs.declared.Chain.{Chain}

abbrev pub rest_of : Chain → List ℕ
rest_of s = chain_at (column 1 s.tree.arena.now.links) s.next
