-- The header and the records that are written are the tree's bytes.
use Rattle.std.proofs.Common.{◌≡◌, sym, List, ◌++◌, ℕ, length, ℤ}
use Rattle.tree.specs.Tree.{Node, total}
use Rattle.tree.specs.Measures.{worst, steiner_nodes, terminal_nodes}
use Rattle.joining.specs.Store.{Columns}
use Rattle.measures.proofs.Reading.{Read}
use Rattle.tree_bytes.specs.TreeBytes.{record_of, in_turn, header_of, bytes_of}

module _ {ns : List Node} {c : Columns} {n : ℕ} (v : Read ns c n) {allowed : ℤ} {w : ℕ} where
  pub whole : {t s a b w' : ℕ} {z : ℤ} → t ≡ length (terminal_nodes ns) → s ≡ length (steiner_nodes ns) → z ≡ allowed → w' ≡ w → a ≡ total ns → b ≡ worst ns
      → header_of n t s z w' a b ++ in_turn (record_of ns) n ≡ bytes_of ns allowed w
  unfolding bytes_of
  whole et es ez ew ea eb = λ j. header_of (sym v.size j) (et j) (es j) (ez j) (ew j) (ea j) (eb j) ++ in_turn (record_of ns) (sym v.size j)
