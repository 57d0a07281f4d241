-- M6's bytes, as the definition gives them for the tree of M6.
use Rattle.std.proofs.Common.{◌≡◌, refl, List, [], ◌∷◌, ◌++◌, ℕ, pos}
use Rattle.geometry.specs.Geometry.{gap, dist}
use Rattle.wire.specs.Fields.{le_bytes, bits32}
use Rattle.tree.specs.Tree.{node_at, sum_to}
use Rattle.tree.specs.Measures.{greatest, worst_below, those, place_in}
use Rattle.measures.proofs.Samples.{m6}
use Rattle.tree_bytes.specs.TreeBytes.{record_of, in_turn, header_of, bytes_of}

-- a number below 256 as four bytes
abbrev four : ℕ → List ℕ
four k = k ∷ 0 ∷ 0 ∷ 0 ∷ []

-- allowed 12, W 12, total 16, worst 12
m6_bytes : bytes_of m6 (pos 12) 12 ≡
    (4 ∷ 2 ∷ 1 ∷ 0 ∷ []) ++ four 24 ++ four 12 ++ four 12 ++ four 16 ++ four 12
    ++ (0 ∷ 255 ∷ 0 ∷ 0 ∷ []) ++ four 0 ++ four 0 ++ four 0
    ++ (2 ∷ 3 ∷ 1 ∷ 0 ∷ []) ++ four 4 ++ four 6 ++ four 10
    ++ (2 ∷ 3 ∷ 2 ∷ 1 ∷ []) ++ four 10 ++ four 2 ++ four 12
    ++ (1 ∷ 0 ∷ 1 ∷ 0 ∷ []) ++ four 4 ++ four 2 ++ four 6
unfolding bytes_of header_of in_turn record_of le_bytes bits32 node_at sum_to greatest worst_below those place_in gap dist
m6_bytes = refl
