-- The bytes of a tree (document 01, "Tree bytes"). Definitions only.
use Rattle.std.specs.Prelude.{ℕ, zero, suc, List, [], ◌∷◌, ◌++◌, length, ℤ, pos}
use Rattle.wire.specs.Fields.{le_bytes, int32_bytes}
use Rattle.tree.specs.Tree.{Node, Tree, Parent, none, at, node_at, total}
use Rattle.tree.specs.Measures.{worst, kind_of, number_of, place_under, steiner_nodes, terminal_nodes}

-- "parent index (255 for the source)"
abbrev pub parent_byte : Parent → ℕ
parent_byte none = 255
parent_byte (at p) = p

-- "16 bytes each: kind, parent index, number, place among the parent's children, then x, y, path length i32"
unfoldable pub record_of : List Node → ℕ → List ℕ
record_of ns i =
    let x = node_at ns i in
    (kind_of x.name ∷ parent_byte x.parent ∷ number_of x.name ∷ place_under ns i x.parent ∷ [])
    ++ int32_bytes x.point.xcoord ++ int32_bytes x.point.ycoord ++ int32_bytes (pos x.path)

-- f 0, f 1, .. : n of them, one after the other
unfoldable pub in_turn : (ℕ → List ℕ) → ℕ → List ℕ
in_turn f zero = []
in_turn f (suc k) = in_turn f k ++ f k

-- "header of 24: nodes u8, terminals u8, Steiners u8, zero, records' offset u32 (24), allowed, W, total, worst as i32"
unfoldable pub header_of : ℕ → ℕ → ℕ → ℤ → ℕ → ℕ → ℕ → List ℕ
header_of nodes terminals steiners allowed w total worst =
    (nodes ∷ terminals ∷ steiners ∷ 0 ∷ [])
    ++ le_bytes 4 24 ++ int32_bytes allowed ++ int32_bytes (pos w) ++ int32_bytes (pos total) ++ int32_bytes (pos worst)

-- "Records follow in index order"
unfoldable pub bytes_of : List Node → ℤ → ℕ → List ℕ
bytes_of ns allowed w =
    header_of (length ns) (length (terminal_nodes ns)) (length (steiner_nodes ns)) allowed w (total ns) (worst ns) ++ in_turn (record_of ns) (length ns)

-- of a tree, with its own allowance and W
abbrev pub tree_bytes : Tree → List ℕ
tree_bytes t = bytes_of t.nodes t.allowed t.farthest
