-- What the inner functions' contracts cite: a record in memory, as the bytes that are written for it.
use Rattle.std.specs.Prelude.{List, [], ◌∷◌, ◌++◌, ℕ, pos}
use Rattle.wire.specs.Fields.{int32_bytes}
use Rattle.tree_bytes.specs.declared.Record.{Record}

abbrev pub show_record : Record → List ℕ
show_record r =
    (r.kind ∷ r.parent ∷ r.number ∷ r.place ∷ []) ++ int32_bytes r.pt.xcoord ++ int32_bytes r.pt.ycoord ++ int32_bytes (pos r.path)
