-- `joining::NodeRows::store_numbered_row`: six stores, each in a column of its own.
use Rattle.std.proofs.Common.{ℕ, ◌≡◌, ◌+◌, ◌<◌, List, ℤ, w32, arith, rules}
use Rattle.std.proofs.Math.ListN.{set}
use mir.ValLaws.{to_z-of_z}
use Rattle.geometry.specs.Signed.{InPoint}
use Rattle.tree.specs.Limits.{most_nodes}
use Rattle.joining.specs.declared.NumberedRow.{NumberedRow}
use Rattle.joining.specs.Store.{rows_of, set_numbered_row}
use Rattle.joining.specs.Buffers.{column, rows_in, Put}
use Rattle.joining.proofs.Blocks.{put}
use Rattle.joining.proofs.NodeRows.store_numbered_row.Goals as goal

-- i is n, and x and y are the row's point
stored : (points : List ℤ) (path marks : List ℕ) (n : ℕ) (row : NumberedRow) (i : ℕ) → i ≡ n → n < most_nodes → (x y : ℤ) → x ≡ row.point.xcoord → y ≡ row.point.ycoord
    → rows_in (set (set points i x) (250 + i) y) (set path i row.path) (set (set (set marks i row.parent.0) (250 + i) row.kind) (500 + i) row.number) ≡ set_numbered_row (rows_in points path marks) n row
stored points path marks n row i e h x y ex ey =
    let px : Put 0 n x points (set points i x) = put 0 points n h (omega arith) x in
    let py : Put 1 n y (set points i x) (set (set points i x) (250 + i) y) = put 1 _ n h (omega arith) y in
    let m₁ : List ℕ = set marks i row.parent.0 in
    let m₂ : List ℕ = set m₁ (250 + i) row.kind in
    let pp : Put 0 n row.parent.0 marks m₁ = put 0 marks n h (omega arith) _ in
    let pk : Put 1 n row.kind m₁ m₂ = put 1 m₁ n h (omega arith) _ in
    let pn : Put 2 n row.number m₂ (set m₂ (500 + i) row.number) = put 2 m₂ n h (omega arith) _ in
    let xs : column 0 (set (set points i x) (250 + i) y) ≡ set (column 0 points) n row.point.xcoord = cc (py.other 0 (λ d. omega arith), px.own, ex) in
    let ys : column 1 (set (set points i x) (250 + i) y) ≡ set (column 1 points) n row.point.ycoord = cc (py.own, px.other 1 (λ d. omega arith), ey) in
    let parents : column 0 (set m₂ (500 + i) row.number) ≡ set (column 0 marks) n row.parent.0 = cc (pn.other 0 (λ d. omega arith), pk.other 0 (λ d. omega arith), pp.own) in
    let kinds : column 1 (set m₂ (500 + i) row.number) ≡ set (column 1 marks) n row.kind = cc (pn.other 1 (λ d. omega arith), pk.own, pp.other 1 (λ d. omega arith)) in
    let numbers : column 2 (set m₂ (500 + i) row.number) ≡ set (column 2 marks) n row.number = cc (pn.own, pk.other 2 (λ d. omega arith), pp.other 2 (λ d. omega arith)) in
    λ k. rows_of (xs k) (ys k) (set path (e k) row.path) (parents k) (kinds k) (numbers k)

pub returns : goal.returns
returns c =
    let f : InPoint c.args.row.point = search rules in
    stored c.args.self.now.points c.args.self.now.path c.args.self.now.marks _ c.args.row _ c.from-i.ensures c.requires _ _ (to_z-of_z w32 _ f.xcoord) (to_z-of_z w32 _ f.ycoord)
