-- A node's fields as they are read, and records one after the other.
use Rattle.std.proofs.Common.{◌≡◌, refl, ap, sym, ◌∙◌, List, [], ◌∷◌, ◌++◌, ℕ, zero, suc, ◌+◌, ◌≤◌, ◌<◌, add-one, arith, get_or, pos, Option, None, Some, IfSome}
use Rattle.wire.specs.Fields.{le_bytes, bits32, int32_bytes}
use Rattle.tree.specs.Limits.{most_nodes}
use Rattle.tree.specs.Memory.{name_in}
use Rattle.tree.specs.declared.NodeIndex.{NodeIndex}
use Rattle.tree.specs.Tree.{Node, node_at}
use Rattle.tree.specs.Measures.{kind_of, number_of, place_under}
use Rattle.joining.specs.declared.Row.{Row}
use Rattle.joining.specs.Store.{Columns, row_at, index_from, node_from}
use Rattle.measures.proofs.Reading.{Read, parent_low}
use Rattle.tree_bytes.specs.TreeBytes.{parent_byte, record_of, in_turn}
use Rattle.tree_bytes.specs.Show.{show_record}

-- a number from 0 on, as an i32
pub whole-i32 : (m : ℕ) → le_bytes 4 m ≡ int32_bytes (pos m)
unfolding bits32
whole-i32 m = refl

-- ---- one after the other
pub turn_none : (f : ℕ → List ℕ) → [] ≡ in_turn f 0
unfolding in_turn
turn_none f = refl

pub turn_more : (f : ℕ → List ℕ) (i : ℕ) → in_turn f i ++ f i ≡ in_turn f (i + 1)
unfolding in_turn
turn_more f i = rw (add-one i)

-- ---- a record as it is read
module _ {ns : List Node} {c : Columns} {n : ℕ} (v : Read ns c n) (i : ℕ) (h : i < n) where
  pub parent-fits : {p : Option NodeIndex} → p ≡ index_from (get_or c.rows.parent i 0) → IfSome p (λ q. q.0 < most_nodes)
  parent-fits {p} e = by p refl
    where
      by : (x : Option NodeIndex) → p ≡ x → IfSome x (λ q. q.0 < most_nodes)
      by None f = tt
      by (Some q) f = omega (arith, parent_low v i h e f, v.few)

  module _ {row : Row} (er : row ≡ row_at c.rows i) where
    node_is : node_at ns i ≡ node_from row (node_at ns i).children
    node_is = rw er (v.rows i h)

    pub number-low : number_of (name_in row.name) ≤ most_nodes
    number-low = omega (arith, v.numbers i h, ap (λ (x : Node). number_of x.name) node_is)

    pub shown : {k p m s : ℕ} → k ≡ kind_of (name_in row.name) → p ≡ parent_byte (node_at ns i).parent → m ≡ number_of (name_in row.name)
        → s ≡ place_under ns i (node_at ns i).parent → show_record (record { kind = k; parent = p; number = m; place = s; pt = row.point; path = row.path }) ≡ record_of ns i
    unfolding record_of
    shown {k} {p} {m} {s} ek ep em es =
        (λ j. (ek j ∷ ep j ∷ em j ∷ es j ∷ []) ++ int32_bytes row.point.xcoord ++ int32_bytes row.point.ycoord ++ int32_bytes (pos row.path))
        ∙ sym (ap (λ (x : Node). (kind_of x.name ∷ parent_byte (node_at ns i).parent ∷ number_of x.name ∷ place_under ns i (node_at ns i).parent ∷ []) ++ int32_bytes x.point.xcoord ++ int32_bytes x.point.ycoord ++ int32_bytes (pos x.path)) node_is)
