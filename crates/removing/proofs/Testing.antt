-- Is a node lone: what the columns say is what the nodes say. The idea: a chain has one member exactly where its first is followed by none.
use Rattle.std.proofs.Common.{ℕ, zero, suc, ◌≤◌, ◌<◌, ◌≡◌, refl, ap, sym, subst, ◌∙◌, ◌≢◌, Bool, true, false, cond, not, ◌&&◌, List, [], ◌∷◌, arith, length, get_or, eqb, Option, None, Some, IsSome, is_some}
use Rattle.std.proofs.Math.ListN.{length-reverse}
use borrow.Author.Tests.{eq-eqb, ne_eqb}
use Rattle.tree.specs.Limits.{no_node}
use Rattle.tree.specs.Tree.{Node, node_at}
use Rattle.tree.specs.Optimize.{is_steiner, lone}
use Rattle.search.specs.Columns.{Chain}
use Rattle.tree.specs.declared.NodeIndex.{NodeIndex}
use Rattle.tree.specs.Memory.{type_number, type_of}
use Rattle.joining.specs.Store.{Store, columns_of, name_from, index_from, link_in, SizedStore, Keeps}
use Rattle.joining.proofs.Names.{link_in-from}
use Rattle.removing.specs.Store.{lone_at, LoneReads}

-- ---- a number of a column as a kind, and as an index
pub steiner_number : (k : ℕ) → type_number (type_of k) ≡ 1 → k ≡ 1
steiner_number zero e = absurd (omega arith)
steiner_number (suc zero) e = refl
steiner_number (suc (suc n)) e = absurd (omega arith)

abbrev Given : Option NodeIndex → Type 0
Given None = ⊥
Given (Some x) = Unit {0}

pub index_is : (v : ℕ) {r : Option NodeIndex} → r ≡ index_from v → link_in r ≡ v
index_is v e = ap link_in e ∙ link_in-from v

pub index_some : (v : ℕ) (x : NodeIndex) → Some x ≡ index_from v → v ≢ no_node
index_some v x e d = subst Given (e ∙ ap index_from d) tt

pub index_given : (v : ℕ) {r : Option NodeIndex} → v < no_node → r ≡ index_from v → IsSome r
index_given v h e = ap is_some e ∙ rw (ne_eqb v no_node (λ d. omega arith))

-- ---- the code's four answers; `place` is i as an index
module _ (kind last prev : List ℕ) (i place : ℕ) (e : place ≡ i) where
  by_place : (b : Bool) → b ≡ lone_at kind last prev place → b ≡ lone_at kind last prev i
  by_place b h = subst (λ (x : ℕ). b ≡ lone_at kind last prev x) e h

  pub no_steiner : get_or kind place 0 ≢ 1 → false ≡ lone_at kind last prev i
  no_steiner d = by_place false (rw (ne_eqb _ 1 d))

  module _ (k : get_or kind place 0 ≡ 1) where
    pub childless : get_or last place 0 ≡ no_node → false ≡ lone_at kind last prev i
    childless l = by_place false (rw (eq-eqb _ 1 k, eq-eqb _ no_node l))

    -- the child's number is an index
    pub child_in : LoneReads kind last prev i → get_or last place 0 ≢ no_node → (j : ℕ) → j ≡ get_or last place 0 → j < length prev
    child_in v l j f = subst (λ (x : ℕ). x < length prev) (sym (f ∙ there)) (v.child (λ d. l (there ∙ d)))
      where
        there : get_or last place 0 ≡ get_or last i 0
        there = ap (λ (x : ℕ). get_or last x 0) e

    module _ (l : get_or last place 0 ≢ no_node) (j : ℕ) (f : j ≡ get_or last place 0) where
      pub one-child : get_or prev j 0 ≡ no_node → true ≡ lone_at kind last prev i
      one-child d = by_place true (rw (eq-eqb _ 1 k, ne_eqb _ no_node l, ← f, eq-eqb _ no_node d))

      pub more_children : get_or prev j 0 ≢ no_node → false ≡ lone_at kind last prev i
      more_children d = by_place false (rw (eq-eqb _ 1 k, ne_eqb _ no_node l, ← f, ne_eqb _ no_node d))

      -- what stands before the child
      pub before_tells : (b : Bool) (r : Option NodeIndex) → is_some r ≡ not b → r ≡ index_from (get_or prev j 0) → b ≡ lone_at kind last prev i
      before_tells true None h g = one-child (sym (index_is _ g))
      before_tells false None h g = absurd (omega (arith, ap {B = ℕ} (λ (t : Bool). cond t 1 0) h))
      before_tells true (Some x) h g = absurd (omega (arith, ap {B = ℕ} (λ (t : Bool). cond t 1 0) h))
      before_tells false (Some x) h g = more_children (index_some _ x g)

-- ---- what the nodes say
steiner_kind_lem : (k n : ℕ) → is_steiner (name_from k n) ≡ eqb k 1
steiner_kind_lem zero n = refl
steiner_kind_lem (suc zero) n = refl
steiner_kind_lem (suc (suc k)) n = sym (ne_eqb (suc (suc k)) 1 (λ e. omega arith))

one_link : (prev : List ℕ) (l : ℕ) (cs : List ℕ) → length prev ≤ no_node → Chain prev l cs → (not (eqb l no_node) && eqb (get_or prev l 0) no_node) ≡ eqb (length cs) 1
unfolding Chain
one_link prev l [] few h = rw (eq-eqb l no_node h)
one_link prev l (c ∷ []) few h = rw (ne_eqb l no_node (omega (arith, h.1.0)), eq-eqb (get_or prev l 0) no_node h.1.1)
one_link prev l (c ∷ d ∷ cs) few h =
    rw (ne_eqb l no_node (omega (arith, h.1.0)), ne_eqb (get_or prev l 0) no_node (omega (arith, h.1.1.1.0)), ne_eqb (length (c ∷ d ∷ cs)) 1 (omega arith))

linked_in : (prev : List ℕ) (l : ℕ) (cs : List ℕ) → Chain prev l cs → l ≢ no_node → l < length prev
unfolding Chain
linked_in prev l [] h d = absurd (d h)
linked_in prev l (c ∷ cs) h d = h.1.0

module _ (ns : List Node) (m : ℕ) (s : Store) (z : SizedStore m s) (k : Keeps ns (columns_of s)) (room : length ns ≤ m) (i : ℕ) (h : i < length ns) where
  pub may_test : LoneReads s.rows.kind s.links.last s.links.prev i
  may_test = record { in_kind = omega (arith, z.rows.kind); in_last = omega (arith, z.links.last); child = linked_in _ _ _ (k.children i h) }

  pub lone_is : lone_at s.rows.kind s.links.last s.links.prev i ≡ lone ns i
  unfolding lone
  lone_is =
      λ x. (sym (steiner_kind_lem (get_or s.rows.kind i 0) (get_or s.rows.number i 0)) ∙ sym (ap (λ (n : Node). is_steiner n.name) (k.rows i h))) x
      && (one_link s.links.prev _ _ (omega (arith, z.links.prev, z.links.few)) (k.children i h) ∙ ap (λ (n : ℕ). eqb n 1) (length-reverse (node_at ns i).children)) x
