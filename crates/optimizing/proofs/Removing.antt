-- A lone node goes from the columns: they keep the nodes linked past it but for itself, and once they have closed up, all the nodes that remain.
-- The idea: the two changes of links are those of joining, at the parent p and its new child c; every other list of children is apart from both.
use Rattle.std.proofs.Common.{ℕ, ◌≤◌, ◌<◌, ◌≡◌, refl, ap, sym, subst, ◌∙◌, ◌≢◌, Bool, true, false, List, [], ◌∷◌, ◌++◌, reverse, arith, length, get_or, eqb}
use Rattle.std.proofs.Math.Decide.{dec_lt}
use Rattle.tree.specs.Limits.{no_node}
use Rattle.tree.specs.Tree.{zero_figure, Node, at, node_at, without, replace_last, with_parent}
use Rattle.tree.specs.Shape.{Linked, count, is_at}
use Rattle.tree.specs.Optimize.{bypass, remove}
use Rattle.tree.proofs.Nodes.{past, AtTwo, first, second, neither, length_two}
use Rattle.tree.proofs.Linking.{none-at, parent_in_lem, at_inj}
use Rattle.tree.proofs.Removing.{Lone, under, in_i, in_p, in_c, i_not_p, c_not_i, c_not_p, at-bypass, gone, links-bypass, remove_is}
use Rattle.search.specs.Columns.{Chain}
use Rattle.joining.specs.Links.{Links, SizedLinks}
use Rattle.joining.specs.Store.{Rows, Store, store, columns_of, row_at, set_parent, parent_from, node_from, SizedRows, SizedStore, Keeps, Backs}
use Rattle.joining.proofs.Agree.{has-count, count-reverse, has-child, once, apart}
use Rattle.joining.proofs.Lists.{Held, Apart, apart_without, once-without, attach_own, attach_other, detach_own, detach_other}
use Rattle.joining.proofs.Steps.{parent-at, node_lift, held_lift, child_of, parent-same, parent_other, sized-parent, attached-sized, detached_sized}
use Rattle.removing.specs.Store.{Bypassed, StoreClosed}
use Rattle.optimizing.proofs.Closing.{KeepsBut, keeps-closed, backs-closed}

-- the number in the column is the parent's
parent_of : (v p : ℕ) → parent_from v ≡ at p → v ≡ p
unfolding parent_from
parent_of v p = by (eqb v no_node) refl
  where
    by : (t : Bool) → eqb v no_node ≡ t → parent_from v ≡ at p → v ≡ p
    by true e f = none-at (rw e at f)
    by false e f = at_inj (rw e at f)

module _ (ns : List Node) (g : Linked ns) (i : ℕ) (w : Lone ns i) (m : ℕ) (s : Store) (z : SizedStore m s) (k : Keeps ns (columns_of s)) (b : Backs ns s.links.next) (room : length ns ≤ m) where
  abbrev p : ℕ
  p = w.p

  abbrev c : ℕ
  c = w.c

  abbrev kids : ℕ → List ℕ
  kids j = (node_at ns j).children

  pub held : (j : ℕ) → j < length ns → Held s.links j (kids j)
  held j l = record { chain = k.children j l; back = b j l }

  -- ---- what the code reads
  pub reads-parent : get_or s.rows.parent i 0 ≡ p
  reads-parent = parent_of _ p (sym (ap (λ (n : Node). n.parent) (k.rows i (in_i g w))) ∙ w.over)

  pub reads-child : get_or s.links.last i 0 ≡ c
  unfolding Chain
  reads-child = (subst (λ (cs : List ℕ). Chain s.links.prev (get_or s.links.last i 0) (reverse cs)) w.only (k.children i (in_i g w))).0

  -- ---- linked past it
  abbrev B : List Node
  B = bypass ns i p c

  same_size : length B ≡ length ns
  unfolding bypass
  same_size = length_two ns p c (replace_last i c) (with_parent p)

  module _ (parent' : List ℕ) (l' : Links) (v : Bypassed i p c s.rows.parent s.links parent' l') where
    abbrev r : Rows
    r = s.rows

    abbrev r' : Rows
    r' = record { xs = r.xs; ys = r.ys; path = r.path; parent = parent'; kind = r.kind; number = r.number }

    abbrev s' : Store
    s' = store r' l'

    z₁ : SizedLinks m v.links.l₁
    z₁ = detached_sized m s.links p i v.links.l₁ z.links v.links.leaves

    rows_are : r' ≡ set_parent r c p
    rows_are = ap (λ (l : List ℕ). record { xs = r.xs; ys = r.ys; path = r.path; parent = l; kind = r.kind; number = r.number }) v.parents

    pub sized-bypass : SizedStore m s'
    sized-bypass =
        record { rows = subst (SizedRows m) (sym rows_are) (sized-parent m r c p z.rows); links = attached-sized m v.links.l₁ p c l' z₁ v.links.takes }

    in_m : (j : ℕ) → j < length ns → j < m
    in_m j l = omega arith

    -- p's children without i
    abbrev left : List ℕ
    left = without i (kids p)

    held_left : Held v.links.l₁ p left
    held_left =
        detach_own m s.links v.links.l₁ z.links p i (in_m p (in_p g w)) v.links.leaves (kids p) (held p (in_p g w)) (has-child ns g p i w.over) (once ns g p)

    held_p : Held l' p (left ++ (c ∷ []))
    held_p =
        attach_own m v.links.l₁ l' z₁ p c (in_m p (in_p g w)) (in_m c (in_c g w)) v.links.takes left held_left (once-without i (kids p) (once ns g p))
        (λ a. apart_without i (kids p) (kids i) (apart ns g p i (λ e. i_not_p g w (sym e))) c a (has-child ns g i c (under g w)))

    held_other : (j : ℕ) → j < length ns → j ≢ p → j ≢ i → Held l' j (kids j)
    held_other j l d e =
        attach_other m v.links.l₁ l' z₁ p c (in_m p (in_p g w)) (in_m c (in_c g w)) v.links.takes left held_left j (kids j) d
        (detach_other m s.links v.links.l₁ z.links p i (in_m p (in_p g w)) v.links.leaves (kids p) (held p (in_p g w)) (has-child ns g p i w.over) (once ns g p) j (kids j) d (held j l) far)
        (λ a. apart ns g i j (λ x. e (sym x)) c (has-child ns g i c (under g w)) a)
        (apart_without i (kids p) (kids j) far)
      where
        far : Apart (kids p) (kids j)
        far = apart ns g p j (λ x. d (sym x))

    row_other : (j : ℕ) → j ≢ c → row_at r' j ≡ row_at r j
    row_other j d = ap (λ (x : Rows). row_at x j) rows_are ∙ parent_other r c j p d

    row-child : row_at r' c ≡ child_of p (row_at r c)
    row-child = ap (λ (x : Rows). row_at x c) rows_are ∙ parent-same m r c p z.rows (in_m c (in_c g w))

    pub keeps-bypass : KeepsBut i B s'
    unfolding bypass replace_last
    keeps-bypass =
        record {
          rows = λ j l d. row_by j (omega (arith, same_size)) (at-bypass g w j);
          held = λ j l d. held_by j (omega (arith, same_size)) d (at-bypass g w j);
          above = λ j x l d e. omega (arith, same_size, above_by j x e (at-bypass g w j));
          below = λ j x l d h. below j x d (omega (arith, has-count x _ h, count-reverse x (node_at B j).children));
        }
      where
        row_by : (j : ℕ) → j < length ns → AtTwo ns p c (replace_last i c) (with_parent p) (in_p g w) (in_c g w) (c_not_p g w) j
            → node_at B j ≡ node_from (row_at r' j) (node_at B j).children
        row_by j l (first e f) =
            node_lift B r' j _ (row_at r p) f (ap (row_at r') e ∙ row_other p (λ x. c_not_p g w (sym x))) (ap (replace_last i c) (k.rows p (in_p g w)))
        row_by j l (second e f) =
            node_lift B r' j _ (child_of p (row_at r c)) f (ap (row_at r') e ∙ row-child)
            (ap (with_parent p) (k.rows c (in_c g w))
            ∙ (λ x. record { name = (node_from (row_at r c) []).name; parent = sym (parent-at p (omega (arith, in_m p (in_p g w), z.links.few))) x; point = (row_at r c).point; children = kids c; path = (row_at r c).path; capacitance = zero_figure; delay = zero_figure }))
        row_by j l (neither d e f) = node_lift B r' j _ (row_at r j) f (row_other j e) (k.rows j l)

        held_by : (j : ℕ) → j < length ns → j ≢ i → AtTwo ns p c (replace_last i c) (with_parent p) (in_p g w) (in_c g w) (c_not_p g w) j
            → Held l' j (node_at B j).children
        held_by j l d (first e f) = held_lift B l' j _ f (subst (λ (x : ℕ). Held l' x (left ++ (c ∷ []))) (sym e) held_p)
        held_by j l d (second e f) = held_lift B l' j _ f (subst (λ (x : ℕ). Held l' x (kids c)) (sym e) (held_other c (in_c g w) (c_not_p g w) (c_not_i g w)))
        held_by j l d (neither a e f) = held_lift B l' j _ f (held_other j l a d)

        above_by : (j x : ℕ) → (node_at B j).parent ≡ at x → AtTwo ns p c (replace_last i c) (with_parent p) (in_p g w) (in_c g w) (c_not_p g w) j → x < length ns
        above_by j x e (first a f) = parent_in_lem g p x (sym (ap (λ (n : Node). n.parent) f) ∙ e)
        above_by j x e (second a f) = subst (λ (y : ℕ). y < length ns) (at_inj (sym (ap (λ (n : Node). n.parent) f) ∙ e)) (in_p g w)
        above_by j x e (neither a d f) = parent_in_lem g j x (sym (ap (λ (n : Node). n.parent) f) ∙ e)

        below : (j x : ℕ) → j ≢ i → 0 < count x (node_at B j).children → (x < length B) × (x ≢ i)
        below j x d h = (inside (dec_lt x (length B)), other)
          where
            other : x ≢ i
            other e = omega (arith, gone g w j d, ap (λ (y : ℕ). count y (node_at B j).children) e)

            inside : Dec (x < length B) → x < length B
            inside (yes l) = l
            inside (no l) = absurd (omega (arith, links-bypass g w j x d other, ap (λ (n : Node). is_at j n.parent) (past B x (omega arith))))

    -- ---- and closed up
    module _ (s'' : Store) (o : StoreClosed (length ns) i s' s'') where
      closed_too : StoreClosed (length B) i s' s''
      closed_too = subst (λ (n : ℕ). StoreClosed n i s' s'') (sym same_size) o

      few : length B ≤ no_node
      few = omega (arith, same_size, z.links.few)

      pub keeps-remove : Keeps (remove i ns) (columns_of s'')
      keeps-remove =
          subst (λ (ms : List Node). Keeps ms (columns_of s'')) (sym (remove_is g w))
          (keeps-closed i B (omega (arith, same_size, in_i g w)) few s' s'' keeps-bypass closed_too)

      pub backs-remove : Backs (remove i ns) s''.links.next
      backs-remove =
          subst (λ (ms : List Node). Backs ms s''.links.next) (sym (remove_is g w))
          (backs-closed i B (omega (arith, same_size, in_i g w)) few s' s'' keeps-bypass closed_too)
