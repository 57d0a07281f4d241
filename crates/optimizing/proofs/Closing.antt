-- The columns keep the nodes once node i is gone and the places after it have moved down. The idea: a node's index before and after are tied by one
-- map, `closed i`, and a chain of links that does not pass i is read through that map.
use Rattle.std.proofs.Common.{ℕ, ◌≤◌, ◌<◌, ◌≡◌, refl, ap, sym, subst, ◌∙◌, ◌≢◌, inl, inr, Bool, true, false, List, [], ◌∷◌, map, reverse, arith, length, get_or, eqb}
use mathlib.Core.List.{reverse_aux}
use borrow.Author.Tests.{eqb-true, eqb-false}
use Rattle.tree.specs.Limits.{no_node}
use Rattle.tree.specs.Memory.{name_in, named, type_of}
use Rattle.tree.specs.Tree.{zero_figure, Node, at, node_at}
use Rattle.tree.specs.Optimize.{closed, closed_parent, closed_node, close_up}
use Rattle.tree.proofs.Closing.{opened, opened_not, opened_near, closed_opened, at_close, length_close}
use Rattle.search.specs.Walk.{node_index}
use Rattle.search.specs.Columns.{Has, Chain}
use Rattle.joining.specs.declared.Row.{Row}
use Rattle.joining.specs.Links.{ChildrenAre, BackedBy}
use Rattle.joining.specs.Store.{Rows, row_at, Store, columns_of, parent_from, node_from, Keeps, Backs, SizedStore}
use Rattle.joining.proofs.Lists.{Held}
use Rattle.joining.proofs.Steps.{parent-at, node_lift}
use Rattle.removing.specs.Close.{closed_link, ClosedBy, LinksClosed}
use Rattle.removing.specs.Store.{RowsClosed, StoreClosed}
use Rattle.removing.proofs.Places.{closed-le, link_none, link_some}

map_aux : {A B : Type 0} (f : A → B) (l r : List A) → map f (reverse_aux l r) ≡ reverse_aux (map f l) (map f r)
map_aux f [] r = refl
map_aux f (x ∷ l) r = map_aux f l (x ∷ r)

map-reverse : {A B : Type 0} (f : A → B) (l : List A) → map f (reverse l) ≡ reverse (map f l)
map-reverse f l = map_aux f l []

-- ---- rows
-- what stands at j now
reads_at : {A : Type 0} {f : A → A} {blank : A} {n i : ℕ} {l l' : List A} → ClosedBy f blank n i l l' → (j : ℕ) → opened i j < n → get_or l' j blank ≡ f (get_or l (opened i j) blank)
reads_at {blank = blank} {i = i} {l' = l'} v j h = ap (λ (x : ℕ). get_or l' x blank) (sym (closed_opened i j)) ∙ v.reads (opened i j) h (opened_not i j)

-- a row with its link lowered
abbrev closed_row : ℕ → Row → Row
closed_row i r = record { point = r.point; path = r.path; parent = node_index (closed_link i r.parent.0); name = r.name }

row-closed : (n i : ℕ) (r r' : Rows) → RowsClosed n i r r' → (j : ℕ) → opened i j < n → row_at r' j ≡ closed_row i (row_at r (opened i j))
row-closed n i r r' v j h =
    λ k. record {
      point = record { xcoord = reads_at v.xs j h k; ycoord = reads_at v.ys j h k };
      path = reads_at v.path j h k;
      parent = node_index (reads_at v.parent j h k);
      name = named (type_of (reads_at v.kind j h k)) (reads_at v.number j h k);
    }

parent-closed : (n i v : ℕ) → n ≤ no_node → ((p : ℕ) → parent_from v ≡ at p → p < n) → parent_from (closed_link i v) ≡ closed_parent i (parent_from v)
unfolding parent_from
parent-closed n i v few f = by (eqb v no_node) refl
  where
    by : (t : Bool) → eqb v no_node ≡ t → parent_from (closed_link i v) ≡ closed_parent i (parent_from v)
    by true e = rw (link_none i v (eqb-true v no_node e), e)
    by false e =
        let low : v < n = f v (rw e) in
        ap parent_from (link_some i v (eqb-false v no_node e)) ∙ parent-at (closed i v) (omega (arith, closed-le i v)) ∙ rw e

-- ---- chains
module _ (n i : ℕ) (few : n ≤ no_node) where
  -- each is one of the n nodes, and not i
  abbrev Others : List ℕ → Type 0
  Others cs = (c : ℕ) → Has c cs → (c < n) × (c ≢ i)

  link_other : (c : ℕ) → (c < n) × (c ≢ i) → closed_link i c ≡ closed i c
  link_other c s = link_some i c (omega (arith, s.0))

  chain-closed : (prev prev' : List ℕ) → LinksClosed n i prev prev' → (l : ℕ) (cs : List ℕ) → Others cs → Chain prev l cs → Chain prev' (closed_link i l) (map (closed i) cs)
  unfolding Chain Has
  chain-closed prev prev' v l [] s e = link_none i l e
  chain-closed prev prev' v l (c ∷ cs) s e =
      let k = s c (inl refl) in
      let is : closed_link i l ≡ closed i c = ap (closed_link i) e.0 ∙ link_other c k in (
        is,
        (
          omega (arith, is, closed-le i c, e.0, e.1.0, v.size),
          subst (λ (x : ℕ). Chain prev' x (map (closed i) cs))
              (sym (ap (λ (x : ℕ). get_or prev' x 0) is ∙ v.reads c k.0 k.1 ∙ ap (λ (x : ℕ). closed_link i (get_or prev x 0)) (sym e.0)))
              (chain-closed prev prev' v (get_or prev l 0) cs (λ x z. s x (inr z)) e.1.1),
        ),
      )

  backed-closed : (next next' : List ℕ) → LinksClosed n i next next' → (after : ℕ) (cs : List ℕ) → Others cs → BackedBy next after cs → BackedBy next' (closed_link i after) (map (closed i) cs)
  unfolding BackedBy Has
  backed-closed next next' v after [] s b = tt
  backed-closed next next' v after (c ∷ cs) s b =
      let k = s c (inl refl) in (
        v.reads c k.0 k.1 ∙ ap (closed_link i) b.0,
        subst (λ (x : ℕ). BackedBy next' x (map (closed i) cs)) (link_other c k) (backed-closed next next' v c cs (λ x z. s x (inr z)) b.1),
      )

-- ---- all columns
-- the columns keep the nodes but node i, and no link of another leads to i or past the end
pub record KeepsBut (i : ℕ) (ns : List Node) (s : Store) : Type 0 where
  pub rows : (j : ℕ) → j < length ns → j ≢ i → node_at ns j ≡ node_from (row_at s.rows j) (node_at ns j).children
  pub held : (p : ℕ) → p < length ns → p ≢ i → Held s.links p (node_at ns p).children
  pub above : (j p : ℕ) → j < length ns → j ≢ i → (node_at ns j).parent ≡ at p → p < length ns
  pub below : (p c : ℕ) → p < length ns → p ≢ i → Has c (reverse (node_at ns p).children) → (c < length ns) × (c ≢ i)

module _ (i : ℕ) (ns : List Node) (h : i < length ns) (few : length ns ≤ no_node) (s s' : Store) (k : KeepsBut i ns s) (v : StoreClosed (length ns) i s s') where
  abbrev M : List Node
  M = close_up i ns

  -- where node j stood
  was_in : (j : ℕ) → j < length M → opened i j < length ns
  was_in j l = omega (arith, opened_near i j, length_close i ns h)

  -- its children then, last to first
  abbrev were : ℕ → List ℕ
  were j = reverse (node_at ns (opened i j)).children

  now_are : (j : ℕ) → reverse (node_at M j).children ≡ map (closed i) (were j)
  now_are j = ap (λ (n : Node). reverse n.children) (at_close i ns j) ∙ sym (map-reverse (closed i) (node_at ns (opened i j)).children)

  others : (j : ℕ) → j < length M → Others (length ns) i few (were j)
  others j l c z = k.below (opened i j) c (was_in j l) (opened_not i j) z

  pub keeps-closed : Keeps M (columns_of s')
  keeps-closed = record { rows = row; children = chain }
    where
      row : (j : ℕ) → j < length M → node_at M j ≡ node_from (row_at s'.rows j) (node_at M j).children
      row j l =
          let o = opened i j in
          let r : Row = row_at s.rows o in
          let e = k.rows o (was_in j l) (opened_not i j) in
          node_lift M s'.rows j (closed_node i (node_at ns o)) (closed_row i r) (at_close i ns j) (row-closed (length ns) i s.rows s'.rows v.rows j (was_in j l))
          (ap (closed_node i) e
          ∙ (λ x. record {
            name = name_in r.name;
            parent = sym (parent-closed (length ns) i r.parent.0 few (λ p f. k.above o p (was_in j l) (opened_not i j) (ap (λ (n : Node). n.parent) e ∙ f))) x;
            point = r.point;
            children = map (closed i) (node_at ns o).children;
            path = r.path;
            capacitance = zero_figure;
            delay = zero_figure;
          }))

      chain : (p : ℕ) → p < length M → ChildrenAre s'.links.last s'.links.prev p (node_at M p).children
      chain p l =
          rw (now_are p, reads_at v.last p (was_in p l))
          (chain-closed (length ns) i few s.links.prev s'.links.prev v.prev _ (were p) (others p l) (k.held (opened i p) (was_in p l) (opened_not i p)).chain)

  pub backs-closed : Backs M s'.links.next
  backs-closed p l =
      rw (now_are p)
      (subst (λ (x : ℕ). BackedBy s'.links.next x (map (closed i) (were p))) (link_none i no_node refl)
      (backed-closed (length ns) i few s.links.next s'.links.next v.next no_node (were p) (others p l) (k.held (opened i p) (was_in p l) (opened_not i p)).back))

-- lengths stay
pub sized-closed : (m n i : ℕ) (s s' : Store) → SizedStore m s → StoreClosed n i s s' → SizedStore m s'
sized-closed m n i s s' z v =
    record {
      rows = record {
        xs = v.rows.xs.size ∙ z.rows.xs;
        ys = v.rows.ys.size ∙ z.rows.ys;
        path = v.rows.path.size ∙ z.rows.path;
        parent = v.rows.parent.size ∙ z.rows.parent;
        kind = v.rows.kind.size ∙ z.rows.kind;
        number = v.rows.number.size ∙ z.rows.number;
      };
      links = record { last = v.last.size ∙ z.links.last; prev = v.prev.size ∙ z.links.prev; next = v.next.size ∙ z.links.next; few = z.links.few };
    }
