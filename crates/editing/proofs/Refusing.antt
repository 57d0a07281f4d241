-- The refusals of an edit in their order: a test that holds ends the edit, and one that does not passes it on; so with a name that is looked up.
use Rattle.std.proofs.Common.{ℕ, ◌+◌, ◌<◌, ◌≡◌, refl, sym, ap, subst, ◌∙◌, Bool, true, false, not, ◌||◌, cond, List, [], ◌∷◌, arith, ltb, eqb, length, ℤ, Option, None, Some, Ok, Err}
use Rattle.std.proofs.Math.Bool.{or-false}
use borrow.Author.Tests.{ltb-false, eqb-true}
use Rattle.std.proofs.lemmas.Bool.{not-false}
use Rattle.std.proofs.lemmas.Bool.Decides.{nat_tests}
use Rattle.geometry.specs.declared.Point.{Point}
use Rattle.geometry.specs.Laws.{Within}
use Rattle.std.specs.Option.{option_eq}
use Rattle.refusal.specs.declared.Refusal.{Refusal}
use Rattle.refusal.specs.declared.Refusal.TheVariants.{NewSource}
use Rattle.refusal.specs.Refusals.{number_of}
use Rattle.tree.specs.Limits.{most_nodes, reach}
use Rattle.tree.specs.Route.{closest}
use Rattle.tree.proofs.Deciding.{never}
use Rattle.tree.proofs.Routing.{closest_in}
use Rattle.tree.proofs.Fitting.{find-fits}
use Rattle.search.specs.declared.Query.{Query}
use Rattle.search.specs.declared.Found as F
use Rattle.tree.specs.Memory.{keepouts_of}
use Rattle.search.specs.Find.{join_of, Kept, Ready, Joins}
use Rattle.tree.specs.Tree.{Tree, Name, source, steiner, terminal, Parent, none, at}
use Rattle.tree.specs.Memory.{name_in, parent_in}
use Rattle.tree.specs.Search as T
use Rattle.tree.specs.Search.{any_of}
use Rattle.tree.specs.WellFormed.{new_nodes, Fits}
use Rattle.tree.specs.Measures as M
use Rattle.tree.specs.declared.NodeIndex.{NodeIndex}
use Rattle.tree.specs.declared.NodeName.{NodeName}
use Rattle.tree.specs.declared.NodeName.TheVariants as N
use Rattle.tree.specs.declared.NodeType.{NodeType}
use Rattle.tree.specs.declared.NodeType.TheVariants.{Source, Steiner, Terminal}
use Rattle.tree.specs.declared.SteinerNumber.{SteinerNumber}
use Rattle.tree.specs.Edits.{Next}
use Rattle.joining.specs.declared.Counts.{Counts}
use Rattle.joining.specs.Store.{Columns}
use Rattle.joining.proofs.Reading.{kept, walks}
use Rattle.job.specs.Job.{outside}
use Rattle.job.proofs.Accepted.{within}
use Rattle.job.proofs.Any.{or_no}
use Rattle.tables.proofs.TableSizes.{size, few, of_all}
use Rattle.tables.specs.declared.Table.{Table}
use Rattle.tables.specs.Nodes.{lookup_of}
use Rattle.tables.specs.Table.{table_columns, table_tree, Tabled, tabled}
use Rattle.tables.proofs.Naming.{found-low}
use Rattle.editing.specs.Edits as D
use Rattle.editing.specs.Edits.{refused, inserted, at_node, full, passes, new_names, is_child_of, parent_node, splice_at, splice_kind, join_found}
use Rattle.table_steps.specs.Steps.{Stepped, steiner_in, new_number, Numbered, Room}
use Rattle.editing.specs.Editing.{parent_name_of, kind_in, new_name, passed, overfull}

-- ---- tests. What is answered is y, which is `edit_of` of the code's answer
pub stop : (n : ℕ) (x : D.Edit) {b s : Bool} → s ≡ b → s ≡ true → refused n ≡ cond b (refused n) x
stop n x h t = rw (sym h ∙ t) refl

pub past : (n : ℕ) (x : D.Edit) {b s : Bool} {y : D.Edit} → s ≡ b → s ≡ false → y ≡ x → y ≡ cond b (refused n) x
past n x h e v = rw (sym h ∙ e) v

-- a point that is not refused is near
pub near : {q : Point} {b : Bool} → b ≡ outside q → b ≡ false → Within reach q
near h e = within _ (sym h ∙ e)

-- ---- names
module _ (f : ℕ → D.Edit) {l : M.Lookup} {x : Option NodeIndex} (h : lookup_of x ≡ l) where
  pub lost : x ≡ None → refused 7 ≡ at_node l f
  lost e = ap (λ (y : M.Lookup). at_node y f) (ap lookup_of (sym e) ∙ h)

  pub there : {p : NodeIndex} {y : D.Edit} → x ≡ Some p → y ≡ f p.0 → y ≡ at_node l f
  there e v = v ∙ ap (λ (y : M.Lookup). at_node y f) (ap lookup_of (sym e) ∙ h)

-- a node that a name leads to is in the tree
pub in_tree : (t : Table) (n : Name) {x : Option NodeIndex} {p : NodeIndex} → lookup_of x ≡ M.lookup (table_tree t).nodes n t.arena.counts.nodes → x ≡ Some p → p.0 < t.arena.counts.nodes
in_tree t n h e = found-low (table_tree t).nodes n t.arena.counts.nodes _ (sym h ∙ ap lookup_of e)

-- ---- the parent that an insert is given
pub default_is : (t : Table) (i : ℕ) {p : Option NodeName} → p ≡ None → M.found i ≡ parent_node (table_tree t) i (parent_name_of p)
default_is t i e = ap (λ (p : Option NodeName). parent_node (table_tree t) i (parent_name_of p)) (sym e)

pub named_is : (t : Table) (i : ℕ) {p : Option NodeName} {n : NodeName} {l : M.Lookup} → p ≡ Some n → l ≡ M.lookup (table_tree t).nodes (name_in n) t.arena.counts.nodes
    → l ≡ parent_node (table_tree t) i (parent_name_of p)
named_is t i {n = n} e h =
    of_all t (name_in n) h ∙ ap (λ (p : Option NodeName). parent_node (table_tree t) i (parent_name_of p)) (sym e)

abbrev index : M.Lookup → ℕ
index M.missing = 0
index (M.found i) = i

-- it is in the tree
pub parent-low : (t : Table) (i : ℕ) → i < t.arena.counts.nodes → (p : D.ParentName) {x : Option NodeIndex} {k : NodeIndex} → lookup_of x ≡ parent_node (table_tree t) i p → x ≡ Some k
    → k.0 < t.arena.counts.nodes
parent-low t i h D.default l e = let z = ap index (ap lookup_of (sym e) ∙ l) in omega (arith, z)
parent-low t i h (D.named n) l e = omega (arith, found-low (table_tree t).nodes n (length (table_tree t).nodes) _ (sym l ∙ ap lookup_of e), size t)

-- the source is
pub some : (t : Table) → 0 < t.arena.counts.nodes
some t = omega (arith, (tabled t).formed.linked.some, size t)

-- ---- the branch
turned : (a b : ℕ) → eqb a b ≡ eqb b a
turned a b = grind (arith, nat_tests)

-- whether a node's parent is p
pub child_is : (E : NodeIndex → NodeIndex → Bool) → ((x y : NodeIndex) → E x y ≡ eqb x.0 y.0) → (o : Option NodeIndex) (p : NodeIndex) → option_eq E o (Some p) ≡ is_child_of p.0 (parent_in o)
child_is E e None p = refl
child_is E e (Some x) p = e x p ∙ turned x.0 p.0

-- a branch end that is a child of the start
pub is_child_of_lem : (p : ℕ) (x : Parent) (s : Bool) → s ≡ is_child_of p x → not s ≡ false → x ≡ at p
is_child_of_lem p none s h e = never (sym (ap not h) ∙ e)
is_child_of_lem p (at x) s h e = ap at (sym (eqb-true p x (sym h ∙ not-false s e)))

-- ---- the name of a new node of a kind
module _ (t : Table) (q : Point) (p c : ℕ) where
  pub no_name : (k : NodeType) (e : Refusal) → new_name t.arena.counts k ≡ Err e → refused (number_of e) ≡ splice_kind (kind_in k) (table_tree t) q p c
  no_name Source e h = let g : e ≡ NewSource = cc in ap (λ (e : Refusal). refused (number_of e)) g
  no_name Steiner e h = absurd (cc)
  no_name Terminal e h = absurd (cc)

  pub with_name : (k : NodeType) (n : NodeName) {y : D.Edit} → new_name t.arena.counts k ≡ Ok n → y ≡ splice_at (table_tree t) (name_in n) q p c → y ≡ splice_kind (kind_in k) (table_tree t) q p c
  with_name Source n h v = absurd (cc)
  with_name Steiner n h v = let e : n ≡ N.Steiner t.arena.counts.steiner = cc in v ∙ ap (λ (m : NodeName). splice_at (table_tree t) (name_in m) q p c) e
  with_name Terminal n h v = let e : n ≡ N.Terminal t.arena.counts.terminal = cc in v ∙ ap (λ (m : NodeName). splice_at (table_tree t) (name_in m) q p c) e

pub next_name : (k : Counts) (kind : NodeType) (n : NodeName) → new_name k kind ≡ Ok n → Next k.steiner.0 k.terminal.0 (name_in n)
next_name k Source n h = absurd (cc)
next_name k Steiner n h = let e : N.Steiner k.steiner ≡ n = cc in subst (λ (m : NodeName). Next k.steiner.0 k.terminal.0 (name_in m)) e refl
next_name k Terminal n h = let e : N.Terminal k.terminal ≡ n = cc in subst (λ (m : NodeName). Next k.steiner.0 k.terminal.0 (name_in m)) e refl

-- ---- room
overfull_is : (n : ℕ) (names : List Name) (more : ℕ) (number : Option SteinerNumber) → length names ≡ more → any_of passes names ≡ passed number → full n names ≡ overfull n more number
unfolding full
overfull_is n names more number el ep = λ i. ltb most_nodes (n + el i) || ep i

number-passes : (n : Name) → any_of passes (n ∷ []) ≡ passed (steiner_in n)
unfolding any_of
number-passes source = refl
number-passes (steiner k) = or-false (ltb most_nodes k)
number-passes (terminal k) = refl

-- refusal 10 of one node, by the code's test b of its Steiner number s
pub full-one : (t : Table) (n : Name) {s : Option SteinerNumber} {b : Bool} → s ≡ steiner_in n → b ≡ overfull t.arena.counts.nodes 1 s → b ≡ full (length (table_tree t).nodes) (n ∷ [])
full-one t n es eb =
    eb ∙ ap (overfull t.arena.counts.nodes 1) es
    ∙ sym (overfull_is _ (n ∷ []) 1 (steiner_in n) refl (number-passes n) ∙ (λ i. overfull (size t i) 1 (steiner_in n)))

-- and of a joining
join-passes : (t : Table) (j : T.Join) → any_of passes (new_names (table_tree t) j) ≡ passed (new_number t.arena.counts j)
unfolding any_of
join-passes t (T.onto p) = refl
join-passes t (T.split p c) = or-false (ltb most_nodes t.arena.counts.steiner.0)

join_names : (t : Table) (j : T.Join) → length (new_names (table_tree t) j) ≡ new_nodes j
join_names t (T.onto p) = refl
join_names t (T.split p c) = refl

pub full-join : (t : Table) (j : T.Join) → overfull t.arena.counts.nodes (new_nodes j) (new_number t.arena.counts j) ≡ full (length (table_tree t).nodes) (new_names (table_tree t) j)
full-join t j =
    sym
    (overfull_is _ (new_names (table_tree t) j) (new_nodes j) (new_number t.arena.counts j) (join_names t j) (join-passes t j)
    ∙ (λ i. overfull (size t i) (new_nodes j) (new_number t.arena.counts j)))

-- without refusal 10 there is room
numbered : (number : Option SteinerNumber) → passed number ≡ false → Numbered number
numbered None e = tt
numbered (Some k) e = ltb-false most_nodes k.0 e

pub room : (t : Table) (more : ℕ) (number : Option SteinerNumber) → overfull t.arena.counts.nodes more number ≡ false → Room t more number
room t more number e =
    let h = or_no _ _ e in
    (ltb-false most_nodes (t.arena.counts.nodes + more) h.0, numbered number h.1)

pub room_for : (t : Table) (n : Name) {s : Option SteinerNumber} {b : Bool} → s ≡ steiner_in n → b ≡ overfull t.arena.counts.nodes 1 s → b ≡ false → Room t 1 (steiner_in n)
room_for t n es eb e = room t 1 _ (ap (overfull t.arena.counts.nodes 1) (sym es) ∙ sym eb ∙ e)

-- ---- what an edit gives
pub gives : (n : Name) {t r : Table} {step : Tree → Tree} → Stepped step t r → inserted n (table_tree r) ≡ inserted n (step (table_tree t))
gives n v = ap (inserted n) v.is

-- ---- a tree in columns, as the search reads it; and its closest node
module _ (t : Table) where
  v : Tabled t
  v = tabled t

  pub closest-low : (q : Point) → closest (table_tree t).nodes q (length (table_tree t).nodes) < t.arena.counts.nodes
  closest-low q = omega (arith, closest_in (table_tree t).nodes q v.formed.linked.some (length (table_tree t).nodes) (omega arith), size t)

  abbrev c : Columns
  c = table_columns t

  readable : Kept (table_tree t).nodes c.rows.xs c.rows.ys c.rows.path c.last c.prev
  readable = kept (table_tree t) v.formed (few t) most_nodes c v.sized v.keeps (few t)

  -- the columns as the arena lends them
  module _ {xs ys : List ℤ} {path last prev : List ℕ} (ex : xs ≡ c.rows.xs) (ey : ys ≡ c.rows.ys) (ep : path ≡ c.rows.path) (el : last ≡ c.last) (ev : prev ≡ c.prev) where
    lent : Kept (table_tree t).nodes xs ys path last prev
    lent = search (readable, ex, ey, ep, el, ev)

    module _ (a : Query) (near : Within reach a.point) (n : ℕ) (e : n ≡ t.arena.counts.nodes) where
      pub ready : Ready n a xs ys path last prev
      ready =
          record {
            nodes = (table_tree t).nodes;
            size = size t ∙ sym e;
            small = omega (arith, v.few, e);
            kept = lent;
            tree = walks (table_tree t) v.formed (few t);
            within = near;
          }

      pub finds : (ks : List ℤ) (r : F.Found) → Joins n a xs ys path last prev ks r
          → join_of r.join ≡ T.find (T.blocked (keepouts_of ks)) (table_tree t).nodes a.limit a.allowed a.point
      finds ks r h = (h (table_tree t).nodes (size t ∙ sym e) (walks (table_tree t) v.formed (few t)) lent).join

-- the edit with the place that the search finds, z as it is read back
pub found_is : (t : Table) (ks : List ℤ) (q : Point) {x z : ℤ} (j : T.Join) {y : D.Edit} → z ≡ x → j ≡ T.find (T.blocked (keepouts_of ks)) (table_tree t).nodes t.limit z q
    → y ≡ join_found (table_tree t) q j → y ≡ join_found (table_tree t) q (T.find (T.blocked (keepouts_of ks)) (table_tree t).nodes t.limit x q)
found_is t ks q j h e v = v ∙ ap (join_found (table_tree t) q) (e ∙ ap (λ (z : ℤ). T.find (T.blocked (keepouts_of ks)) (table_tree t).nodes t.limit z q) h)

-- it is in the tree
pub fits : (t : Table) (ks : List ℤ) (q : Point) (x : ℤ) (j : T.Join) → j ≡ T.find (T.blocked (keepouts_of ks)) (table_tree t).nodes t.limit x q → Fits (table_tree t).nodes j
fits t ks q x j e = subst (Fits (table_tree t).nodes) (sym e) (find-fits (table_tree t).nodes (tabled t).formed.linked (T.blocked (keepouts_of ks)) t.limit x q)
