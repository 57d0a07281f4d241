-- The node that a name leads to: the loop that looks for it passes over nodes of other names.
use Rattle.std.proofs.Common.{ℕ, zero, suc, ◌+◌, ◌≤◌, ◌<◌, ◌≡◌, refl, sym, ap, ◌∙◌, Bool, true, false, List, arith, get_or}
use borrow.Author.Tests.{eq-eqb, ne_eqb}
use Rattle.tree.specs.Tree.{Node, Name, node_at, blank}
use Rattle.tree.specs.Measures.{Lookup, missing, found, kind_of, number_of, same_name, lookup}
use Rattle.tree.specs.Memory.{type_of, named, name_in}
use Rattle.tree.specs.declared.NodeName.{NodeName}
use Rattle.tree.specs.declared.NodeName.TheVariants.{Source, Steiner, Terminal}
use Rattle.tree.proofs.Deciding.{Tri, less, equal, more, tri}
use Rattle.joining.specs.Store.{Columns, name_from, node_of, nodes_of}
use Rattle.joining.proofs.Reading.{get_or-upto}

-- ---- the lowest of the first k nodes
abbrev index : Lookup → ℕ
index missing = 0
index (found i) = i

abbrev pub Other : (ℕ → Name) → Name → ℕ → Type 0
Other name x k = (j : ℕ) → j < k → same_name (name j) x ≡ false

module _ (ns : List Node) (x : Name) where
  none_has : (k : ℕ) → Other (λ j. (node_at ns j).name) x k → lookup ns x k ≡ missing
  unfolding lookup
  none_has zero f = refl
  none_has (suc k) f = rw (none_has k (λ j h. f j (omega arith))) (rw (f k (omega arith)))

  first-has : (k i : ℕ) → i < k → Other (λ j. (node_at ns j).name) x i → same_name (node_at ns i).name x ≡ true → lookup ns x k ≡ found i
  unfolding lookup
  first-has zero i h f t = absurd (omega arith)
  first-has (suc k) i h f t = by (tri i k) (λ l. first-has k i l f t)
    where
      by : Tri i k → (i < k → lookup ns x k ≡ found i) → lookup ns x (suc k) ≡ found i
      by (less l) ih = rw (ih l)
      by (equal e) ih = rw (none_has k (λ j l. f j (omega arith))) (rw (ap (λ (j : ℕ). same_name (node_at ns j).name x) (sym e) ∙ t) (ap found (sym e)))
      by (more l) ih = absurd (omega arith)

  -- and it is one of them
  pub found-low : (k i : ℕ) → lookup ns x k ≡ found i → i < k
  unfolding lookup
  found-low zero i e = absurd (let z : ◌≡◌ {A = ℕ} 0 1 = cc in omega arith)
  found-low (suc k) i e = by (lookup ns x k) refl (found-low k)
    where
      last : (t : Bool) → same_name (node_at ns k).name x ≡ t → lookup ns x k ≡ missing → i < suc k
      last true t m = let z : found k ≡ found i = sym (rw m (rw t refl)) ∙ e in omega (arith, ap index z)
      last false t m = absurd (let z : missing ≡ found i = sym (rw m (rw t refl)) ∙ e in let y : ◌≡◌ {A = ℕ} 0 1 = cc in omega arith)

      by : (l : Lookup) → lookup ns x k ≡ l → ((j : ℕ) → lookup ns x k ≡ found j → j < k) → i < suc k
      by (found j) m ih = let z : found j ≡ found i = sym (rw m refl) ∙ e in omega (arith, ih j m, ap index z)
      by missing m ih = last (same_name (node_at ns k).name x) refl m

-- ---- the code's names and the definition's
same : (a : Name) → same_name a a ≡ true
same a = rw (eq-eqb (kind_of a) (kind_of a) refl) (eq-eqb (number_of a) (number_of a) refl)

other : (a b : NodeName) → (a ≡ b → ⊥) → same_name (name_in a) (name_in b) ≡ false
other Source Source f = absurd (f refl)
other Source (Steiner l) f = refl
other Source (Terminal l) f = refl
other (Steiner k) Source f = refl
other (Steiner k) (Steiner l) f = ne_eqb k.0 l.0 (λ z. f (ap (λ (n : ℕ). Steiner (record { 0 = n })) z))
other (Steiner k) (Terminal l) f = refl
other (Terminal k) Source f = refl
other (Terminal k) (Steiner l) f = refl
other (Terminal k) (Terminal l) f = ne_eqb k.0 l.0 (λ z. f (ap (λ (n : ℕ). Terminal (record { 0 = n })) z))

-- ---- in columns
abbrev pub own_name : List ℕ → List ℕ → ℕ → Name
own_name kind number j = name_from (get_or kind j 0) (get_or number j 0)

module _ (kind number : List ℕ) (x : NodeName) where
  abbrev own : ℕ → Name
  own = own_name kind number

  -- the name that the code reads at node i, which may be given by its place k
  module _ (i k : ℕ) (e : k ≡ i) (o : NodeName) (eo : o ≡ named (type_of (get_or kind k 0)) (get_or number k 0)) where
    is : own i ≡ name_in o
    is = sym (ap name_in eo ∙ ap own e)

    pub met : o ≡ x → same_name (own i) (name_in x) ≡ true
    met h = ap (λ (y : Name). same_name y (name_in x)) is ∙ ap (λ (y : NodeName). same_name (name_in y) (name_in x)) h ∙ same (name_in x)

    pub missed : (o ≡ x → ⊥) → same_name (own i) (name_in x) ≡ false
    missed f = ap (λ (y : Name). same_name y (name_in x)) is ∙ other o x f

  module _ (n : ℕ) (c : Columns) (ek : c.rows.kind ≡ kind) (en : c.rows.number ≡ number) (i : ℕ) (f : Other own (name_in x) i) where
    name-at : (j : ℕ) → j < n → (node_at (nodes_of c n) j).name ≡ own j
    unfolding node_at
    name-at j h = ap (λ (m : Node). m.name) (get_or-upto (node_of c) blank n j h) ∙ (λ i. name_from (get_or (ek i) j 0) (get_or (en i) j 0))

    others : (k : ℕ) → k ≤ n → k ≤ i → Other (λ j. (node_at (nodes_of c n) j).name) (name_in x) k
    others k l m j h = ap (λ (y : Name). same_name y (name_in x)) (name-at j (omega arith)) ∙ f j (omega arith)

    pub named_none : n ≤ i → missing ≡ lookup (nodes_of c n) (name_in x) n
    named_none h = sym (none_has (nodes_of c n) (name_in x) n (others n (omega arith) h))

    pub named-first : i < n → same_name (own i) (name_in x) ≡ true → found i ≡ lookup (nodes_of c n) (name_in x) n
    named-first h t = sym (first-has (nodes_of c n) (name_in x) n i h (others i (omega arith) (omega arith)) (ap (λ (y : Name). same_name y (name_in x)) (name-at i h) ∙ t))
