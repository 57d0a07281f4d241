-- One store in rows, and one change of links, by index: what stands there after it, and that lengths stay.
use Rattle.std.proofs.Common.{ℕ, ◌<◌, ◌≡◌, ap, sym, subst, ◌∙◌, ◌≢◌, Bool, true, false, cond, List, [], ◌∷◌, ◌++◌, reverse, arith, length, get_or, set, length-set, get_or-set_same, get_or-set_other, eqb, pos}
use borrow.Author.Tests.{ne_eqb}
use Rattle.tree.specs.Limits.{no_node}
use Rattle.tree.specs.Tree.{Node, at, node_at}
use Rattle.tree.specs.Shape.{count}
use Rattle.tree.specs.Memory.{named, type_of, name_in}
use Rattle.tree.specs.Measures.{kind_of, number_of}
use Rattle.search.specs.Walk.{node_index}
use Rattle.search.specs.Columns.{Has, Distinct, Chain, chain}
use Rattle.joining.specs.declared.Row.{Row}
use Rattle.joining.specs.declared.NumberedRow.{NumberedRow}
use Rattle.joining.specs.Links.{BackedBy, Links, links, SizedLinks, Attached, Detached, before_of, Appended}
use Rattle.joining.specs.Store.{Rows, Store, columns_of, Keeps, Backs, row_at, set_row, numbered_row_at, set_numbered_row, numbered, set_parent, SizedRows, node_from, parent_from}
use Rattle.joining.proofs.Lists.{Held, Apart, attach_own, attach_other}
use Rattle.joining.proofs.Agree.{has-count, count-reverse}
use Rattle.joining.proofs.Names.{named-again}

-- ---- rows
pub row_same : (m : ℕ) (r : Rows) (i : ℕ) (n : Row) → SizedRows m r → i < m → row_at (set_row r i n) i ≡ n
row_same m r i n z h =
    λ k. record {
      point = record { xcoord = get_or-set_same r.xs i n.point.xcoord (pos 0) (omega (arith, z.xs)) k; ycoord = get_or-set_same r.ys i n.point.ycoord (pos 0) (omega (arith, z.ys)) k };
      path = get_or-set_same r.path i n.path 0 (omega (arith, z.path)) k;
      parent = node_index (get_or-set_same r.parent i n.parent.0 0 (omega (arith, z.parent)) k);
      name = ((λ x. named (type_of (get_or-set_same r.kind i (kind_of (name_in n.name)) 0 (omega (arith, z.kind)) x)) (get_or-set_same r.number i (number_of (name_in n.name)) 0 (omega (arith, z.number)) x)) ∙ named-again n.name) k;
    }

pub row_other : (r : Rows) (i j : ℕ) (n : Row) → j ≢ i → row_at (set_row r i n) j ≡ row_at r j
row_other r i j n h =
    λ k. record {
      point = record { xcoord = get_or-set_other r.xs i j n.point.xcoord (pos 0) h k; ycoord = get_or-set_other r.ys i j n.point.ycoord (pos 0) h k };
      path = get_or-set_other r.path i j n.path 0 h k;
      parent = node_index (get_or-set_other r.parent i j n.parent.0 0 h k);
      name = named (type_of (get_or-set_other r.kind i j (kind_of (name_in n.name)) 0 h k)) (get_or-set_other r.number i j (number_of (name_in n.name)) 0 h k);
    }

-- the same of a row whose kind and number are numbers
pub numbered_same : (m : ℕ) (r : Rows) (i : ℕ) (n : NumberedRow) → SizedRows m r → i < m → numbered_row_at (set_numbered_row r i n) i ≡ n
numbered_same m r i n z h =
    λ k. record {
      point = record { xcoord = get_or-set_same r.xs i n.point.xcoord (pos 0) (omega (arith, z.xs)) k; ycoord = get_or-set_same r.ys i n.point.ycoord (pos 0) (omega (arith, z.ys)) k };
      path = get_or-set_same r.path i n.path 0 (omega (arith, z.path)) k;
      parent = node_index (get_or-set_same r.parent i n.parent.0 0 (omega (arith, z.parent)) k);
      kind = get_or-set_same r.kind i n.kind 0 (omega (arith, z.kind)) k;
      number = get_or-set_same r.number i n.number 0 (omega (arith, z.number)) k;
    }

pub numbered_other : (r : Rows) (i j : ℕ) (n : NumberedRow) → j ≢ i → numbered_row_at (set_numbered_row r i n) j ≡ numbered_row_at r j
numbered_other r i j n h =
    λ k. record {
      point = record { xcoord = get_or-set_other r.xs i j n.point.xcoord (pos 0) h k; ycoord = get_or-set_other r.ys i j n.point.ycoord (pos 0) h k };
      path = get_or-set_other r.path i j n.path 0 h k;
      parent = node_index (get_or-set_other r.parent i j n.parent.0 0 h k);
      kind = get_or-set_other r.kind i j n.kind 0 h k;
      number = get_or-set_other r.number i j n.number 0 h k;
    }

abbrev pub child_of : ℕ → Row → Row
child_of p n = record { point = n.point; path = n.path; parent = node_index p; name = n.name }

pub parent-same : (m : ℕ) (r : Rows) (i p : ℕ) → SizedRows m r → i < m → row_at (set_parent r i p) i ≡ child_of p (row_at r i)
parent-same m r i p z h = ap (λ (x : ℕ). child_of x (row_at r i)) (get_or-set_same r.parent i p 0 (omega (arith, z.parent)))

pub parent_other : (r : Rows) (i j p : ℕ) → j ≢ i → row_at (set_parent r i p) j ≡ row_at r j
parent_other r i j p h = ap (λ (x : ℕ). child_of x (row_at r j)) (get_or-set_other r.parent i j p 0 h)

pub sized_numbered : (m : ℕ) (r : Rows) (i : ℕ) (n : NumberedRow) → SizedRows m r → SizedRows m (set_numbered_row r i n)
sized_numbered m r i n z =
    record {
      xs = length-set r.xs i _ ∙ z.xs;
      ys = length-set r.ys i _ ∙ z.ys;
      path = length-set r.path i _ ∙ z.path;
      parent = length-set r.parent i _ ∙ z.parent;
      kind = length-set r.kind i _ ∙ z.kind;
      number = length-set r.number i _ ∙ z.number;
    }

pub sized_row : (m : ℕ) (r : Rows) (i : ℕ) (n : Row) → SizedRows m r → SizedRows m (set_row r i n)
sized_row m r i n z = sized_numbered m r i (numbered n) z

pub sized-parent : (m : ℕ) (r : Rows) (i p : ℕ) → SizedRows m r → SizedRows m (set_parent r i p)
sized-parent m r i p z = record { xs = z.xs; ys = z.ys; path = z.path; parent = length-set r.parent i _ ∙ z.parent; kind = z.kind; number = z.number }

pub parent-at : (p : ℕ) → p < no_node → parent_from p ≡ at p
unfolding parent_from
parent-at p h = rw (ne_eqb p no_node (λ e. omega arith))

-- the node at j is x, its row is n, and x is what n says
pub node_lift : (M : List Node) (r : Rows) (j : ℕ) (x : Node) (n : Row) → node_at M j ≡ x → row_at r j ≡ n → x ≡ node_from n x.children → node_at M j ≡ node_from (row_at r j) (node_at M j).children
node_lift M r j x n e f h = e ∙ h ∙ (λ i. node_from (sym f i) (sym e i).children)

-- ---- links
pub held : {ns : List Node} {c : Store} → Keeps ns (columns_of c) → Backs ns c.links.next → (j : ℕ) → j < length ns → Held c.links j (node_at ns j).children
held k b j l = record { chain = k.children j l; back = b j l }

pub held_lift : (M : List Node) (l : Links) (j : ℕ) (x : Node) → node_at M j ≡ x → Held l j x.children → Held l j (node_at M j).children
held_lift M l j x e h = subst (λ (n : Node). Held l j n.children) (sym e) h

pub absent : (x : ℕ) (l : List ℕ) → count x l ≡ 0 → Has x (reverse l) → ⊥
absent x l e h = omega (arith, has-count x (reverse l) h, count-reverse x l)

module _ (m : ℕ) (l : Links) (p c : ℕ) (l' : Links) (z : SizedLinks m l) where
  pub attached-sized : Attached l p c l' → SizedLinks m l'
  attached-sized v =
      record {
        last = ap length v.lasts ∙ length-set l.last p c ∙ z.last;
        prev = ap length v.prevs ∙ length-set l.prev c _ ∙ z.prev;
        next = ap length v.nexts ∙ length-set (set l.next c no_node) _ c ∙ length-set l.next c no_node ∙ z.next;
        few = z.few;
      }

  pub detached_sized : Detached l p c l' → SizedLinks m l'
  detached_sized v =
      record {
        last = ap length v.lasts ∙ last_by (eqb (get_or l.last p 0) c);
        prev = ap length v.prevs ∙ prev_by (eqb (get_or l.last p 0) c);
        next = ap length v.nexts ∙ length-set l.next _ _ ∙ z.next;
        few = z.few;
      }
    where
      last_by : (t : Bool) → length (cond t (set l.last p (get_or l.prev c 0)) l.last) ≡ m
      last_by true = length-set l.last p _ ∙ z.last
      last_by false = z.last

      prev_by : (t : Bool) → length (cond t l.prev (set l.prev (before_of (chain l.prev (get_or l.last p 0)) c) (get_or l.prev c 0))) ≡ m
      prev_by true = z.prev
      prev_by false = length-set l.prev _ _ ∙ z.prev

-- c, which has no children, goes last among p's
module _ (m : ℕ) (l : Links) (p c : ℕ) (l' : Links) (v : Appended l p c l') (z : SizedLinks m l) where
  abbrev cut : Links
  cut = links (set l.last c no_node) l.prev l.next

  cut_sized : SizedLinks m cut
  cut_sized = record { last = length-set l.last c no_node ∙ z.last; prev = z.prev; next = z.next; few = z.few }

  pub appended_sized : SizedLinks m l'
  appended_sized = attached-sized m cut p c l' cut_sized v

  still : (q : ℕ) (cs : List ℕ) → q ≢ c → Held l q cs → Held cut q cs
  still q cs n h = record { chain = rw (get_or-set_other l.last c q no_node 0 n) h.chain; back = h.back }

  module _ (hp : p < m) (hc : c < m) (ne : p ≢ c) (cs : List ℕ) (h : Held l p cs) where
    pub appended_own : Distinct (reverse cs) → (Has c (reverse cs) → ⊥) → Held l' p (cs ++ (c ∷ []))
    appended_own = attach_own m cut l' cut_sized p c hp hc v cs (still p cs ne h)

    pub appended_other : (q : ℕ) (ds : List ℕ) → q ≢ p → q ≢ c → Held l q ds → (Has c (reverse ds) → ⊥) → Apart cs ds → Held l' q ds
    appended_other q ds d n g f apart = attach_other m cut l' cut_sized p c hp hc v cs (still p cs ne h) q ds d (still q ds n g) f apart

    pub appended_self : Held l' c []
    unfolding Chain BackedBy Has
    appended_self =
        attach_other m cut l' cut_sized p c hp hc v cs (still p cs ne h) c [] (λ e. ne (sym e))
        (record { chain = get_or-set_same l.last c no_node 0 (omega (arith, z.last)); back = tt }) (λ x. x) (λ x a b. b)
