-- What columns that store a well-formed tree give: its nodes can be read, its children are the chains, the search can walk it, and it can be had back from them.
use Rattle.std.proofs.Common.{ℕ, zero, suc, ◌≤◌, ◌<◌, ◌≡◌, refl, ap, sym, subst, ◌∙◌, List, [], ◌∷◌, ◌++◌, reverse, arith, length, get_or, length-append, ext_get_or, get_or-append-add}
use Rattle.std.proofs.Math.ListN.{get_or-append}
use mathlib.Core.List.{reverse-reverse}
use Rattle.geometry.specs.Laws.{Within}
use Rattle.tree.specs.Limits.{longest_path, most_nodes, no_node, reach}
use Rattle.tree.specs.Tree.{Node, Tree, node_at, blank}
use Rattle.tree.specs.WellFormed.{WellFormed}
use Rattle.tree.proofs.Deciding.{Tri, less, equal, more, tri}
use Rattle.tree.proofs.Forming.{terminals-few}
use Rattle.search.specs.Columns.{chain}
use Rattle.search.specs.Find.{examined, Kept, Walkable}
use Rattle.search.proofs.TreeWalk.{chains_are}
use Rattle.joining.specs.Links.{links, BackedBy, Backed}
use Rattle.joining.specs.Store.{Columns, Store, columns_of, row_at, node_from, node_of, nodes_of, up_to, Sized, SizedStore, Keeps, Backs}
use Rattle.joining.specs.Join.{ReadsIn}
use Rattle.joining.proofs.Agree.{walkable}

-- ---- lists by index
pub length_upto : {A : Type 0} (f : ℕ → A) (n : ℕ) → length (up_to f n) ≡ n
unfolding up_to
length_upto f zero = refl
length_upto f (suc n) = omega (arith, length-append (up_to f n) (f n ∷ []), length_upto f n)

pub get_or-upto : {A : Type 0} (f : ℕ → A) (d : A) (n i : ℕ) → i < n → get_or (up_to f n) i d ≡ f i
unfolding up_to
get_or-upto f d zero i h = absurd (omega arith)
get_or-upto f d (suc n) i h = by (tri i n) (get_or-upto f d n i)
  where
    by : Tri i n → (i < n → get_or (up_to f n) i d ≡ f i) → get_or (up_to f n ++ (f n ∷ [])) i d ≡ f i
    by (less a) ih = get_or-append (up_to f n) (f n ∷ []) d i (omega (arith, length_upto f n)) ∙ ih a
    by (equal a) ih =
        ap (λ (x : ℕ). get_or (up_to f n ++ (f n ∷ [])) x d) (omega (arith, length_upto f n)) ∙ get_or-append-add (up_to f n) (f n ∷ []) 0 d ∙ ap f (sym a)
    by (more a) ih = absurd (omega arith)

-- ---- a tree in columns of length m
pub sized-columns : {m : ℕ} {s : Store} → SizedStore m s → Sized m (columns_of s)
sized-columns z = record { rows = z.rows; last = z.links.last; prev = z.links.prev; few = z.links.few }

module _ (t : Tree) (f : WellFormed t) (few : length t.nodes ≤ most_nodes) where
  pub path-low : (i : ℕ) → (node_at t.nodes i).path ≤ longest_path
  path-low i = omega (arith, f.short i, terminals-few f)

  pub walks : Walkable t.nodes
  walks = walkable t.nodes f.linked f.near path-low

  module _ (m : ℕ) (c : Columns) (z : Sized m c) (k : Keeps t.nodes c) (room : length t.nodes ≤ m) where
    pub kept : Kept t.nodes c.rows.xs c.rows.ys c.rows.path c.last c.prev
    kept =
        record {
          in_xs = omega (arith, z.prev, z.rows.xs);
          in_ys = omega (arith, z.prev, z.rows.ys);
          in_path = omega (arith, z.prev, z.rows.path);
          in_last = omega (arith, z.prev, z.last);
          in_prev = omega (arith, z.prev);
          few = omega (arith, z.prev, z.few);
          points = λ i h. sym (ap (λ (n : Node). n.point) (k.rows i h));
          paths = λ i h. sym (ap (λ (n : Node). n.path) (k.rows i h));
          chains = k.children;
        }

    pub children_are : (p : ℕ) → p < length t.nodes → chain c.prev (get_or c.last p 0) ≡ examined t.nodes p
    children_are p h = chains_are t.nodes c.rows.xs c.rows.ys c.rows.path c.last c.prev kept walks p h

    -- the links back agree with the chains where they do with the tree's children
    pub backed_of : (next : List ℕ) → Backs t.nodes next → (p : ℕ) → p < length t.nodes → Backed (links c.last c.prev next) p
    backed_of next b p h = subst (BackedBy next no_node) (sym (children_are p h)) (b p h)

    pub backs_of : (next : List ℕ) → ((p : ℕ) → p < length t.nodes → Backed (links c.last c.prev next) p) → Backs t.nodes next
    backs_of next b p h = subst (BackedBy next no_node) (children_are p h) (b p h)

    pub reads : (p : ℕ) → p < length t.nodes → ReadsIn c.rows p
    reads p h =
        record {
          in_range = record { in_xs = omega (arith, z.rows.xs); in_ys = omega (arith, z.rows.ys); in_path = omega (arith, z.rows.path) };
          near = subst (Within reach) (ap (λ (n : Node). n.point) (k.rows p h)) (f.near p);
          long = subst (λ (x : ℕ). x ≤ longest_path) (ap (λ (n : Node). n.path) (k.rows p h)) (path-low p);
        }

    -- the columns' nodes are those that they keep
    pub nodes_are : nodes_of c (length t.nodes) ≡ t.nodes
    unfolding node_at
    nodes_are =
        ext_get_or blank (nodes_of c (length t.nodes)) t.nodes (length_upto (node_of c) (length t.nodes))
        (λ i h. by i (omega (arith, length_upto (node_of c) (length t.nodes))))
      where
        by : (i : ℕ) → i < length t.nodes → get_or (nodes_of c (length t.nodes)) i blank ≡ node_at t.nodes i
        by i h =
            get_or-upto (node_of c) blank (length t.nodes) i h
            ∙ ap (λ (l : List ℕ). node_from (row_at c.rows i) (reverse l)) (children_are i h)
            ∙ ap (node_from (row_at c.rows i)) (reverse-reverse (node_at t.nodes i).children)
            ∙ sym (k.rows i h)
