-- What the code that takes one node out needs, and what it shows: from a tree that stands in the columns, the tree with that node gone.
use Rattle.std.proofs.Common.{ℕ, ◌≤◌, ◌<◌, ◌≡◌, ap, sym, subst, ◌∙◌, Bool, true, false, List, reverse, arith, length, get_or}
use Rattle.tree.specs.Limits.{no_node}
use Rattle.tree.specs.Tree.{Node, Tree, at, node_at}
use Rattle.tree.specs.WellFormed.{WellFormed}
use Rattle.tree.specs.Optimize.{lone, remove, with_nodes}
use Rattle.tree.proofs.Removing.{Lone, lone-found, in_i, in_p, in_c, removed}
use Rattle.search.specs.Columns.{Has, Chain, chain}
use Rattle.search.proofs.Chains.{chain_is}
use Rattle.search.proofs.Distinct.{pigeon}
use Rattle.joining.specs.declared.Counts.{Counts}
use Rattle.joining.specs.Links.{Links, BackedBy, SizedLinks}
use Rattle.joining.specs.Store.{rows_of, Store, store, SizedStore}
use Rattle.joining.specs.Standing.{Stores, Stands}
use Rattle.joining.proofs.Agree.{has-child, once}
use Rattle.joining.proofs.Backing.{chain_in}
use Rattle.removing.specs.Store.{lone_at, LoneReads, Bypassable, Bypassed, StoreClosed, one_fewer}
use Rattle.optimizing.specs.Removal.{LoneIn, Removed, NodeIn, tidied, Tidied}
use Rattle.optimizing.proofs.Closing.{sized-closed}
use Rattle.optimizing.proofs.Removing.{reads-parent, reads-child, sized-bypass, keeps-remove, backs-remove}
use Rattle.removing.proofs.Testing as T

-- ---- a lone node goes
-- its index is one of the columns'
pub in_columns : {i : ℕ} {k : Counts} {s : Store} → Stands (LoneIn i) k s → i < length s.rows.xs
in_columns v = omega (arith, in_i v.formed.linked (lone-found v.formed _ v.when), v.stores.size, v.fits)

-- p and c are what is read for its parent and its child
module _ (i : ℕ) (k : Counts) (s : Store) (v : Stands (LoneIn i) k s) (p c : ℕ) (ep : p ≡ get_or s.rows.parent i 0) (ec : c ≡ get_or s.links.last i 0) where
  abbrev m : ℕ
  m = length s.rows.xs

  -- any tree that stands there
  module _ (t : Tree) (f : WellFormed t) (l : LoneIn i t) (st : Stores t k s) where
    abbrev w : Lone t.nodes i
    w = lone-found f i l

    fits : length t.nodes ≤ m
    fits = omega (arith, st.size, v.fits)

    p_is : p ≡ w.p
    p_is = ep ∙ reads-parent t.nodes f.linked i w m s v.sized st.keeps st.backs fits

    c_is : c ≡ w.c
    c_is = ec ∙ reads-child t.nodes f.linked i w m s v.sized st.keeps st.backs fits

    past_it : (parent' : List ℕ) (l' : Links) → Bypassed i p c s.rows.parent s.links parent' l' → Bypassed i w.p w.c s.rows.parent s.links parent' l'
    past_it parent' l' o =
        subst (λ (x : ℕ). Bypassed i x w.c s.rows.parent s.links parent' l') p_is
        (subst (λ (x : ℕ). Bypassed i p x s.rows.parent s.links parent' l') c_is o)

  abbrev ns : List Node
  ns = v.tree.nodes

  abbrev lone-there : Lone ns i
  lone-there = w v.tree v.formed v.when v.stores

  in_nodes : (p < length ns) × ((c < length ns) × (i < length ns))
  in_nodes = (
    subst (λ (x : ℕ). x < length ns) (sym (p_is v.tree v.formed v.when v.stores)) (in_p v.formed.linked lone-there),
    (subst (λ (x : ℕ). x < length ns) (sym (c_is v.tree v.formed v.when v.stores)) (in_c v.formed.linked lone-there), in_i v.formed.linked lone-there),
  )

  children_p : chain s.links.prev (get_or s.links.last p 0) ≡ reverse (node_at ns p).children
  children_p =
      let held = v.stores.keeps.children p in_nodes.0 in
      chain_is (length s.links.prev) s.links.prev _ _ (omega (arith, v.sized.links.prev, v.sized.links.few)) held
      (pigeon (length s.links.prev) _ (once ns v.formed.linked p) (λ x a. chain_in s.links.prev _ x _ held a))

  pub may_bypass : Bypassable i p c s.rows.parent s.links
  may_bypass =
      record {
        sized = subst (λ (n : ℕ). SizedLinks n s.links) (sym v.sized.rows.parent) v.sized.links;
        in_i = omega (arith, in_columns v, v.sized.rows.parent);
        in_p = omega (arith, in_nodes.0, v.stores.size, v.fits, v.sized.rows.parent);
        in_c = omega (arith, in_nodes.1.0, v.stores.size, v.fits, v.sized.rows.parent);
        linked = record { is = subst (Chain s.links.prev (get_or s.links.last p 0)) (sym children_p) (v.stores.keeps.children p in_nodes.0) };
        has = subst (Has i) (sym children_p)
            (has-child ns v.formed.linked p i (lone-there.over ∙ sym (ap at (p_is v.tree v.formed v.when v.stores))));
        backed = subst (BackedBy s.links.next no_node) (sym children_p) (v.stores.backs p in_nodes.0);
      }

  pub may_close : (n : ℕ) → n ≡ k.nodes → (i < n) × (n ≤ m)
  may_close n e = (omega (arith, in_nodes.1.1, v.stores.size), omega (arith, v.fits))

  module _ (parent' : List ℕ) (l' : Links) (o : Bypassed i p c s.rows.parent s.links parent' l') where
    abbrev s₁ : Store
    s₁ = store (rows_of s.rows.xs s.rows.ys s.rows.path parent' s.rows.kind s.rows.number) l'

    sized₁ : SizedStore m s₁
    sized₁ =
        let t = v.tree in let f = v.formed in let st = v.stores in
        sized-bypass ns f.linked i lone-there m s v.sized st.keeps st.backs (fits t f v.when st) parent' l' (past_it t f v.when st parent' l' o)

    pub did_remove : (n : ℕ) → n ≡ k.nodes → (s₂ : Store) → StoreClosed n i s₁ s₂ → (r : Counts) → r ≡ one_fewer k → Removed i k s r s₂
    did_remove n e s₂ q r er =
        subst (λ (x : Counts). Removed i k s x s₂) (sym er)
        (record {
          stores = λ t f l st.
              let q' : StoreClosed (length t.nodes) i s₁ s₂ = subst (λ (x : ℕ). StoreClosed x i s₁ s₂) (e ∙ sym st.size) q in
              let o' = past_it t f l st parent' l' o in
              record {
                size = omega (arith, removed t f i l, st.size);
                steiner = st.steiner;
                terminal = st.terminal;
                keeps = keeps-remove t.nodes f.linked i (w t f l st) m s v.sized st.keeps st.backs (fits t f l st) parent' l' o' s₂ q';
                backs = backs-remove t.nodes f.linked i (w t f l st) m s v.sized st.keeps st.backs (fits t f l st) parent' l' o' s₂ q';
              };
          sized = sized-closed m n i s₁ s₂ sized₁ q;
        })

-- ---- a node goes if it is lone; b is the code's answer
module _ (i : ℕ) (k : Counts) (s : Store) (v : Stands (NodeIn i) k s) where
  pub may_test : LoneReads s.rows.kind s.links.last s.links.prev i
  may_test = T.may_test v.tree.nodes _ s v.sized v.stores.keeps (omega (arith, v.stores.size, v.fits)) i v.when

  module _ (b : Bool) (eb : b ≡ lone_at s.rows.kind s.links.last s.links.prev i) where
    answer : (t : Tree) → NodeIn i t → Stores t k s → b ≡ lone t.nodes i
    answer t h st = eb ∙ T.lone_is t.nodes _ s v.sized st.keeps (omega (arith, st.size, v.fits)) i h

    pub stands-lone : b ≡ true → Stands (LoneIn i) k s
    stands-lone e =
        record {
          tree = v.tree;
          formed = v.formed;
          stores = v.stores;
          when = sym (answer v.tree v.when v.stores) ∙ e;
          sized = v.sized;
          fits = v.fits;
        }

    -- what is left
    after : (t : Tree) → NodeIn i t → Stores t k s → (ms : List Node) → ms ≡ tidied i t.nodes → (r : Counts) (s' : Store) → Stores (with_nodes t ms) r s' → Stores (with_nodes t (tidied i t.nodes)) r s'
    after t h st ms e r s' o = subst (λ (x : List Node). Stores (with_nodes t x) r s') e o

    pub did_tidy : b ≡ true → (r : Counts) (s' : Store) → Removed i k s r s' → Tidied i k s r s'
    unfolding tidied
    did_tidy e r s' o =
        record {
          stores = λ t f h st.
              let l : LoneIn i t = sym (answer t h st) ∙ e in
              after t h st (remove i t.nodes) (rw l) r s' (o.stores t f l st);
          sized = o.sized;
        }

    pub left_alone : b ≡ false → Tidied i k s k s
    unfolding tidied
    left_alone e = record { stores = λ t f h st. after t h st t.nodes (rw (sym (answer t h st) ∙ e)) k s st; sized = v.sized }
