-- A node that the walk pops, in columns: it and its children can be read, and there is room for them. What is left of the walk then is `again` of `Popped`.
use Rattle.std.proofs.Common.{ℕ, ◌+◌, ◌*◌, ◌-◌, ◌≤◌, ◌<◌, ◌≡◌, refl, ap, sym, ◌∙◌, subst, Bool, true, false, not, List, [], arith, eqb, ℤ, length, get_or}
use borrow.Author.Tests.{eqb-true}
use Rattle.geometry.specs.declared.Rectangle.{Rectangle}
use Rattle.geometry.specs.Laws.{Within}
use Rattle.tree.specs.Limits.{longest_path, reach, no_node}
use Rattle.search.specs.declared.Best.{Best}
use Rattle.search.specs.declared.Query.{Query}
use Rattle.search.specs.declared.NodeView.{NodeView}
use Rattle.search.specs.Walk.{view_at, start}
use Rattle.search.specs.Columns.{InReach, Has, chain, children_of, Chained, TreeColumns}
use Rattle.search.specs.Thin.{is_wanted, NearChildren, Pushes}
use Rattle.search.proofs.Chains.{ended, chain-short}
use Rattle.search.proofs.WalkTurns.{Round, Popped, pops}

-- a node that the code leaves off the stack is a leaf
idle : (last prev : List ℕ) → length prev ≤ no_node → (c : ℕ) → is_wanted last c ≡ false → children_of last prev c ≡ []
idle last prev few c e = ended prev (get_or last c 0) few (eqb-true (get_or last c 0) no_node (by (eqb (get_or last c 0) no_node) e))
  where
    by : (t : Bool) → not t ≡ false → t ≡ true
    by true e = refl
    by false e = sym e

module _ {n : ℕ} {a : Query} {xs ys : List ℤ} {path last prev : List ℕ} (f : TreeColumns n a xs ys path last prev) {ks : List Rectangle} {room : ℕ} {st : List ℕ} {found : Best} {top m left : ℕ}
    (r : Round ks a (view_at xs ys path) (children_of last prev) n room n (start a) st found top m left) (h : 0 < top) where
  abbrev p : ℕ
  p = get_or st (top - 1) 0

  popped : Popped ks a (view_at xs ys path) (children_of last prev) n room n (start a) (λ b. is_wanted last) st found top m left
  popped = pops _ _ _ _ _ _ _ _ tt (λ b. is_wanted last) (λ b x l e. idle last prev f.few x e) f.below _ _ _ _ _ r h

  in_reach : (i : ℕ) → i < n → InReach xs ys path i
  in_reach i l = record { in_xs = omega (arith, f.in_xs, f.in_prev); in_ys = omega (arith, f.in_ys, f.in_prev); in_path = omega (arith, f.in_path, f.in_prev) }

  pub reach_popped : InReach xs ys path p
  reach_popped = in_reach p popped.here

  pub some_left : 0 < left
  some_left = popped.some

  -- P is what is read of the node
  module _ {P : NodeView} (e : P ≡ view_at xs ys path p) where
    pub in_links : (P.node.0 < length last) × (P.node.0 < length prev)
    in_links = rw e (omega (arith, popped.here, f.in_last, f.in_prev), omega (arith, popped.here, f.in_prev))

    pub linked : Chained prev (get_or last P.node.0 0)
    linked = rw e (f.links p popped.here)

    pub in_stack : length st ≡ room → top - 1 + length (children_of last prev P.node.0) ≤ length st
    in_stack s = rw e (omega (arith, popped.fits, s))

    pub near : NearChildren a P xs ys path last prev (children_of last prev P.node.0)
    near =
        rw e
        (record {
          few = f.few;
          each = λ i h.
              let l = f.below p i popped.here h in
              record {
                here = in_reach i l;
                in_last = omega (arith, l, f.in_last, f.in_prev);
                near = record { within = f.within; p = f.near p popped.here; c = f.near i l; path = f.long p popped.here };
              };
        })

    module _ {found' : Best} {st' : List ℕ} {top' looked : ℕ} (w : Pushes ks a (view_at xs ys path) (λ b. is_wanted last) P (children_of last prev P.node.0) found st (top - 1) found' st' top' looked) where
      short : looked ≤ 65535
      short = omega (arith, w.counts, f.few, chain-short (length prev) prev (get_or last P.node.0 0))

      -- the number of branches fits
      pub fits : m + looked < 4294967296
      fits = omega (arith, short, r.few, popped.some, f.few, f.in_prev)

      pub again : length st' ≡ length st → {left' : ℕ} → left' ≡ left - 1 → Round ks a (view_at xs ys path) (children_of last prev) n room n (start a) st' found' top' (m + looked) left'
      again s h' = rw h' (popped.again P (children_of last prev P.node.0) found' st' top' looked (m + looked) e (ap (λ (x : NodeView). children_of last prev x.node.0) e) s w short refl)
