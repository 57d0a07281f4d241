-- A routed tree: its links, names and path lengths, its ceilings and its total, joining by joining. Demand 3 (route/specs/Demand3.antt) is put together of these.
use Rattle.std.proofs.Common.{◌≡◌, refl, sym, ap, subst, ◌∙◌, Bool, true, false, cond, List, [], ◌∷◌, ◌++◌, append_assoc, append-nil, ℕ, zero, suc, ◌+◌, ◌≤◌, ◌<◌, arith, length, T, ltb, ℤ}
use Rattle.std.proofs.Math.Decide.{dec_lt}
use borrow.Author.Tests.{ltb-true, ltb-false}
use Rattle.geometry.specs.declared.Point.{Point}
use Rattle.geometry.specs.declared.Rectangle.{Rectangle}
use Rattle.geometry.specs.Geometry.{dist}
use Rattle.geometry.specs.Signed.{is_true}
use Rattle.tree.specs.Tree.{Node, Tree, terminal, none, node_at, total, sum_to, terminals, numbered}
use Rattle.tree.specs.Search.{Join, onto, split, find, blocked}
use Rattle.tree.specs.Route.{new_node, attach, closest, joined, next_after, insert, inserts, rooted, sort, farthest, directs, route, constraints}
use Rattle.tree.proofs.Bounds.{Measured, Ceiling, Bounded}
use Rattle.tree.specs.Shape.{Linked, PathSums, Named, name_of, count, is_at}
use Rattle.tree.specs.WellFormed.{Fits}
use Rattle.tree.proofs.Order.{farthest-sort, directs-sort}
use Rattle.tree.proofs.Nodes.{length-attach, length-split}
use Rattle.tree.proofs.Linking.{child_in, parent_in_lem, not_own, none-at, linked-attach, linked-split}
use Rattle.tree.proofs.Totals.{total-attach, total-split}
use Rattle.tree.proofs.Measuring.{Core, core, core_new, core_old, core_tip, core_knot, core_rest, sums-attach, sums-split, measured_attach, measured_split}
use Rattle.tree.proofs.Naming.{source-terminal, named-split, terminals-joined}
use Rattle.tree.proofs.Adding.{adds_attach, named_adds}
use Rattle.tree.proofs.Searching.{added, joined_run, Worth, find_worth}

-- ---- one joining
module _ (s : Point) (ns : List Node) (st te : ℕ) (q : Point) (g : Linked ns) where
  abbrev pub tip : ℕ → Node
  tip p = new_node (terminal te) p q [] ((node_at ns p).path + dist (node_at ns p).point q)

  pub linked-joined : (j : Join) → Fits ns j → Linked (joined ns st te q j)
  unfolding joined
  linked-joined (onto p) h = linked-attach ns p (tip p) h g refl refl
  linked-joined (split p c) h = linked-split ns st te q p c g h

  pub sums-joined : (j : Join) → Fits ns j → PathSums ns → PathSums (joined ns st te q j)
  unfolding joined
  sums-joined (onto p) h m = sums-attach ns p (tip p) h g refl refl refl m
  sums-joined (split p c) h m = sums-split ns st te q p c g h m

  measured_joined : (j : Join) → Fits ns j → Measured s ns → Measured s (joined ns st te q j)
  unfolding joined
  measured_joined (onto p) h m = measured_attach ns p (tip p) h g refl refl refl s m
  measured_joined (split p c) h m = measured_split ns st te q p c g h s m

  total-joined : (j : Join) → Fits ns j → total (joined ns st te q j) ≡ total ns + added ns q j
  unfolding joined
  total-joined (onto p) h = total-attach ns p (tip p) h g refl refl
  total-joined (split p c) h = total-split ns st te q p c g h

  pub named-joined : (j : Join) → Fits ns j → Named (length ns) (name_of ns) st te
      → Named (length (joined ns st te q j)) (name_of (joined ns st te q j)) (next_after st j) (suc te)
  unfolding joined
  named-joined (onto p) h d = named_adds (adds_attach ns p (tip p) h) st te g.some refl d
  named-joined (split p c) h d = named-split ns st te q p c g h d

  module _ (allowed : ℤ) (w : ℕ) where
    abbrev OK : Core → Type 0
    OK x = (k : ℕ) → x.name ≡ terminal k → Ceiling allowed w (dist s x.point) x.path

    old_ok : (i : ℕ) → Bounded s allowed w ns → i < length ns → OK (core (node_at ns i))
    old_ok i b l k e = b i k l e

    -- the old nodes keep what they carry, and the new terminal keeps to the ceiling
    bounded_joined : (j : Join) → Fits ns j → Ceiling allowed w (dist s q) (joined_run ns q j) → Bounded s allowed w ns → (i : ℕ) → i < length (joined ns st te q j) → OK (core (node_at (joined ns st te q j) i))
    unfolding joined
    bounded_joined (onto p) h v b i l = by (dec_lt i (length ns))
      where
        by : Dec (i < length ns) → OK (core (node_at (attach ns p (tip p)) i))
        by (yes c) = subst OK (sym (core_old ns p (tip p) h i (omega arith))) (old_ok i b c)
        by (no c) =
            subst (λ (n : ℕ). OK (core (node_at (attach ns p (tip p)) n))) (omega (arith, length-attach ns p (tip p) h))
            (subst OK (sym (core_new ns p (tip p) h)) (λ k e. v))
    bounded_joined (split p c) h v b i l = by (dec_lt i (length ns)) (dec_lt i (suc (length ns)))
      where
        long : length (joined ns st te q (split p c)) ≡ suc (suc (length ns))
        long = length-split ns st te q p c (parent_in_lem g c p h) (child_in g c p h) (not_own g c p h)

        by : Dec (i < length ns) → Dec (i < suc (length ns)) → OK (core (node_at (joined ns st te q (split p c)) i))
        by (yes x) y = subst OK (sym (core_rest ns st te q p c g h i (omega arith) (omega arith))) (old_ok i b x)
        by (no x) (yes y) =
            subst (λ (n : ℕ). OK (core (node_at (joined ns st te q (split p c)) n))) (omega arith)
            (subst OK (sym (core_tip ns st te q p c g h)) (λ k e. v))
        by (no x) (no y) =
            subst (λ (n : ℕ). OK (core (node_at (joined ns st te q (split p c)) n))) (omega (arith, long))
            (subst OK (sym (core_knot ns st te q p c g h)) (λ k e. absurd (let z : ◌≡◌ {A = ℕ} 0 1 = cc in omega arith)))

is_false : (b : Bool) → (T b → ⊥) → b ≡ false
is_false true t = absurd (t tt)
is_false false t = refl

ceiling : (s : Point) (ns : List Node) (q : Point) (g : Linked ns) (m : Measured s ns) (limit : ℕ) (allowed : ℤ) (j : Join) → Worth s ns q g m limit allowed j
    → Ceiling allowed limit (dist s q) (joined_run ns q j)
ceiling s ns q g m limit allowed j v =
    record {
      inside = λ h. record { le = subst T (sym (v.inside (is_true _ h.le))) tt };
      outside = λ h. v.outside (is_false _ (λ z. h (record { le = z })));
    }

-- ---- a tree as it grows
pub record Routed (s : Point) (t : Tree) : Type 0 where
  pub linked : Linked t.nodes
  pub measured : Measured s t.nodes
  pub named : Named (length t.nodes) (name_of t.nodes) t.next_steiner t.next_terminal
  pub bounded : Bounded s t.allowed t.limit t.nodes

module _ (s : Point) (ks : List Rectangle) where
  abbrev pub place : Tree → Point → Join
  place t q = find (blocked ks) t.nodes t.limit t.allowed q

  pub routed-insert : (t : Tree) (q : Point) → Routed s t → dist s q ≤ t.limit → Routed s (insert ks t q)
  unfolding insert
  routed-insert t q r h =
      let v = find_worth s t.nodes q r.linked r.measured t.limit t.allowed (blocked ks) h in
      record {
        linked = linked-joined s t.nodes _ _ q r.linked (place t q) v.fits;
        measured = measured_joined s t.nodes _ _ q r.linked (place t q) v.fits r.measured;
        named = named-joined s t.nodes _ _ q r.linked (place t q) v.fits r.named;
        bounded = λ i k l e. bounded_joined s t.nodes _ _ q r.linked t.allowed t.limit (place t q) v.fits
            (ceiling s t.nodes q r.linked r.measured t.limit t.allowed (place t q) v) r.bounded i l k e;
      }

  total-insert : (t : Tree) (q : Point) → Routed s t → dist s q ≤ t.limit → total (insert ks t q).nodes ≤ total t.nodes + dist s q
  unfolding insert
  total-insert t q r h =
      let v = find_worth s t.nodes q r.linked r.measured t.limit t.allowed (blocked ks) h in
      omega (arith, total-joined s t.nodes t.next_steiner t.next_terminal q r.linked (place t q) v.fits, v.low)

  routed-inserts : (qs : List Point) (t : Tree) → Routed s t → farthest s qs ≤ t.limit → Routed s (inserts (insert ks) qs t)
  unfolding inserts insert
  routed-inserts [] t r h = r
  routed-inserts (q ∷ qs) t r h = routed-inserts qs (insert ks t q) (routed-insert t q r (omega arith)) (omega arith)

  total-inserts : (qs : List Point) (t : Tree) → Routed s t → farthest s qs ≤ t.limit → total (inserts (insert ks) qs t).nodes ≤ total t.nodes + directs s qs
  unfolding inserts insert
  total-inserts [] t r h = omega arith
  total-inserts (q ∷ qs) t r h =
      omega (arith, total-inserts qs (insert ks t q) (routed-insert t q r (omega arith)) (omega arith), total-insert t q r (omega arith))

  terminals-inserts : (qs : List Point) (t : Tree) → terminals (inserts (insert ks) qs t).nodes ≡ terminals t.nodes ++ numbered t.next_terminal qs
  unfolding inserts insert numbered
  terminals-inserts [] t = sym (append-nil _)
  terminals-inserts (q ∷ qs) t =
      terminals-inserts qs (insert ks t q)
      ∙ ap (λ (l : List (ℕ × Point)). l ++ numbered (suc t.next_terminal) qs) (terminals-joined t.nodes t.next_steiner t.next_terminal q (place t q))
      ∙ append_assoc (terminals t.nodes) _ _

  pub same_limits : (qs : List Point) (t : Tree) → ((inserts (insert ks) qs t).allowed ≡ t.allowed) × ((inserts (insert ks) qs t).limit ≡ t.limit) × ((inserts (insert ks) qs t).farthest ≡ t.farthest)
  unfolding inserts insert
  same_limits [] t = (refl, refl, refl)
  same_limits (q ∷ qs) t = same_limits qs (insert ks t q)

-- ---- from the source alone
module _ (s : Point) (allowed : ℤ) (w limit : ℕ) where
  abbrev R : List Node
  R = (rooted s allowed w limit).nodes

  no_kids : (p : ℕ) → (node_at R p).children ≡ []
  unfolding node_at
  no_kids zero = refl
  no_kids (suc p) = refl

  no_parent : (c : ℕ) → (node_at R c).parent ≡ none
  unfolding node_at
  no_parent zero = refl
  no_parent (suc c) = refl

  pub routed-start : Routed s (rooted s allowed w limit)
  unfolding count node_at
  routed-start =
      record {
        linked = record {
          some = omega arith;
          top = refl;
          others = λ i h e. omega arith;
          links = λ p c. ap (count c) (no_kids p) ∙ sym (ap (is_at p) (no_parent c));
          rank = λ i. 0;
          small = λ i h. omega arith;
          falls = λ c p e. none-at (sym (no_parent c) ∙ e);
        };
        measured = record { source-point = refl; source-path = refl; paths = λ c p e. none-at (sym (no_parent c) ∙ e) };
        named = record {
          steiners = omega arith;
          terminals = omega arith;
          source_name = refl;
          given = λ i h l. absurd (omega arith);
          distinct = λ i j h l e. omega arith;
        };
        bounded = λ i k h e. let z : i ≡ 0 = omega arith in absurd (source-terminal (ap (name_of R) (sym z) ∙ e));
      }

  total-start : total R ≡ 0
  unfolding sum_to node_at
  total-start = refl

  terminals-start : terminals R ≡ []
  unfolding terminals
  terminals-start = refl

module _ (s : Point) (ts : List Point) (ks : List Rectangle) (allowance : ℕ → ℤ) where
  abbrev t : Tree
  t = route (constraints allowance) s ts ks

  abbrev t₀ : Tree
  t₀ = rooted s (allowance (farthest s ts)) (farthest s ts) (farthest s ts)

  pub routed : Routed s t
  routed = routed-inserts s ks (sort s ts) t₀ (routed-start s _ _ _) (omega (arith, farthest-sort s ts))

  pub route-terminals : terminals t.nodes ≡ numbered 1 (sort s ts)
  route-terminals =
      terminals-inserts s ks (sort s ts) t₀
      ∙ ap (λ (l : List (ℕ × Point)). l ++ numbered 1 (sort s ts)) (terminals-start s (allowance (farthest s ts)) (farthest s ts) (farthest s ts))

  pub route_bounded : Bounded s t.allowed (farthest s ts) t.nodes
  route_bounded = subst (λ (w : ℕ). Bounded s t.allowed w t.nodes) (same_limits s ks (sort s ts) t₀).1 routed.bounded

  pub route-total : total t.nodes ≤ directs s ts
  route-total =
      omega (arith, total-inserts s ks (sort s ts) t₀ (routed-start s _ _ _) (omega (arith, farthest-sort s ts)), total-start s (allowance (farthest s ts)) (farthest s ts) (farthest s ts), directs-sort s ts)

-- ---- mode 0: the closest node
pub closest_in : (ns : List Node) (q : Point) → 0 < length ns → (k : ℕ) → k ≤ length ns → closest ns q k < length ns
unfolding closest
closest_in ns q h zero l = h
closest_in ns q h (suc k) l = by (ltb (dist (node_at ns k).point q) (dist (node_at ns (closest ns q k)).point q)) (closest_in ns q h k (omega arith))
  where
    by : (t : Bool) → closest ns q k < length ns → cond t k (closest ns q k) < length ns
    by true ih = omega arith
    by false ih = ih

-- it is a nearest node
pub closest-least : (ns : List Node) (q : Point) (k j : ℕ) → j < k → dist (node_at ns (closest ns q k)).point q ≤ dist (node_at ns j).point q
unfolding closest
closest-least ns q zero j h = absurd (omega arith)
closest-least ns q (suc k) j h = by (ltb (dist (node_at ns k).point q) (dist (node_at ns (closest ns q k)).point q)) refl (dec_lt j k) (closest-least ns q k j)
  where
    by : (t : Bool) → ltb (dist (node_at ns k).point q) (dist (node_at ns (closest ns q k)).point q) ≡ t → Dec (j < k)
        → (j < k → dist (node_at ns (closest ns q k)).point q ≤ dist (node_at ns j).point q) → dist (node_at ns (cond t k (closest ns q k))).point q ≤ dist (node_at ns j).point q
    by true e (yes l) ih = omega (arith, ih l, ltb-true (dist (node_at ns k).point q) (dist (node_at ns (closest ns q k)).point q) e)
    by false e (yes l) ih = ih l
    by true e (no l) ih = let z : k ≡ j = omega arith in omega (arith, ap (λ (x : ℕ). dist (node_at ns x).point q) z)
    by false e (no l) ih =
        let z : k ≡ j = omega arith in
        omega (arith, ap (λ (x : ℕ). dist (node_at ns x).point q) z, ltb-false (dist (node_at ns k).point q) (dist (node_at ns (closest ns q k)).point q) e)

-- and every one before it is farther
pub closest-first : (ns : List Node) (q : Point) (k j : ℕ) → j < closest ns q k → dist (node_at ns (closest ns q k)).point q < dist (node_at ns j).point q
unfolding closest
closest-first ns q zero j h = absurd (omega arith)
closest-first ns q (suc k) j h = by (ltb (dist (node_at ns k).point q) (dist (node_at ns (closest ns q k)).point q)) refl (closest-first ns q k j) h
  where
    by : (t : Bool) → ltb (dist (node_at ns k).point q) (dist (node_at ns (closest ns q k)).point q) ≡ t → (j < closest ns q k → dist (node_at ns (closest ns q k)).point q < dist (node_at ns j).point q) → j < cond t k (closest ns q k)
        → dist (node_at ns (cond t k (closest ns q k))).point q < dist (node_at ns j).point q
    by true e ih l = omega (arith, closest-least ns q k j l, ltb-true (dist (node_at ns k).point q) (dist (node_at ns (closest ns q k)).point q) e)
    by false e ih l = ih l
