-- What the search finds: a place whose added length is at most the direct distance, and whose path keeps to the allowance, or to the tree limit.
use Rattle.std.proofs.Common.{◌≡◌, refl, sym, ap, subst, ◌∙◌, Bool, true, false, not, ◌&&◌, ◌||◌, cond, List, [], ◌∷◌, ℕ, zero, suc, ◌+◌, ◌≤◌, ◌<◌, max, arith, length, eqb, leb, ltb, ℤ, pos, negsuc}
use lib.Signed.{le_z}
use borrow.Author.Tests.{ltb-true, ltb-false, leb-true, le-leb, eqb-true, not-true}
use Rattle.geometry.specs.Signed.{no_way}
use Rattle.geometry.specs.declared.Point.{Point}
use Rattle.geometry.specs.Geometry.{dist, same, box, nearest}
use Rattle.tree.specs.Tree.{one}
use Rattle.tree.specs.Tree.{Node, Parent, none, at, node_at}
use Rattle.tree.specs.Search.{Join, onto, split, Best, Walk, Branch, branch, takes, join_at, judge, examine, branches, walk, fresh, find}
use Rattle.tree.proofs.Bounds.{Measured}
use Rattle.tree.specs.Shape.{Linked, count, is_at}
use Rattle.tree.specs.WellFormed.{Fits}
use Rattle.geometry.specs.Laws.{triangle, via-parent, near-parent}
use Rattle.tree.proofs.Deciding.{never, and_split}
use Rattle.tree.proofs.Order.{same-eq}
use Rattle.tree.proofs.Counting.{one-eq}
use Rattle.tree.proofs.Linking.{child_in, parent_in_lem}
use Rattle.tree.proofs.Climbing.{path_direct}

-- ---- a place to join
-- the length that a joining adds
abbrev pub added : List Node → Point → Join → ℕ
added ns q (onto p) = dist (node_at ns p).point q
added ns q (split p c) = (branch (node_at ns p) (node_at ns c) q).D

-- the path length of the terminal
abbrev pub joined_run : List Node → Point → Join → ℕ
joined_run ns q (onto p) = (node_at ns p).path + dist (node_at ns p).point q
joined_run ns q (split p c) = (branch (node_at ns p) (node_at ns c) q).L

le_down : (allowed : ℤ) (d l : ℕ) → d ≤ l → le_z (pos l) allowed ≡ true → le_z (pos d) allowed ≡ true
le_down (pos a) d l h e = le-leb d a (omega (arith, leb-true l a e))
le_down (negsuc a) d l h e = no_way e

and-false : (a b : Bool) → a ≡ true → a && b ≡ false → b ≡ false
and-false true b e f = f
and-false false b e f = no_way e

pub not-or : (a b : Bool) → a ≡ true → not a || b ≡ true → b ≡ true
not-or true b e f = f
not-or false b e f = no_way e

-- every one of cs is a child of p
abbrev pub Children : List Node → ℕ → List ℕ → Type 0
Children ns p cs = (c : ℕ) → 0 < count c cs → (node_at ns c).parent ≡ at p

-- ---- the children of a node
module _ (ns : List Node) (g : Linked ns) where
  pub own : (p : ℕ) → Children ns p (node_at ns p).children
  own p c h = by (node_at ns c).parent refl
    where
      by : (x : Parent) → (node_at ns c).parent ≡ x → (node_at ns c).parent ≡ at p
      by none e = absurd (omega (arith, g.links p c, ap (is_at p) e))
      by (at x) e = e ∙ ap at (test (eqb p x) refl)
        where
          test : (t : Bool) → eqb p x ≡ t → x ≡ p
          test true f = sym (eqb-true p x f)
          test false f = absurd (omega (arith, g.links p c, ap (is_at p) e, ap one f))

  pub head_child : (p c : ℕ) (cs : List ℕ) → Children ns p (c ∷ cs) → (node_at ns c).parent ≡ at p
  unfolding count
  head_child p c cs h = h c (omega (arith, one-eq c c refl))

  pub tail_child : (p c : ℕ) (cs : List ℕ) → Children ns p (c ∷ cs) → Children ns p cs
  unfolding count
  tail_child p c cs h x l = h x (omega arith)

module _ (s : Point) (ns : List Node) (q : Point) (g : Linked ns) (m : Measured s ns) where
  -- ---- a branch from p to its child c
  module _ (p c : ℕ) (link : (node_at ns c).parent ≡ at p) where
    abbrev b : Branch
    b = branch (node_at ns p) (node_at ns c) q

    abbrev j : Join
    j = join_at p (node_at ns p) c (node_at ns c) b.near

    -- what is known of the place
    record Good (x : Join) : Type 0 where
      fits : Fits ns x
      adds : added ns q x ≡ b.D
      runs : joined_run ns q x ≡ b.L

    good : Good j
    good = by (same b.near (node_at ns p).point) (same b.near (node_at ns c).point) refl refl
      where
        by : (t u : Bool) → same b.near (node_at ns p).point ≡ t → same b.near (node_at ns c).point ≡ u → Good (cond t (onto p) (cond u (onto c) (split p c)))
        by true u e f =
            let h = same-eq _ _ e in
            record {
              fits = parent_in_lem g c p link;
              adds = ap (λ (z : Point). dist z q) (sym h);
              runs = omega (arith, via-parent (node_at ns p).point (node_at ns c).point q);
            }
        by false true e f =
            let h = same-eq _ _ f in
            record {
              fits = child_in g c p link;
              adds = ap (λ (z : Point). dist z q) (sym h);
              runs = omega (arith, m.paths c p link, ap (λ (z : Point). dist z q) h, ap (dist (node_at ns p).point) h);
            }
        by false false e f = record { fits = link; adds = refl; runs = refl }

    -- no branch is shorter than the direct way
    far : dist s q ≤ b.L
    far =
        omega (arith, path_direct g m p (parent_in_lem g c p link), triangle s (node_at ns p).point q, via-parent (node_at ns p).point (node_at ns c).point q)

  -- ---- what the search knows, once it has passed a branch of the source
  module _ (limit : ℕ) (allowed : ℤ) where
    data State (f : Best) : Type 0 where
      untaken : f.join ≡ onto 0 → State f
      in_allowance : Fits ns f.join → added ns q f.join ≡ f.best → le_z (pos (joined_run ns q f.join)) allowed ≡ true → dist s q ≤ joined_run ns q f.join → State f
      in_limit : f.within ≡ false → Fits ns f.join → added ns q f.join ≡ f.best → joined_run ns q f.join ≤ limit → State f

    record Kept (f : Best) : Type 0 where
      state : State f
      low : f.best ≤ dist s q
      near_in : le_z (pos (dist s q)) allowed ≡ true → f.within ≡ true

    module _ (p c : ℕ) (link : (node_at ns c).parent ≡ at p) where
      abbrev B : Branch
      B = branch (node_at ns p) (node_at ns c) q

      abbrev taken : Bool → Best → Best
      taken w f = record { join = join_at p (node_at ns p) c (node_at ns c) B.near; best = B.D; within = w || f.within }

      -- a branch taken within the allowance, or within the limit
      took_within : (f : Best) → le_z (pos B.L) allowed ≡ true → State (taken true f)
      took_within f e =
          in_allowance (good p c link).fits (good p c link).adds
          (ap (λ (l : ℕ). le_z (pos l) allowed) (good p c link).runs ∙ e)
          (omega (arith, (good p c link).runs, far p c link))

      took_limit : (f : Best) → f.within ≡ false → B.L ≤ limit → State (taken false f)
      took_limit f e h = in_limit e (good p c link).fits (good p c link).adds (omega (arith, (good p c link).runs))

      -- any later branch
      step : (f : Best) → Kept f → (w t : Bool) → le_z (pos B.L) allowed ≡ w → takes limit w B f ≡ t → Kept (cond t (taken w f) f)
      unfolding takes
      step f k w false e d = k
      step f k true true e d =
          record {
            state = took_within f e;
            low = omega (arith, k.low, ltb-true B.D f.best (not-or f.within _ (k.near_in (le_down allowed (dist s q) B.L (far p c link) e)) d));
            near_in = λ h. refl;
          }
      step f k false true e d =
          let a = and_split (not f.within) (leb B.L limit && ltb B.D f.best) d in
          let h = and_split (leb B.L limit) (ltb B.D f.best) a.1 in
          record {
            state = took_limit f (not-true f.within a.0) (leb-true B.L limit h.0);
            low = omega (arith, k.low, ltb-true B.D f.best h.1);
            near_in = k.near_in;
          }

    -- the first open branch, which is the source's: L is the direct distance, and D is no more
    module _ (c : ℕ) (link : (node_at ns c).parent ≡ at 0) (small : dist s q ≤ limit) where
      L_is : (B 0 c link).L ≡ dist s q
      L_is =
          omega (arith, via-parent (node_at ns 0).point (node_at ns c).point q, m.source-path, ap (λ (z : Point). dist z q) m.source-point)

      D-low : (B 0 c link).D ≤ dist s q
      D-low = omega (arith, near-parent (node_at ns 0).point (node_at ns c).point q, ap (λ (z : Point). dist z q) m.source-point)

      first_step : (w t : Bool) → le_z (pos (B 0 c link).L) allowed ≡ w → takes limit w (B 0 c link) (fresh limit) ≡ t → Kept (cond t (taken 0 c link w (fresh limit)) (fresh limit))
      unfolding takes
      first_step true true e d = record { state = took_within 0 c link (fresh limit) e; low = D-low; near_in = λ h. refl }
      first_step true false e d = never d
      first_step false true e d =
          let h = and_split (leb (B 0 c link).L limit) (ltb (B 0 c link).D (max limit 1)) d in
          record {
            state = took_limit 0 c link (fresh limit) refl (leb-true (B 0 c link).L limit h.0);
            low = D-low;
            near_in = λ h. no_way (sym e ∙ ap (λ (l : ℕ). le_z (pos l) allowed) L_is ∙ h);
          }
      first_step false false e d =
          record {
            state = untaken refl;
            low = omega (arith, D-low, ltb-false (B 0 c link).D (max limit 1) (and-false _ _ (le-leb (B 0 c link).L limit (omega (arith, L_is))) d));
            near_in = λ h. no_way (sym e ∙ ap (λ (l : ℕ). le_z (pos l) allowed) L_is ∙ h);
          }

    module _ (shut : Point → Point → Point → Point → Bool) where
      judge-kept : (p c : ℕ) (f : Best) → (node_at ns c).parent ≡ at p → Kept f → Kept (judge shut ns limit allowed q p c f)
      unfolding judge
      judge-kept p c f link k = step p c link f k _ _ refl refl

      judge-first : (c : ℕ) → (node_at ns c).parent ≡ at 0 → dist s q ≤ limit → Kept (judge shut ns limit allowed q 0 c (fresh limit))
      unfolding judge
      judge-first c link h = first_step c link h _ _ refl refl

      branches-kept : (p : ℕ) (cs : List ℕ) (e : Walk) → Children ns p cs → Kept e.found → Kept (branches shut ns limit allowed q p cs e).found
      unfolding branches examine
      branches-kept p [] e h k = k
      branches-kept p (c ∷ cs) e h k =
          by (shut q (node_at ns p).point (node_at ns c).point (nearest (box (node_at ns p).point (node_at ns c).point) q)) (branches-kept p cs e (tail_child ns g p c cs h) k)
        where
          by : (t : Bool) → Kept (branches shut ns limit allowed q p cs e).found
              → Kept (cond t (branches shut ns limit allowed q p cs e)
              (record { found = judge shut ns limit allowed q p c (branches shut ns limit allowed q p cs e).found; stack = c ∷ (branches shut ns limit allowed q p cs e).stack })).found
          by true ih = ih
          by false ih = judge-kept p c _ (head_child ns g p c cs h) ih

      walk_kept : (n : ℕ) (st : List ℕ) (f : Best) → Kept f → Kept (walk shut ns limit allowed q n st f).found
      unfolding walk
      walk_kept zero st f k = k
      walk_kept (suc n) [] f k = k
      walk_kept (suc n) (p ∷ st) f k = walk_kept n _ _ (branches-kept p (node_at ns p).children (record { found = f; stack = st }) (own ns g p) k)

      -- the source's branches: until one is open, nothing is found and nothing pushed
      data Phase (e : Walk) : Type 0 where
        idle : e.found ≡ fresh limit → e.stack ≡ [] → Phase e
        busy : Kept e.found → Phase e

      branches-first : dist s q ≤ limit → (cs : List ℕ) → Children ns 0 cs → Phase (branches shut ns limit allowed q 0 cs (record { found = fresh limit; stack = [] }))
      unfolding branches examine
      branches-first small [] h = idle refl refl
      branches-first small (c ∷ cs) h =
          by (shut q (node_at ns 0).point (node_at ns c).point (nearest (box (node_at ns 0).point (node_at ns c).point) q)) _ (branches-first small cs (tail_child ns g 0 c cs h))
        where
          by : (t : Bool) (e : Walk) → Phase e
              → Phase (cond t e (record { found = judge shut ns limit allowed q 0 c e.found; stack = c ∷ e.stack }))
          by true e ih = ih
          by false e (idle a b) =
              busy (subst (λ (f : Best). Kept (judge shut ns limit allowed q 0 c f)) (sym a) (judge-first c (head_child ns g 0 c cs h) small))
          by false e (busy k) = busy (judge-kept 0 c e.found (head_child ns g 0 c cs h) k)

      walk_empty : (n : ℕ) (f : Best) → (walk shut ns limit allowed q n [] f).found ≡ f
      unfolding walk
      walk_empty zero f = refl
      walk_empty (suc n) f = refl

      data Final (f : Best) : Type 0 where
        still : f ≡ fresh limit → Final f
        some : Kept f → Final f

      walk_first : dist s q ≤ limit → (n : ℕ) → 0 < n → Final (walk shut ns limit allowed q n (0 ∷ []) (fresh limit)).found
      unfolding walk
      walk_first small zero h = absurd (omega arith)
      walk_first small (suc n) h = by _ (branches-first small (node_at ns 0).children (own ns g 0))
        where
          by : (e : Walk) → Phase e → Final (walk shut ns limit allowed q n e.stack e.found).found
          by e (idle a b) = still (ap (λ (x : List ℕ). (walk shut ns limit allowed q n x e.found).found) b ∙ walk_empty n e.found ∙ a)
          by e (busy k) = some (walk_kept n e.stack e.found k)

    -- what the place that is found is worth
    pub record Worth (x : Join) : Type 0 where
      pub fits : Fits ns x
      pub low : added ns q x ≤ dist s q
      pub inside : le_z (pos (dist s q)) allowed ≡ true → le_z (pos (joined_run ns q x)) allowed ≡ true
      pub outside : le_z (pos (dist s q)) allowed ≡ false → joined_run ns q x ≤ limit

    straight : dist s q ≤ limit → Worth (onto 0)
    straight small =
        record {
          fits = g.some;
          low = omega (arith, d);
          inside = λ e. ap (λ (l : ℕ). le_z (pos l) allowed) r ∙ e;
          outside = λ e. omega (arith, r);
        }
      where
        d : dist (node_at ns 0).point q ≡ dist s q
        d = ap (λ (z : Point). dist z q) m.source-point

        r : (node_at ns 0).path + dist (node_at ns 0).point q ≡ dist s q
        r = omega (arith, d, m.source-path)

    worth : dist s q ≤ limit → (f : Best) → Kept f → Worth f.join
    worth small f k = by k.state
      where
        by : State f → Worth f.join
        by (untaken e) = subst Worth (sym e) (straight small)
        by (in_allowance a b c d) =
            record { fits = a; low = omega (arith, k.low); inside = λ e. c; outside = λ e. no_way (sym e ∙ le_down allowed (dist s q) _ d c) }
        by (in_limit w a b c) =
            record { fits = a; low = omega (arith, k.low); inside = λ e. never (sym (k.near_in e) ∙ w); outside = λ e. c }

    pub find_worth : (shut : Point → Point → Point → Point → Bool) → dist s q ≤ limit → Worth (find shut ns limit allowed q)
    unfolding find
    find_worth shut small = by (walk_first shut small (length ns) g.some)
      where
        by : Final shut (walk shut ns limit allowed q (length ns) (0 ∷ []) (fresh limit)).found → Worth (walk shut ns limit allowed q (length ns) (0 ∷ []) (fresh limit)).found.join
        by (still e) = subst (λ (f : Best). Worth f.join) (sym e) (straight small)
        by (some k) = worth small _ k
