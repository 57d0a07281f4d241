-- Without keepouts the search takes the first branch, in the order of the walk, that has the least D: among the branches within the
-- allowance, or, where there is none, among those within the tree limit. The idea: before that branch what is found is behind it; it is taken; and no other is
-- taken after it. The walk and the order are two readings of one stack, so no branch is counted.
use Rattle.std.proofs.Common.{◌≡◌, refl, sym, ap, subst, ◌∙◌, Bool, true, false, not, ◌||◌, cond, List, [], ◌∷◌, ◌++◌, ℕ, zero, suc, ◌≤◌, ◌<◌, max, arith, length, leb, ltb, ℤ, pos}
use lib.Signed.{le_z}
use borrow.Author.Tests.{ltb-true, lt-ltb, leb-true, not-true}
use Rattle.geometry.specs.Signed.{no_way}
use Rattle.geometry.specs.declared.Point.{Point}
use Rattle.tree.specs.Tree.{Node, at, node_at}
use Rattle.tree.specs.Search.{Taken, nothing, the, Best, Walk, Branch, branch, takes, join_at, judge, branches, walk, fresh, ended}
use Rattle.tree.specs.First.{or_else, last_of, first_on, first_taken}
use Rattle.tree.specs.Shape.{Linked}
use Rattle.tree.proofs.Deciding.{never, and_split, and-join}
use Rattle.tree.proofs.Searching.{Children, not-or, own, head_child, tail_child}
use Rattle.tree.proofs.Fuel.{examined}

module _ (ns : List Node) (g : Linked ns) (shut : Point → Point → Point → Point → Bool) (clear : (a b c d : Point) → shut a b c d ≡ false) (limit : ℕ) (allowed : ℤ) (q : Point) where
  abbrev J : ℕ → ℕ → Best → Best
  J = judge shut ns limit allowed q

  -- ---- the order and the walk
  abbrev Met : (Best → Type 0) → (ℕ → ℕ → Best → Type 0) → Taken → Best → Type 0
  Met Open Done nothing f = Open f
  Met Open Done (the p c) f = Done p c f

  module _ (test : ℕ → ℕ → Bool) (Open : Best → Type 0) (Done : ℕ → ℕ → Best → Type 0)
      (hit : (a b : ℕ) (f : Best) → (node_at ns b).parent ≡ at a → test a b ≡ true → Open f → Done a b (J a b f))
      (miss : (a b : ℕ) (f : Best) → (node_at ns b).parent ≡ at a → test a b ≡ false → Open f → Open (J a b f))
      (stays : (p c a b : ℕ) (f : Best) → (node_at ns b).parent ≡ at a → Done p c f → Done p c (J a b f)) where
    abbrev Reached : Taken → Best → Type 0
    Reached = Met Open Done

    one_more : (a b : ℕ) (x : Taken) (f : Best) → (node_at ns b).parent ≡ at a → Reached x f → Reached (or_else x (cond (test a b) (the a b) nothing)) (J a b f)
    one_more a b (the p c) f link r = stays p c a b f link r
    one_more a b nothing f link r = by (test a b) refl
      where
        by : (t : Bool) → test a b ≡ t → Reached (cond t (the a b) nothing) (J a b f)
        by true e = hit a b f link e r
        by false e = miss a b f link e r

    on_children : (a : ℕ) (cs : List ℕ) (e : Walk) → Children ns a cs → Open e.found → Reached (last_of ns test a cs) (branches shut ns limit allowed q a cs e).found
    unfolding branches last_of
    on_children a [] e h o = o
    on_children a (b ∷ cs) e h o =
        rw (examined ns g shut limit allowed q clear) (one_more a b (last_of ns test a cs) _ (head_child ns g a b cs h) (on_children a cs e (tail_child ns g a b cs h) o))

    stays-children : (p c a : ℕ) (cs : List ℕ) (e : Walk) → Children ns a cs → Done p c e.found → Done p c (branches shut ns limit allowed q a cs e).found
    unfolding branches
    stays-children p c a [] e h o = o
    stays-children p c a (b ∷ cs) e h o =
        rw (examined ns g shut limit allowed q clear) (stays p c a b _ (head_child ns g a b cs h) (stays-children p c a cs e (tail_child ns g a b cs h) o))

    stays-walk : (p c k : ℕ) (st : List ℕ) (f : Best) → Done p c f → Done p c (walk shut ns limit allowed q k st f).found
    unfolding walk
    stays-walk p c zero st f o = o
    stays-walk p c (suc k) [] f o = o
    stays-walk p c (suc k) (a ∷ st) f o = stays-walk p c k _ _ (stays-children p c a (node_at ns a).children (record { found = f; stack = st }) (own ns g a) o)

    -- all children are pushed
    pushed : (a : ℕ) (cs : List ℕ) (e : Walk) → (branches shut ns limit allowed q a cs e).stack ≡ cs ++ e.stack
    unfolding branches
    pushed a [] e = refl
    pushed a (b ∷ cs) e = ap (λ (w : Walk). w.stack) (examined ns g shut limit allowed q clear a b (branches shut ns limit allowed q a cs e)) ∙ ap (λ (l : List ℕ). b ∷ l) (pushed a cs e)

    on_walk : (k : ℕ) (st : List ℕ) (f : Best) → Open f → Reached (first_on ns test k st) (walk shut ns limit allowed q k st f).found
    unfolding walk first_on
    on_walk zero st f o = o
    on_walk (suc k) [] f o = o
    on_walk (suc k) (a ∷ st) f o = by (last_of ns test a (node_at ns a).children) (on_children a (node_at ns a).children (record { found = f; stack = st }) (own ns g a) o) (on_walk k)
      where
        e : Walk
        e = branches shut ns limit allowed q a (node_at ns a).children (record { found = f; stack = st })

        by : (x : Taken) → Reached x e.found → ((st : List ℕ) (f : Best) → Open f → Reached (first_on ns test k st) (walk shut ns limit allowed q k st f).found)
            → Reached (or_else x (first_on ns test k ((node_at ns a).children ++ st))) (walk shut ns limit allowed q k e.stack e.found).found
        by (the p c) r ih = stays-walk p c k e.stack e.found r
        by nothing r ih =
            subst (λ (l : List ℕ). Reached (first_on ns test k l) (walk shut ns limit allowed q k e.stack e.found).found) (pushed a (node_at ns a).children (record { found = f; stack = st }))
            (ih e.stack e.found r)

  -- ---- the least D
  abbrev B : ℕ → ℕ → Branch
  B a b = branch (node_at ns a) (node_at ns b) q

  module _ (D : ℕ) (test : ℕ → ℕ → Bool) where
    -- a branch that passes has the least D; one that fails, though it counts, is farther
    pub record Least (counts : ℕ → Bool) : Type 0 where
      pub hits : (a b : ℕ) → (node_at ns b).parent ≡ at a → test a b ≡ true → (counts (B a b).L ≡ true) × ((B a b).D ≡ D)
      pub misses : (a b : ℕ) → (node_at ns b).parent ≡ at a → test a b ≡ false → counts (B a b).L ≡ true → D < (B a b).D

    pub record Done (w : Bool) (p c : ℕ) (f : Best) : Type 0 where
      pub join : f.join ≡ join_at p (node_at ns p) c (node_at ns c) (B p c).near
      pub best : f.best ≡ D
      pub within : f.within ≡ w

    abbrev after : ℕ → ℕ → Bool → Bool → Best → Best
    after a b l t f = cond t (record { join = join_at a (node_at ns a) b (node_at ns b) (B a b).near; best = (B a b).D; within = l || f.within }) f

    -- what counts is not nearer than the least
    no_nearer : (counts : ℕ → Bool) → Least counts → (a b : ℕ) → (node_at ns b).parent ≡ at a → counts (B a b).L ≡ true → D ≤ (B a b).D
    no_nearer counts z a b link e = by (test a b) refl
      where
        by : (t : Bool) → test a b ≡ t → D ≤ (B a b).D
        by true t = omega (arith, (z.hits a b link t).1)
        by false t = omega (arith, z.misses a b link t e)

    -- ---- within the allowance
    module _ (z : Least (λ l. le_z (pos l) allowed)) where
      abbrev In : Best → Type 0
      In f = f.within ≡ true → D < f.best

      in_hit : (a b : ℕ) (f : Best) → (node_at ns b).parent ≡ at a → test a b ≡ true → In f → (l t : Bool) → le_z (pos (B a b).L) allowed ≡ l → takes limit l (B a b) f ≡ t → Done true a b (after a b l t f)
      unfolding takes
      in_hit a b f link e o false t x y = no_way (sym x ∙ (z.hits a b link e).0)
      in_hit a b f link e o true true x y = record { join = refl; best = (z.hits a b link e).1; within = refl }
      in_hit a b f link e o true false x y = never (sym (by f.within refl) ∙ y)
        where
          by : (t : Bool) → f.within ≡ t → not t || ltb (B a b).D f.best ≡ true
          by false w = refl
          by true w = lt-ltb (B a b).D f.best (omega (arith, o w, (z.hits a b link e).1))

      in_miss : (a b : ℕ) (f : Best) → (node_at ns b).parent ≡ at a → test a b ≡ false → In f → (l t : Bool) → le_z (pos (B a b).L) allowed ≡ l → takes limit l (B a b) f ≡ t → In (after a b l t f)
      unfolding takes
      in_miss a b f link e o l false x y = o
      in_miss a b f link e o true true x y = λ w. z.misses a b link e x
      in_miss a b f link e o false true x y = λ w. never (sym w ∙ not-true f.within (and_split (not f.within) _ y).0)

      in_stays : (p c a b : ℕ) (f : Best) → (node_at ns b).parent ≡ at a → Done true p c f → (l t : Bool) → le_z (pos (B a b).L) allowed ≡ l → takes limit l (B a b) f ≡ t → Done true p c (after a b l t f)
      unfolding takes
      in_stays p c a b f link o l false x y = o
      in_stays p c a b f link o false true x y = never (sym o.within ∙ not-true f.within (and_split (not f.within) _ y).0)
      in_stays p c a b f link o true true x y =
          absurd (omega (arith, o.best, no_nearer _ z a b link x, ltb-true (B a b).D f.best (not-or f.within _ o.within y)))

      -- the first in order that has the least D is what the search finds
      pub first-within : (p c : ℕ) → first_taken ns test ≡ the p c → Done true p c (ended shut ns limit allowed q)
      unfolding judge
      first-within p c e =
          subst (λ (x : Taken). Met In (Done true) x (ended shut ns limit allowed q)) e
          (on_walk test In (Done true) (λ a b f link h o. in_hit a b f link h o _ _ refl refl) (λ a b f link h o. in_miss a b f link h o _ _ refl refl)
          (λ p c a b f link o. in_stays p c a b f link o _ _ refl refl) (length ns) (0 ∷ []) (fresh limit) (λ w. no_way w))

    -- ---- none within the allowance: within the limit
    module _ (none_in : (a b : ℕ) → (node_at ns b).parent ≡ at a → le_z (pos (B a b).L) allowed ≡ false) (z : Least (λ l. leb l limit)) (near : D < max limit 1) where
      record Out (f : Best) : Type 0 where
        within : f.within ≡ false
        behind : D < f.best

      out_hit : (a b : ℕ) (f : Best) → (node_at ns b).parent ≡ at a → test a b ≡ true → Out f → (l t : Bool) → le_z (pos (B a b).L) allowed ≡ l → takes limit l (B a b) f ≡ t → Done false a b (after a b l t f)
      unfolding takes
      out_hit a b f link e o true t x y = never (sym x ∙ none_in a b link)
      out_hit a b f link e o false true x y = record { join = refl; best = (z.hits a b link e).1; within = o.within }
      out_hit a b f link e o false false x y =
          let r = z.hits a b link e in
          never (sym (and-join (not f.within) _ (ap not o.within) (and-join _ _ r.0 (lt-ltb (B a b).D f.best (omega (arith, o.behind, r.1))))) ∙ y)

      out_miss : (a b : ℕ) (f : Best) → (node_at ns b).parent ≡ at a → test a b ≡ false → Out f → (l t : Bool) → le_z (pos (B a b).L) allowed ≡ l → takes limit l (B a b) f ≡ t → Out (after a b l t f)
      unfolding takes
      out_miss a b f link e o l false x y = o
      out_miss a b f link e o true true x y = never (sym x ∙ none_in a b link)
      out_miss a b f link e o false true x y =
          let r = and_split (leb (B a b).L limit) (ltb (B a b).D f.best) (and_split (not f.within) _ y).1 in
          record { within = o.within; behind = z.misses a b link e r.0 }

      out_stays : (p c a b : ℕ) (f : Best) → (node_at ns b).parent ≡ at a → Done false p c f → (l t : Bool) → le_z (pos (B a b).L) allowed ≡ l → takes limit l (B a b) f ≡ t → Done false p c (after a b l t f)
      unfolding takes
      out_stays p c a b f link o l false x y = o
      out_stays p c a b f link o true true x y = never (sym x ∙ none_in a b link)
      out_stays p c a b f link o false true x y =
          let r = and_split (leb (B a b).L limit) (ltb (B a b).D f.best) (and_split (not f.within) _ y).1 in
          absurd (omega (arith, o.best, no_nearer _ z a b link r.0, ltb-true (B a b).D f.best r.1))

      pub first-beyond : (p c : ℕ) → first_taken ns test ≡ the p c → Done false p c (ended shut ns limit allowed q)
      unfolding judge
      first-beyond p c e =
          subst (λ (x : Taken). Met Out (Done false) x (ended shut ns limit allowed q)) e
          (on_walk test Out (Done false) (λ a b f link h o. out_hit a b f link h o _ _ refl refl) (λ a b f link h o. out_miss a b f link h o _ _ refl refl)
          (λ p c a b f link o. out_stays p c a b f link o _ _ refl refl) (length ns) (0 ∷ []) (fresh limit) (record { within = refl; behind = near }))

  -- ---- nothing to take: none within the allowance, and none within the limit is nearer than best is at the start
  module _ (none_in : (a b : ℕ) → (node_at ns b).parent ≡ at a → le_z (pos (B a b).L) allowed ≡ false)
      (none-near : (a b : ℕ) → (node_at ns b).parent ≡ at a → (B a b).L ≤ limit → max limit 1 ≤ (B a b).D) where
    idle : (a b : ℕ) (f : Best) → (node_at ns b).parent ≡ at a → f ≡ fresh limit → J a b f ≡ fresh limit
    unfolding judge takes
    idle a b f link e = ap (J a b) e ∙ by _ _ refl refl
      where
        by : (l t : Bool) → le_z (pos (B a b).L) allowed ≡ l → takes limit l (B a b) (fresh limit) ≡ t
            → cond t (record { join = join_at a (node_at ns a) b (node_at ns b) (B a b).near; best = (B a b).D; within = l || false }) (fresh limit) ≡ fresh limit
        by l false x y = refl
        by true true x y = never (sym x ∙ none_in a b link)
        by false true x y =
            let r = and_split (leb (B a b).L limit) (ltb (B a b).D (max limit 1)) y in
            absurd (omega (arith, none-near a b link (leb-true (B a b).L limit r.0), ltb-true (B a b).D (max limit 1) r.1))

    pub first-none : ended shut ns limit allowed q ≡ fresh limit
    first-none =
        either (first_taken ns (λ a b. false))
        (on_walk (λ a b. false) (λ f. f ≡ fresh limit) (λ p c f. f ≡ fresh limit) (λ a b f link h o. idle a b f link o) (λ a b f link h o. idle a b f link o) (λ p c a b f link o. idle a b f link o) (length ns) (0 ∷ []) (fresh limit) refl)
      where
        either : (x : Taken) → Met (λ f. f ≡ fresh limit) (λ p c f. f ≡ fresh limit) x (ended shut ns limit allowed q) → ended shut ns limit allowed q ≡ fresh limit
        either nothing h = h
        either (the p c) h = h
