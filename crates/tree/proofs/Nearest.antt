-- Without keepouts, a branch within the allowance that is strictly nearer than every other one within it is where the search joins, whatever the order of the
-- walk. The idea: until that branch is examined, what is found within the allowance is farther; once examined it is taken, and no other is taken after it. The
-- walk pops every node, so it examines the branch.
use Rattle.std.proofs.Common.{◌≡◌, refl, sym, ap, subst, ◌∙◌, ◌≢◌, Bool, true, false, not, ◌||◌, cond, List, [], ◌∷◌, ℕ, ◌+◌, ◌≤◌, ◌<◌, arith, eqb, ltb, ℤ, pos}
use Rattle.std.proofs.Math.Decide.{ℕ_discrete}
use lib.Signed.{le_z}
use borrow.Author.Tests.{ltb-true, lt-ltb, not-true}
use Rattle.geometry.specs.Signed.{no_way}
use Rattle.geometry.specs.declared.Point.{Point}
use Rattle.tree.specs.Tree.{one, Node, at, node_at}
use Rattle.tree.specs.Search.{Join, Best, Walk, Branch, branch, takes, join_at, judge, branches, fresh, find}
use Rattle.tree.specs.Shape.{Linked, count, is_at}
use Rattle.tree.proofs.Deciding.{never, and_split}
use Rattle.tree.proofs.Counting.{one-ne}
use Rattle.tree.proofs.Linking.{parent_in_lem, at_inj}
use Rattle.tree.proofs.Searching.{Children, not-or, own, head_child, tail_child}
use Rattle.tree.proofs.Fuel.{Pops, Ended, Whole, walk-keeps, whole-start, whole-after, all_popped, examined}

-- the branch that ends at c, from its parent p, is within the allowance, and every other branch within it is farther
pub record Alone (ns : List Node) (allowed : ℤ) (q : Point) (p c : ℕ) : Type 0 where
  pub parent : (node_at ns c).parent ≡ at p
  pub within : le_z (pos (branch (node_at ns p) (node_at ns c) q).L) allowed ≡ true
  pub nearer : (a b : ℕ) → (node_at ns b).parent ≡ at a → b ≢ c → le_z (pos (branch (node_at ns a) (node_at ns b) q).L) allowed ≡ true
      → (branch (node_at ns p) (node_at ns c) q).D < (branch (node_at ns a) (node_at ns b) q).D

module _ (ns : List Node) (g : Linked ns) (limit : ℕ) (allowed : ℤ) (q : Point) (p c : ℕ) (w : Alone ns allowed q p c) where
  abbrev B : ℕ → ℕ → Branch
  B a b = branch (node_at ns a) (node_at ns b) q

  abbrev J : ℕ → ℕ → Join
  J a b = join_at a (node_at ns a) b (node_at ns b) (B a b).near

  -- before the branch is examined: whatever is found within the allowance is farther
  abbrev Open : Best → Type 0
  Open f = f.within ≡ true → (B p c).D < f.best

  -- after: it is what is found
  record Done (f : Best) : Type 0 where
    join : f.join ≡ J p c
    best : f.best ≡ (B p c).D
    within : f.within ≡ true

  -- ---- one branch is examined
  -- the branch from a to b: l says L ≤ allowed, t that it is taken
  abbrev after : ℕ → ℕ → Bool → Bool → Best → Best
  after a b l t f = cond t (record { join = J a b; best = (B a b).D; within = l || f.within }) f

  -- it is taken while Open
  takes_own : (f : Best) → Open f → takes limit true (B p c) f ≡ true
  unfolding takes
  takes_own f o = by f.within refl
    where
      by : (t : Bool) → f.within ≡ t → not t || ltb (B p c).D f.best ≡ true
      by true e = lt-ltb (B p c).D f.best (o e)
      by false e = refl

  open_own : (f : Best) → Open f → (l t : Bool) → le_z (pos (B p c).L) allowed ≡ l → takes limit l (B p c) f ≡ t → Done (after p c l t f)
  open_own f o false t d k = no_way (sym d ∙ w.within)
  open_own f o true false d k = never (sym (takes_own f o) ∙ k)
  open_own f o true true d k = record { join = refl; best = refl; within = refl }

  module _ (a b : ℕ) (link : (node_at ns b).parent ≡ at a) where
    -- a branch that ends at c is the branch from p
    own_is : b ≡ c → (X : ℕ → ℕ → Type 0) → X p c → X a b
    own_is e X h =
        let z : a ≡ p = at_inj (sym link ∙ ap (λ (i : ℕ). (node_at ns i).parent) e ∙ w.parent) in
        subst (λ (i : ℕ). X i b) (sym z) (subst (X p) (sym e) h)

    -- outside the allowance a branch is taken only while none within is found
    none_within : (f : Best) → takes limit false (B a b) f ≡ true → f.within ≡ false
    unfolding takes
    none_within f k = not-true f.within (and_split (not f.within) _ k).0

    open_other : (f : Best) → b ≢ c → Open f → (l t : Bool) → le_z (pos (B a b).L) allowed ≡ l → takes limit l (B a b) f ≡ t → Open (after a b l t f)
    open_other f n o l false d k = o
    open_other f n o true true d k = λ h. w.nearer a b link n d
    open_other f n o false true d k = λ h. no_way (sym (none_within f k) ∙ h)

    no_nearer : le_z (pos (B a b).L) allowed ≡ true → (B p c).D ≤ (B a b).D
    no_nearer d = by (ℕ_discrete b c)
      where
        by : Dec (b ≡ c) → (B p c).D ≤ (B a b).D
        by (yes e) = own_is e (λ i j. (B p c).D ≤ (B i j).D) (omega arith)
        by (no e) = omega (arith, w.nearer a b link e d)

    done-stays : (f : Best) → Done f → (l t : Bool) → le_z (pos (B a b).L) allowed ≡ l → takes limit l (B a b) f ≡ t → Done (after a b l t f)
    unfolding takes
    done-stays f o l false d k = o
    done-stays f o true true d k = absurd (omega (arith, o.best, no_nearer d, ltb-true (B a b).D f.best (not-or f.within _ o.within k)))
    done-stays f o false true d k = never (sym o.within ∙ none_within f k)

  -- ---- the walk
  -- what is known after the branch has been examined `seen` times
  data Told (seen : ℕ) (f : Best) : Type 0 where
    before : seen ≡ 0 → Open f → Told seen f
    done : Done f → Told seen f

  recount : {m n : ℕ} {f : Best} → m ≡ n → Told m f → Told n f
  recount e (before z o) = before (omega arith) o
  recount e (done o) = done o

  module _ (shut : Point → Point → Point → Point → Bool) (clear : (a b c d : Point) → shut a b c d ≡ false) where
    judge_told : (a b n : ℕ) (f : Best) → (node_at ns b).parent ≡ at a → Told n f → Told (one (eqb b c) + n) (judge shut ns limit allowed q a b f)
    unfolding judge
    judge_told a b n f link (done o) = done (done-stays a b link f o _ _ refl refl)
    judge_told a b n f link (before z o) = by (ℕ_discrete b c)
      where
        by : Dec (b ≡ c) → Told (one (eqb b c) + n) (judge shut ns limit allowed q a b f)
        by (yes e) = done (own_is a b link e (λ i j. Done (judge shut ns limit allowed q i j f)) (open_own f o _ _ refl refl))
        by (no e) = before (omega (arith, one-ne b c e)) (open_other a b link f e o _ _ refl refl)

    branches_told : (a n : ℕ) (cs : List ℕ) (e : Walk) → Children ns a cs → Told n e.found → Told (count c cs + n) (branches shut ns limit allowed q a cs e).found
    unfolding branches count
    branches_told a n [] e h k = recount (omega arith) k
    branches_told a n (b ∷ cs) e h k =
        rw (examined ns g shut limit allowed q clear)
        (recount (omega arith) (judge_told a b (count c cs + n) _ (head_child ns g a b cs h) (branches_told a n cs e (tail_child ns g a b cs h) k)))

    -- every node is popped, and the branch is examined when p is
    record Kept (popped stack : List ℕ) (f : Best) : Type 0 where
      whole : Whole ns g popped stack
      told : Told (count p popped) f

    pops : Pops ns g shut limit allowed q Kept
    unfolding count
    pops popped rest a f k =
        record {
          whole = whole-after ns g shut limit allowed q clear popped rest a f k.whole;
          told =
              recount (omega (arith, g.links a c, ap (is_at a) w.parent))
              (branches_told a (count p popped) (node_at ns a).children (record { found = f; stack = rest }) (own ns g a) k.told);
        }

    start : Kept [] (0 ∷ []) (fresh limit)
    unfolding count
    start = record { whole = whole-start ns g; told = before refl (λ e. no_way e) }

    found : find shut ns limit allowed q ≡ J p c
    unfolding find
    found = by _ (walk-keeps ns g shut limit allowed q Kept pops start)
      where
        by : (e : Walk) → Ended ns g shut limit allowed q Kept e → e.found.join ≡ J p c
        by e z = told z.kept.told
          where
            told : Told (count p z.popped) e.found → e.found.join ≡ J p c
            told (done o) = o.join
            told (before n o) = absurd (omega (arith, all_popped ns g z.popped z.kept.whole p (parent_in_lem g c p w.parent)))

-- the branch is where the search joins
pub alone_found : {ns : List Node} → Linked ns → (shut : Point → Point → Point → Point → Bool) → ((a b c d : Point) → shut a b c d ≡ false)
    → (limit : ℕ) {allowed : ℤ} {q : Point} {p c : ℕ} → Alone ns allowed q p c
    → find shut ns limit allowed q ≡ join_at p (node_at ns p) c (node_at ns c) (branch (node_at ns p) (node_at ns c) q).near
alone_found {ns} g shut clear limit {allowed} {q} {p} {c} w = found ns g limit allowed q p c w shut clear
