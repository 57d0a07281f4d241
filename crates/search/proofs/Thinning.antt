-- Nodes whose subtrees hold nothing to take may be left off the stack. The idea: on a stack that is a thinned copy of the plain walk's, each step finds what the plain
-- walk finds, once that has popped the nodes that were left off; and those change nothing.
use Rattle.std.proofs.Common.{ℕ, zero, suc, ◌≤◌, ◌<◌, ◌≡◌, refl, ap, sym, subst, ◌∙◌, Bool, true, false, ◌||◌, cond, List, [], ◌∷◌, inl, inr, arith, length, None, Some, is_some, unwrap_or}
use Rattle.geometry.specs.declared.Point.{Point}
use Rattle.geometry.specs.declared.Rectangle.{Rectangle}
use Rattle.tree.specs.Search.{nearest_on}
use Rattle.search.specs.declared.Best.{Best}
use Rattle.search.specs.declared.Query.{Query}
use Rattle.search.specs.declared.NodeView.{NodeView}
use Rattle.search.specs.declared.Examined.{Examined}
use Rattle.search.specs.Branch.{is_taken, is_blocked, judge, examine_branch}
use Rattle.search.specs.Walk.{Walk, examine_children, after_branch, walk, Safe}
use Rattle.search.specs.Columns.{Has}
use Rattle.search.specs.Thin.{thin_branch, thin_children}

-- ---- what it takes for a node to be left off
module _ (a : Query) (view : ℕ → NodeView) (children : ℕ → List ℕ) (n : ℕ) where
  -- the branch from P to C, were it not blocked
  abbrev pub judge_branch : NodeView → NodeView → Best → Best
  judge_branch P C b = judge a P C (nearest_on P.point C.point a.point) b

  -- nothing below a still node is taken, now or later
  pub record Stills (Still : Best → ℕ → Type 0) : Type 0 where
    pub same : (b : Best) (p c : ℕ) → Still b p → Has c (children p) → judge_branch (view p) (view c) b ≡ b
    pub down : (b : Best) (p c : ℕ) → Still b p → Has c (children p) → Still b c
    pub later : (b : Best) (x : ℕ) (P C : NodeView) → Still b x → Still (judge_branch P C b) x

-- ---- a stack with still nodes left off
module _ (Still : Best → ℕ → Type 0) where
  pub data Thins (b : Best) : List ℕ → List ℕ → Type 0 where
    none : Thins b [] []
    keep : {x : ℕ} {s t : List ℕ} → Thins b s t → Thins b (x ∷ s) (x ∷ t)
    drop : {x : ℕ} {s t : List ℕ} → Still b x → Thins b s t → Thins b (x ∷ s) t

  pub thins_short : {b : Best} {s t : List ℕ} → Thins b s t → length t ≤ length s
  thins_short none = omega arith
  thins_short (keep h) = let k = thins_short h in omega arith
  thins_short (drop v h) = let k = thins_short h in omega arith

  pub thins_same : (b : Best) (s : List ℕ) → Thins b s s
  thins_same b [] = none
  thins_same b (x ∷ s) = keep (thins_same b s)

  thins_map : {b b' : Best} {s t : List ℕ} → ((x : ℕ) → Still b x → Still b' x) → Thins b s t → Thins b' s t
  thins_map f none = none
  thins_map f (keep h) = keep (thins_map f h)
  thins_map f (drop {x = x} v h) = drop (f x v) (thins_map f h)

module _ (ks : List Rectangle) (a : Query) (view : ℕ → NodeView) (children : ℕ → List ℕ) (n : ℕ) (Still : Best → ℕ → Type 0) (v : Stills a view children n Still) where
  -- a walk, and one on a thinned stack
  pub record Paired (e e' : Walk) : Type 0 where
    pub found : e.found ≡ e'.found
    pub thin : Thins Still e'.found e.stack e'.stack

  -- ---- the children of a node that both walks pop
  module _ (wanted : Best → ℕ → Bool) (idle : (b : Best) (c : ℕ) → c < n → wanted b c ≡ false → Still b c) where
    not_taken : (P C : NodeView) (m : Point) (b : Best) → is_taken a P m b ≡ false → judge a P C m b ≡ b
    unfolding judge
    not_taken P C m b e = rw e

    -- what is found with a branch, as the code has it: of a branch that is not taken, what was found
    found_some : (t : Bool) (g : Best) → is_some (cond t (Some g) None) ≡ t
    found_some true g = refl
    found_some false g = refl

    found_value : (t : Bool) (g b : Best) → (t ≡ false → g ≡ b) → unwrap_or (cond t (Some g) None) b ≡ g
    found_value true g b f = refl
    found_value false g b f = sym (f refl)

    branch : (P : NodeView) (c : ℕ) (b : Best) (s t : List ℕ) → c < n → Thins Still b s t
        → Paired (after_branch ks a view (examine_branch ks a P (view c) b) c s) (after_branch ks a view (thin_branch ks a view wanted P c b) c t)
    unfolding is_blocked
    branch P c b s t h th =
        subst (λ (e : Examined). Paired (after_branch ks a view (examine_branch ks a P (view c) b) c s) (after_branch ks a view e c t)) (sym is)
        (by (is_taken a P m b) (wanted g c) (is_blocked ks a P (view c)) refl refl)
      where
        m : Point
        m = nearest_on P.point (view c).point a.point

        g : Best
        g = judge_branch a view children n P (view c) b

        kept : Thins Still g s t
        kept = thins_map Still (λ x z. v.later b x P (view c) z) th

        told : Bool → Best → Bool → Examined
        told k f w = cond (k || w) (cond (is_blocked ks a P (view c)) (record { found = b; pushed = false }) (record { found = f; pushed = w })) (record { found = b; pushed = false })

        is : thin_branch ks a view wanted P c b ≡ told (is_taken a P m b) g (wanted g c)
        is =
            let t : Bool = is_taken a P m b in
            let v : unwrap_or (cond t (Some g) None) b ≡ g = found_value t g b (not_taken P (view c) m b) in
            λ i. told (found_some t g i) (v i) (wanted (v i) c)

        by : (k w l : Bool) → is_taken a P m b ≡ k → wanted g c ≡ w
            → Paired (after_branch ks a view (cond l (record { found = b; pushed = false }) (record { found = g; pushed = true })) c s)
            (after_branch ks a view (cond (k || w) (cond l (record { found = b; pushed = false }) (record { found = g; pushed = w })) (record { found = b; pushed = false })) c t)
        by true w true ek ew = record { found = refl; thin = th }
        by true true false ek ew = record { found = refl; thin = keep kept }
        by true false false ek ew = record { found = refl; thin = drop (idle g c h ew) kept }
        by false true true ek ew = record { found = refl; thin = th }
        by false true false ek ew = record { found = refl; thin = keep kept }
        by false false true ek ew = record { found = refl; thin = th }
        by false false false ek ew =
            let e : g ≡ b = not_taken P (view c) m b ek in
            record { found = e; thin = drop (subst (λ (x : Best). Still x c) e (idle g c h ew)) th }

    pub thin_children_lem : (P : NodeView) (cs : List ℕ) (e e' : Walk) → ((c : ℕ) → Has c cs → c < n) → Paired e e'
        → Paired (examine_children ks a view P cs e) (thin_children ks a view wanted P cs e')
    unfolding examine_children thin_children Has
    thin_children_lem P [] e e' f h = h
    thin_children_lem P (c ∷ cs) e e' f h =
        thin_children_lem P cs _ _ (λ x z. f x (inr z))
        (subst (λ (b : Best). Paired (after_branch ks a view (examine_branch ks a P (view c) b) c e.stack) (after_branch ks a view (thin_branch ks a view wanted P c e'.found) c e'.stack))
        (sym h.found) (branch P c e'.found e.stack e'.stack (f c (inl refl)) h.thin))

  -- ---- a still node that the plain walk pops alone
  still_branch : (P C : NodeView) (c : ℕ) (b : Best) (s t : List ℕ) → judge_branch a view children n P C b ≡ b → Still b c → Thins Still b s t
      → Paired (after_branch ks a view (examine_branch ks a P C b) c s) (record { found = b; stack = t })
  still_branch P C c b s t e h th = by (is_blocked ks a P C)
    where
      by : (l : Bool) → Paired (after_branch ks a view (cond l (record { found = b; pushed = false }) (record { found = judge_branch a view children n P C b; pushed = true })) c s) (record { found = b; stack = t })
      by true = record { found = refl; thin = th }
      by false = record { found = e; thin = drop h th }

  still_children : (p : ℕ) (b : Best) (t cs : List ℕ) (e : Walk) → Still b p → ((c : ℕ) → Has c cs → Has c (children p)) → Paired e (record { found = b; stack = t })
      → Paired (examine_children ks a view (view p) cs e) (record { found = b; stack = t })
  unfolding examine_children Has
  still_children p b t [] e h f q = q
  still_children p b t (c ∷ cs) e h f q =
      let z : Has c (children p) = f c (inl refl) in
      still_children p b t cs _ h (λ x w. f x (inr w))
      (subst (λ (x : Best). Paired (after_branch ks a view (examine_branch ks a (view p) (view c) x) c e.stack) (record { found = b; stack = t }))
      (sym q.found) (still_branch (view p) (view c) c b e.stack t (v.same b p c h z) (v.down b p c h z) q.thin))

  -- with nothing but still nodes left, the walk is at its end
  pub all_still : (k : ℕ) (s : List ℕ) (b : Best) → Thins Still b s [] → walk ks a view children k s b ≡ b
  unfolding walk
  all_still zero s b th = refl
  all_still (suc k) [] b th = refl
  all_still (suc k) (x ∷ s) b (drop h th) =
      let q = still_children x b [] (children x) (record { found = b; stack = s }) h (λ c z. z) (record { found = refl; thin = th }) in
      ap (λ (y : Best). walk ks a view children k (examine_children ks a view (view x) (children x) (record { found = b; stack = s })).stack y) q.found
      ∙ all_still k _ b q.thin

  -- the plain walk pops still nodes until it is at p
  pub record Caught (room k : ℕ) (s : List ℕ) (b : Best) (p : ℕ) (t : List ℕ) : Type 0 where
    pub left : ℕ
    pub rest : List ℕ
    pub fewer : left ≤ k
    pub thin : Thins Still b rest t
    pub safe : Safe ks a view children n room left (p ∷ rest) b
    pub is : walk ks a view children left (p ∷ rest) b ≡ walk ks a view children k s b

  pub catch_up : (room k : ℕ) (s : List ℕ) (b : Best) (p : ℕ) (t : List ℕ) → Safe ks a view children n room k s b → Thins Still b s (p ∷ t) → Caught room k s b p t
  unfolding walk Safe
  catch_up room zero [] b p t z h = elim h [ ]
  catch_up room (suc k) [] b p t z h = elim h [ ]
  catch_up room zero (x ∷ s) b p t z (keep th) = absurd (omega (arith, ap length z))
  catch_up room zero (x ∷ s) b p t z (drop h th) = absurd (omega (arith, ap length z))
  catch_up room (suc k) (x ∷ s) b p t z (keep th) = record { left = suc k; rest = s; fewer = omega arith; thin = th; safe = z; is = refl }
  catch_up room (suc k) (x ∷ s) b p t z (drop h th) =
      let e = examine_children ks a view (view x) (children x) (record { found = b; stack = s }) in
      let q = still_children x b (p ∷ t) (children x) (record { found = b; stack = s }) h (λ c w. w) (record { found = refl; thin = th }) in
      let r : Caught room k e.stack b p t = catch_up room k e.stack b p t (subst (λ (y : Best). Safe ks a view children n room k e.stack y) q.found z.1.1) q.thin in
      record {
        left = r.left;
        rest = r.rest;
        fewer = omega (arith, r.fewer);
        thin = r.thin;
        safe = r.safe;
        is = r.is ∙ ap (λ (y : Best). walk ks a view children k e.stack y) (sym q.found);
      }
