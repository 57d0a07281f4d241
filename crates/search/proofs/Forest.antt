-- Where each node is the child of one node at most, a walk is safe: no node is on the stack twice, or after it was popped. So a stack and as many turns as there are nodes are enough.
use Rattle.std.proofs.Common.{ℕ, zero, suc, ◌+◌, ◌≤◌, ◌<◌, ◌≡◌, refl, sym, subst, Bool, true, false, cond, List, [], ◌∷◌, ◌++◌, ◌⊎◌, inl, inr, ⊎_elim, arith, length, length-append}
use Rattle.geometry.specs.declared.Rectangle.{Rectangle}
use Rattle.search.specs.declared.Best.{Best}
use Rattle.search.specs.declared.Query.{Query}
use Rattle.search.specs.declared.NodeView.{NodeView}
use Rattle.search.specs.Walk.{Walk, examine_children, Safe}
use Rattle.search.specs.Columns.{Has, Away, Distinct}
use Rattle.search.specs.Branch.{examine_branch}
use Rattle.search.specs.Find.{Forest}
use Rattle.search.proofs.Distinct.{away_not, has_left, has_right, has_split, has_moved, distinct_moved, distinct_append, pigeon}

module _ (ks : List Rectangle) (a : Query) (view : ℕ → NodeView) (P : NodeView) where
  children-distinct : (done cs : List ℕ) (e : Walk) → Distinct (cs ++ (e.stack ++ done)) → Distinct ((examine_children ks a view P cs e).stack ++ done)
  unfolding examine_children Distinct
  children-distinct done [] e d = d
  children-distinct done (c ∷ cs) e d = children-distinct done cs _ (by (examine_branch ks a P (view c) e.found).pushed)
    where
      by : (t : Bool) → Distinct (cs ++ (cond t (c ∷ e.stack) e.stack ++ done))
      by true = distinct_moved c cs (e.stack ++ done) d
      by false = d.1

  pub children-has : {X : Type 0} (x : ℕ) (cs : List ℕ) (e : Walk) → (Has x cs → X) → (Has x e.stack → X) → Has x (examine_children ks a view P cs e).stack → X
  unfolding examine_children Has
  children-has x [] e f g h = g h
  children-has {X} x (c ∷ cs) e f g h = children-has x cs _ (λ z. f (inr z)) (λ z. by (examine_branch ks a P (view c) e.found).pushed z) h
    where
      by : (t : Bool) → Has x (cond t (c ∷ e.stack) e.stack) → X
      by true z = ⊎_elim (λ (w : c ≡ x). f (inl w)) (λ (w : Has x e.stack). g w) z
      by false z = g z

module _ (ks : List Rectangle) (a : Query) (view : ℕ → NodeView) (children : ℕ → List ℕ) (n bound room : ℕ) (v : Forest n children) (in-bound : n ≤ bound) (in-room : n ≤ room) where
  record Under (done : List ℕ) (x : ℕ) : Type 0 where
    by : ℕ
    was : Has by done
    child : Has x (children by)

  -- what is on the stack and what was popped
  record Good (done stack : List ℕ) : Type 0 where
    apart : Distinct (stack ++ done)
    low : (x : ℕ) → Has x (stack ++ done) → x < n
    from : (x : ℕ) → Has x (stack ++ done) → (x ≡ 0) ⊎ Under done x

  module _ (done rest : List ℕ) (p : ℕ) (g : Good done (p ∷ rest)) where
    p_low : p < n
    unfolding Has
    p_low = g.low p (inl refl)

    fresh : (c : ℕ) → Has c (children p) → Has c (p ∷ rest ++ done) → ⊥
    unfolding Distinct Has
    fresh c h k =
        ⊎_elim (λ (z : c ≡ 0). v.no_root p c p_low h z)
        (λ (u : Under done c).
        let q_in : Has u.by (rest ++ done) = has_right u.by rest done u.was in
        let same : p ≡ u.by = v.one p u.by c p_low (g.low u.by (inr q_in)) h u.child in
        away_not p (rest ++ done) g.apart.0 (subst (λ (m : ℕ). Has m (rest ++ done)) (sym same) q_in))
        (g.from c k)

    all_apart : Distinct (children p ++ (rest ++ p ∷ done))
    all_apart =
        distinct_append (children p) (rest ++ p ∷ done) (v.once p p_low) (distinct_moved p rest done g.apart)
        (λ x h k. fresh x h (has_moved x p rest done k))

    all-low : (x : ℕ) → Has x (children p ++ (rest ++ p ∷ done)) → x < n
    all-low x h = has_split x (children p) (rest ++ p ∷ done) (λ z. v.below p x p_low z) (λ z. g.low x (has_moved x p rest done z)) h

    count : length (children p) + (length rest + suc (length done)) ≤ n
    count = omega (arith, pigeon n (children p ++ (rest ++ p ∷ done)) all_apart all-low, length-append (children p) (rest ++ p ∷ done), length-append rest (p ∷ done))

    module _ (b : Best) where
      e : Walk
      e = examine_children ks a view (view p) (children p) (record { found = b; stack = rest })

      next : Good (p ∷ done) e.stack
      unfolding e Has
      next =
          record {
            apart = children-distinct ks a view (view p) (p ∷ done) (children p) (record { found = b; stack = rest }) all_apart;
            low = λ x h. all-low x (back x h);
            from = λ x h. has_split x (children p) (rest ++ p ∷ done) (λ z. inr (record { by = p; was = inl refl; child = z }))
                (λ z. ⊎_elim (λ (w : x ≡ 0). inl w) (λ (u : Under done x). inr (record { by = u.by; was = inr u.was; child = u.child })) (g.from x (has_moved x p rest done z)))
                (back x h);
          }
        where
          back : (x : ℕ) → Has x (e.stack ++ p ∷ done) → Has x (children p ++ (rest ++ p ∷ done))
          back x h =
              has_split x e.stack (p ∷ done)
              (λ z. children-has ks a view (view p) x (children p) (record { found = b; stack = rest }) (λ w. has_left x (children p) (rest ++ p ∷ done) w) (λ w. has_right x (children p) (rest ++ p ∷ done) (has_left x rest (p ∷ done) w)) z)
              (λ z. has_right x (children p) (rest ++ p ∷ done) (has_right x rest (p ∷ done) z)) h

  empty : (l : List ℕ) → length l ≤ 0 → l ≡ []
  empty [] h = refl
  empty (x ∷ l) h = absurd (omega arith)

  safe : (k : ℕ) (stack : List ℕ) (b : Best) (done : List ℕ) → k + length done ≡ n → Good done stack → Safe ks a view children bound room k stack b
  unfolding Safe e
  safe zero stack b done h g = empty stack (omega (arith, pigeon n (stack ++ done) g.apart g.low, length-append stack done))
  safe (suc k) [] b done h g = tt
  safe (suc k) (p ∷ rest) b done h g = (
    omega (arith, p_low done rest p g),
    (omega (arith, count done rest p g), safe k (e done rest p g b).stack (e done rest p g b).found (p ∷ done) (omega arith) (next done rest p g b)),
  )

  pub safe_from_source : (b : Best) → Safe ks a view children bound room n (0 ∷ []) b
  unfolding Distinct Away Has
  safe_from_source b =
      safe n (0 ∷ []) b [] (omega arith)
      (record {
        apart = (tt, tt);
        low = λ x h. ⊎_elim (λ (z : 0 ≡ x). subst (λ (m : ℕ). m < n) z v.some) (λ (z : ⊥). absurd z) h;
        from = λ x h. ⊎_elim (λ (z : 0 ≡ x). inl (sym z)) (λ (z : ⊥). absurd z) h;
      })
