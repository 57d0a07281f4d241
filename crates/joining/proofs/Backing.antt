-- What appending a child and taking one out do to the links back, and that the link of a child is to the one before it in its chain. The idea: a store outside a list of children keeps its links.
use Rattle.std.proofs.Common.{ℕ, ◌≤◌, ◌<◌, ◌≡◌, refl, ap, sym, ◌∙◌, subst, Bool, true, false, cond, List, [], ◌∷◌, inl, inr, ⊎_elim, arith, length, get_or, set, length-set, eqb, get_or-set_same, get_or-set_other}
use borrow.Author.Tests.{eq-eqb, ne_eqb, eqb-true, eqb-false}
use Rattle.tree.specs.Limits.{no_node}
use Rattle.tree.specs.Tree.{without}
use Rattle.search.specs.Columns.{chain, Chain, Has, Away, Distinct, Chained}
use Rattle.search.proofs.Distinct.{away_of, away_not, same-without}
use Rattle.joining.specs.Links.{Links, links, BackedBy, Backed, before_of, Detached}
use Rattle.joining.proofs.Moves.{before_in, tail_has}

-- ---- where a chain starts
pub chain_in : (prev : List ℕ) (l x : ℕ) (cs : List ℕ) → Chain prev l cs → Has x cs → x < length prev
unfolding Chain Has
chain_in prev l x [] v h = absurd h
chain_in prev l x (y ∷ cs) v h = ⊎_elim (λ (e : y ≡ x). omega (arith, v.0, v.1.0)) (λ (z : Has x cs). chain_in prev (get_or prev l 0) x cs v.1.1 z) h

module _ (prev : List ℕ) (few : length prev ≤ no_node) where
  -- at no number that the chain has not
  pub not_start : (l x : ℕ) (cs : List ℕ) → Chain prev l cs → x < length prev → (Has x cs → ⊥) → x ≡ l → ⊥
  unfolding Chain Has
  not_start l x [] v h f e = omega (arith, v)
  not_start l x (y ∷ cs) v h f e = f (inl (sym v.0 ∙ sym e))

  -- not on a chain that has none of it
  pub start_away : (l k : ℕ) (cs ds : List ℕ) → Chain prev l cs → Chain prev k ds → ((x : ℕ) → Has x cs → Has x ds → ⊥) → Away l ds
  start_away l k cs ds v w apart = away_of l ds (λ h. not_start l l cs v (chain_in prev k l ds w h) (λ z. apart l z h) refl)

-- the chain past c
record Past (prev : List ℕ) (c : ℕ) (cs : List ℕ) : Type 0 where
  rest : List ℕ
  chain : Chain prev (get_or prev c 0) rest
  within : (x : ℕ) → Has x rest → Has x cs

past : (prev : List ℕ) (l c : ℕ) (cs : List ℕ) → Chain prev l cs → Has c cs → Past prev c cs
unfolding Chain Has
past prev l c [] v h = absurd h
past prev l c (x ∷ xs) v h =
    ⊎_elim (λ (e : x ≡ c). record { rest = xs; chain = subst (λ (m : ℕ). Chain prev (get_or prev m 0) xs) (v.0 ∙ e) v.1.1; within = λ y z. inr z })
    (λ (z : Has c xs). let r : Past prev c xs = past prev (get_or prev l 0) c xs v.1.1 z in record { rest = r.rest; chain = r.chain; within = λ y w. inr (r.within y w) }) h

-- ---- a store in the links back
pub backed-keep : (next : List ℕ) (at v a : ℕ) (cs : List ℕ) → Away at cs → BackedBy next a cs → BackedBy (set next at v) a cs
unfolding BackedBy Away
backed-keep next at v a [] f h = tt
backed-keep next at v a (c ∷ cs) f h = (get_or-set_other next at c v 0 f.0 ∙ h.0, backed-keep next at v c cs f.1 h.1)

module _ (prev : List ℕ) (few : length prev ≤ no_node) where
  -- a chain gets another child after it
  backed-start : (next : List ℕ) (l a b : ℕ) (cs : List ℕ) → length next ≡ length prev → Distinct cs → Chain prev l cs → BackedBy next b cs → BackedBy (set next l a) a cs
  unfolding BackedBy Chain Distinct
  backed-start next l a b [] e d v h = tt
  backed-start next l a b (x ∷ xs) e d v h = (
    rw v.0 (get_or-set_same next x a 0 (omega (arith, v.0, v.1.0, e))),
    subst (λ (j : ℕ). BackedBy (set next j a) x xs) (sym v.0) (backed-keep next x a x xs d.0 h.1),
  )

  -- c goes before a chain that it is not on
  pub backed-attach : (next : List ℕ) (l c : ℕ) (cs : List ℕ) → length next ≡ length prev → c < length prev → (Has c cs → ⊥) → Distinct cs → Chain prev l cs → BackedBy next no_node cs
      → BackedBy (set (set next c no_node) l c) no_node (c ∷ cs)
  unfolding BackedBy
  backed-attach next l c cs e h f d v w = (
    get_or-set_other (set next c no_node) l c c 0 (not_start prev few l c cs v h f) ∙ get_or-set_same next c no_node 0 (omega (arith, e)),
    backed-start (set next c no_node) l c no_node cs (length-set next c no_node ∙ e) d v (backed-keep next c no_node no_node cs (away_of c cs f) w),
  )

  -- c leaves a chain
  pub backed_leave : (next : List ℕ) (l c a : ℕ) (cs : List ℕ) → length next ≡ length prev → Distinct cs → Has c cs → Chain prev l cs → BackedBy next a cs
      → BackedBy (set next (get_or prev c 0) (get_or next c 0)) a (without c cs)
  unfolding BackedBy Chain Distinct Has without
  backed_leave next l c a [] e d h v w = absurd h
  backed_leave next l c a (x ∷ xs) e d h v w = by (eqb x c) refl (λ z. backed_leave next (get_or prev l 0) c x xs e d.1 z v.1.1 w.1)
    where
      on : BackedBy next x xs → x ≡ c → BackedBy (set next (get_or prev c 0) (get_or next c 0)) a (without c xs)
      on b z =
          let f : without c xs ≡ xs = same-without c xs (subst (λ (m : ℕ). Away m xs) z d.0) in
          let g : Chain prev (get_or prev c 0) xs = subst (λ (m : ℕ). Chain prev (get_or prev m 0) xs) (v.0 ∙ z) v.1.1 in
          subst (λ (k : List ℕ). BackedBy (set next (get_or prev c 0) (get_or next c 0)) a k) (sym f)
          (subst (λ (m : ℕ). BackedBy (set next (get_or prev c 0) m) a xs) (sym w.0 ∙ ap (λ (m : ℕ). get_or next m 0) z) (backed-start next (get_or prev c 0) a x xs e d.1 g b))

      off : (x ≡ c → ⊥) → get_or (set next (get_or prev c 0) (get_or next c 0)) x 0 ≡ a
      off n =
          let r : Past prev c xs = past prev (get_or prev l 0) c xs v.1.1 (tail_has c x xs n h) in
          get_or-set_other next (get_or prev c 0) x (get_or next c 0) 0
          (not_start prev few (get_or prev c 0) x r.rest r.chain (omega (arith, v.0, v.1.0)) (λ z. away_not x xs d.0 (r.within x z)))
          ∙ w.0

      by : (t : Bool) → eqb x c ≡ t → (Has c xs → BackedBy (set next (get_or prev c 0) (get_or next c 0)) x (without c xs))
          → BackedBy (set next (get_or prev c 0) (get_or next c 0)) a (cond t (without c xs) (x ∷ without c xs))
      by true t ih = on w.1 (eqb-true x c t)
      by false t ih = (off (eqb-false x c t), ih (tail_has c x xs (eqb-false x c t) h))

  -- and does not touch a chain that has none of it
  pub backed_other : (next : List ℕ) (l k c v : ℕ) (cs ds : List ℕ) → Has c cs → Chain prev l cs → Chain prev k ds → ((x : ℕ) → Has x cs → Has x ds → ⊥) → BackedBy next no_node ds
      → BackedBy (set next (get_or prev c 0) v) no_node ds
  backed_other next l k c v cs ds h g w apart b =
      let r : Past prev c cs = past prev l c cs g h in
      backed-keep next (get_or prev c 0) v no_node ds (start_away prev few (get_or prev c 0) k r.rest ds r.chain w (λ x y z. apart x (r.within x y) z)) b

-- ---- the link of a child is to the one before it in the chain
next-before : (next : List ℕ) (a c x : ℕ) (r : List ℕ) → BackedBy next a (x ∷ r) → (x ≡ c → ⊥) → Has c (x ∷ r) → get_or next c 0 ≡ before_of (x ∷ r) c
unfolding BackedBy before_of Has
next-before next a c x [] w n h = absurd (⊎_elim (λ (z : x ≡ c). n z) (λ (z : ⊥). z) h)
next-before next a c x (y ∷ r) w n h = by (eqb y c) refl (λ m. next-before next x c y r w.1 m (tail_has c x (y ∷ r) n h))
  where
    by : (t : Bool) → eqb y c ≡ t → ((y ≡ c → ⊥) → get_or next c 0 ≡ before_of (y ∷ r) c) → get_or next c 0 ≡ cond t x (before_of (y ∷ r) c)
    by true e ih = ap (λ (m : ℕ). get_or next m 0) (sym (eqb-true y c e)) ∙ w.1.0
    by false e ih = ih (eqb-false y c e)

module _ (prev next : List ℕ) (l c : ℕ) (cs : List ℕ) (few : length prev ≤ no_node) where
  pub is_before : Chain prev l cs → BackedBy next no_node cs → Has c cs → (l ≡ c → ⊥) → get_or next c 0 ≡ before_of cs c
  unfolding Chain Has
  is_before v w h n = by cs v w h
    where
      by : (ds : List ℕ) → Chain prev l ds → BackedBy next no_node ds → Has c ds → get_or next c 0 ≡ before_of ds c
      by [] v w h = absurd h
      by (x ∷ r) v w h = next-before next no_node c x r w (λ e. n (v.0 ∙ e)) h

  -- it is none just where c comes first
  pub none_first : Chain prev l cs → BackedBy next no_node cs → Has c cs → get_or next c 0 ≡ no_node → l ≡ c
  none_first v w h e = by (eqb l c) refl
    where
      by : (t : Bool) → eqb l c ≡ t → l ≡ c
      by true t = eqb-true l c t
      by false t = absurd (omega (arith, e, is_before v w h (eqb-false l c t), chain_in prev l (before_of cs c) cs v (before_in c cs h)))

  pub first-none : Chain prev l cs → BackedBy next no_node cs → Has c cs → l ≡ c → get_or next c 0 ≡ no_node
  unfolding Chain BackedBy Has
  first-none v w h e = by cs v w h
    where
      by : (ds : List ℕ) → Chain prev l ds → BackedBy next no_node ds → Has c ds → get_or next c 0 ≡ no_node
      by [] v w h = absurd h
      by (x ∷ r) v w h = ap (λ (m : ℕ). get_or next m 0) (sym e ∙ v.0) ∙ w.0

-- ---- what the code does when c leaves is what is to be done
module _ (l : Links) (p c i j : ℕ) (ei : i ≡ p) (ej : j ≡ c) (few : length l.prev ≤ no_node) (v : Chained l.prev (get_or l.last p 0))
    (h : Has c (chain l.prev (get_or l.last p 0))) (w : Backed l p) (next' : List ℕ) (en : next' ≡ set l.next (get_or l.prev j 0) (get_or l.next j 0)) where
  abbrev first : ℕ
  first = get_or l.last p 0

  nexts : next' ≡ set l.next (get_or l.prev c 0) (get_or l.next c 0)
  nexts = en ∙ (λ k. set l.next (get_or l.prev (ej k) 0) (get_or l.next (ej k) 0))

  link : get_or l.next j 0 ≡ get_or l.next c 0
  link = ap (λ (m : ℕ). get_or l.next m 0) ej

  pub leaves_last : get_or l.next j 0 ≡ no_node → Detached l p c (links (set l.last i (get_or l.prev j 0)) l.prev next')
  leaves_last e =
      let t : eqb first c ≡ true = eq-eqb first c (none_first l.prev l.next first c (chain l.prev first) few v.is w h (sym link ∙ e)) in
      record { lasts = rw (t, ei, ej); prevs = rw t; nexts = nexts }

  pub leaves_other : (get_or l.next j 0 ≡ no_node → ⊥) → (prev' : List ℕ) → prev' ≡ set l.prev (get_or l.next j 0) (get_or l.prev j 0)
      → Detached l p c (links l.last prev' next')
  leaves_other f prev' ep =
      let n : first ≡ c → ⊥ = λ e. f (link ∙ first-none l.prev l.next first c (chain l.prev first) few v.is w h e) in
      let t : eqb first c ≡ false = ne_eqb first c n in
      let b : get_or l.next c 0 ≡ before_of (chain l.prev first) c = is_before l.prev l.next first c (chain l.prev first) few v.is w h n in
      record { lasts = rw t; prevs = rw t (ep ∙ (λ k. set l.prev ((link ∙ b) k) (get_or l.prev (ej k) 0))); nexts = nexts }
