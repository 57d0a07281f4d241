-- The walk pops each node at most once, so as many turns as there are nodes empty its stack; with nothing in the way it pops every node. What each pop keeps
-- therefore holds at the end.
use Rattle.std.proofs.Common.{◌≡◌, refl, sym, ap, ◌∙◌, Bool, true, false, cond, List, [], ◌∷◌, ◌++◌, ℕ, zero, suc, ◌+◌, ◌≤◌, ◌<◌, arith, length, length-append, eqb, ℤ}
use Rattle.std.proofs.Math.Decide.{dec_lt, ℕ_discrete}
use Rattle.geometry.specs.declared.Point.{Point}
use Rattle.geometry.specs.Geometry.{box, nearest}
use Rattle.tree.specs.Tree.{one}
use Rattle.tree.specs.Tree.{Node, Parent, none, at, node_at, sum_to}
use Rattle.tree.specs.Search.{Best, Walk, judge, examine, branches, walk, fresh}
use Rattle.tree.specs.Shape.{Linked, count, is_at}
use Rattle.tree.proofs.Counting.{one-eq, one-ne, count-append}
use Rattle.tree.proofs.Linking.{child_in, counted, parent_in_lem, not_own, none-at, at_inj}

pub one-most : (t : Bool) → one t ≤ 1
one-most true = omega arith
one-most false = omega arith

-- ---- distinct numbers below n are at most n
sum-add : (n : ℕ) (f g : ℕ → ℕ) → sum_to n (λ x. f x + g x) ≡ sum_to n f + sum_to n g
unfolding sum_to
sum-add zero f g = refl
sum-add (suc n) f g = omega (arith, sum-add n f g)

sum-zero : (n : ℕ) (f : ℕ → ℕ) → ((x : ℕ) → x < n → f x ≡ 0) → sum_to n f ≡ 0
unfolding sum_to
sum-zero zero f h = refl
sum-zero (suc n) f h = omega (arith, sum-zero n f (λ x l. h x (omega arith)), h n (omega arith))

sum-most : (n : ℕ) (f : ℕ → ℕ) → ((x : ℕ) → x < n → f x ≤ 1) → sum_to n f ≤ n
unfolding sum_to
sum-most zero f h = omega arith
sum-most (suc n) f h = omega (arith, sum-most n f (λ x l. h x (omega arith)), h n (omega arith))

sum_hit : (n a : ℕ) → a < n → sum_to n (λ x. one (eqb a x)) ≡ 1
unfolding sum_to
sum_hit zero a h = absurd (omega arith)
sum_hit (suc n) a h = by (dec_lt a n) (sum_hit n a)
  where
    by : Dec (a < n) → (a < n → sum_to n (λ x. one (eqb a x)) ≡ 1) → sum_to n (λ x. one (eqb a x)) + one (eqb a n) ≡ 1
    by (yes l) ih = omega (arith, ih l, one-ne a n (omega arith))
    by (no l) ih = omega (arith, sum-zero n (λ x. one (eqb a x)) (λ x k. one-ne a x (omega arith)), one-eq a n (omega arith))

length-sum : (n : ℕ) (l : List ℕ) → ((x : ℕ) → 0 < count x l → x < n) → sum_to n (λ x. count x l) ≡ length l
unfolding count
length-sum n [] h = sum-zero n _ (λ x k. refl)
length-sum n (a ∷ l) h =
    omega (arith, sum-add n (λ x. one (eqb a x)) (λ x. count x l), sum_hit n a (h a (omega (arith, one-eq a a refl))), length-sum n l (λ x k. h x (omega arith)))

pub pigeon : (n : ℕ) (l : List ℕ) → ((x : ℕ) → count x l ≤ 1) → ((x : ℕ) → 0 < count x l → x < n) → length l ≤ n
pigeon n l once below = omega (arith, length-sum n l below, sum-most n (λ x. count x l) (λ x k. once x))

sum_ones : (n : ℕ) (f : ℕ → ℕ) → ((x : ℕ) → x < n → f x ≡ 1) → sum_to n f ≡ n
unfolding sum_to
sum_ones zero f h = refl
sum_ones (suc n) f h = omega (arith, sum_ones n f (λ x l. h x (omega arith)), h n (omega arith))

-- all numbers below n, each once, are n
pub pigeon_all : (n : ℕ) (l : List ℕ) → ((x : ℕ) → 0 < count x l → x < n) → ((x : ℕ) → x < n → count x l ≡ 1) → length l ≡ n
pigeon_all n l below all = omega (arith, length-sum n l below, sum_ones n (λ x. count x l) all)

-- ---- the walk under way: what has been popped, and the stack
module _ (ns : List Node) (g : Linked ns) where
  pub record Visit (popped stack : List ℕ) : Type 0 where
    pub once : (x : ℕ) → count x popped + count x stack ≤ 1
    pub inside : (x : ℕ) → 0 < count x popped + count x stack → x < length ns
    pub after : (x p : ℕ) → 0 < count x popped + count x stack → (node_at ns x).parent ≡ at p → 0 < count p popped

  zero-only : (x : ℕ) → 0 < one (eqb 0 x) → x ≡ 0
  zero-only x h = by (ℕ_discrete 0 x)
    where
      by : Dec (0 ≡ x) → x ≡ 0
      by (yes e) = sym e
      by (no e) = absurd (omega (arith, one-ne 0 x e))

  pub visit_start : Visit [] (0 ∷ [])
  unfolding count
  visit_start =
      record {
        once = λ x. omega (arith, one-most (eqb 0 x));
        inside = λ x h. omega (arith, zero-only x (omega arith), g.some);
        after = λ x p h e. none-at (sym g.top ∙ ap (λ (i : ℕ). (node_at ns i).parent) (sym (zero-only x (omega arith))) ∙ e);
      }

  -- x is a child of p, or not among its children
  data Kid (p x : ℕ) : Type 0 where
    child : (node_at ns x).parent ≡ at p → count x (node_at ns p).children ≡ 1 → Kid p x
    other : count x (node_at ns p).children ≡ 0 → Kid p x

  kid : (p x : ℕ) → Kid p x
  kid p x = by (node_at ns x).parent refl
    where
      by : (y : Parent) → (node_at ns x).parent ≡ y → Kid p x
      by none e = other (g.links p x ∙ ap (is_at p) e)
      by (at y) e = test (ℕ_discrete p y)
        where
          test : Dec (p ≡ y) → Kid p x
          test (yes f) = child (e ∙ ap at (sym f)) (g.links p x ∙ ap (is_at p) e ∙ one-eq p y f)
          test (no f) = other (g.links p x ∙ ap (is_at p) e ∙ one-ne p y f)

  -- p is popped, and some of its children pushed
  module _ (popped rest pushed : List ℕ) (p : ℕ) (v : Visit popped (p ∷ rest)) (h : (x : ℕ) → count x pushed ≤ count x (node_at ns p).children + count x rest) where
    new_child : (x : ℕ) → (node_at ns x).parent ≡ at p → count x popped + count x rest ≡ 0
    unfolding count
    new_child x e = by (dec_lt 0 (count x popped + count x rest))
      where
        by : Dec (0 < count x popped + count x rest) → count x popped + count x rest ≡ 0
        by (yes l) = absurd (omega (arith, v.after x p (omega arith) e, v.once p, one-eq p p refl))
        by (no l) = omega arith

    once_pop : (x : ℕ) → count x (p ∷ popped) + count x pushed ≤ 1
    unfolding count
    once_pop x = by (kid p x)
      where
        by : Kid p x → one (eqb p x) + count x popped + count x pushed ≤ 1
        by (child e k) = omega (arith, new_child x e, h x, one-ne p x (λ z. not_own g x p e (sym z)))
        by (other k) = omega (arith, v.once x, h x)

    inside_pop : (x : ℕ) → 0 < count x (p ∷ popped) + count x pushed → x < length ns
    unfolding count
    inside_pop x l = by (kid p x)
      where
        by : Kid p x → x < length ns
        by (child e k) = child_in g x p e
        by (other k) = v.inside x (omega (arith, h x))

    after_pop_lem : (x y : ℕ) → 0 < count x (p ∷ popped) + count x pushed → (node_at ns x).parent ≡ at y → 0 < count y (p ∷ popped)
    unfolding count
    after_pop_lem x y l e = by (kid p x)
      where
        by : Kid p x → 0 < one (eqb p y) + count y popped
        by (child f k) = omega (arith, one-eq p y (at_inj (sym f ∙ e)))
        by (other k) = omega (arith, v.after x y (omega (arith, h x)) e)

    pub visit_pop : Visit (p ∷ popped) pushed
    visit_pop = record { once = once_pop; inside = inside_pop; after = after_pop_lem }

  -- the stack never outgrows the nodes
  pub visit_room : (popped stack : List ℕ) → Visit popped stack → length popped + length stack ≤ length ns
  visit_room popped stack v =
      omega (
        arith,
        length-append popped stack,
        pigeon (length ns) (popped ++ stack) (λ x. omega (arith, count-append x popped stack, v.once x)) (λ x k. v.inside x (omega (arith, count-append x popped stack))),
      )

  -- ---- nothing is left out: the source has been pushed, and all children of what has been popped
  pub record Whole (popped stack : List ℕ) : Type 0 where
    pub source : 0 < count 0 popped + count 0 stack
    pub below : (x p : ℕ) → (node_at ns x).parent ≡ at p → 0 < count p popped → 0 < count x popped + count x stack

  pub whole-start : Whole [] (0 ∷ [])
  unfolding count
  whole-start = record { source = omega (arith, one-eq 0 0 refl); below = λ x p e h. absurd (omega arith) }

  -- p is popped, and all of its children pushed
  module _ (popped rest pushed : List ℕ) (p : ℕ) (w : Whole popped (p ∷ rest)) (h : (x : ℕ) → count x pushed ≡ count x (node_at ns p).children + count x rest) where
    -- what was there is there, and so are the children of p
    there : (x : ℕ) → count x (p ∷ popped) + count x pushed ≡ count x popped + count x (p ∷ rest) + count x (node_at ns p).children
    unfolding count
    there x = omega (arith, h x)

    below_pop : (x y : ℕ) → (node_at ns x).parent ≡ at y → 0 < count y (p ∷ popped) → 0 < count x (p ∷ popped) + count x pushed
    unfolding count
    below_pop x y e l = by (ℕ_discrete p y)
      where
        by : Dec (p ≡ y) → 0 < count x (p ∷ popped) + count x pushed
        by (yes z) = omega (arith, there x, counted g x p (e ∙ ap at (sym z)))
        by (no z) = omega (arith, there x, w.below x y e (omega (arith, one-ne p y z)))

    pub whole_pop : Whole (p ∷ popped) pushed
    whole_pop = record { source = omega (arith, there 0, w.source); below = below_pop }

  -- with an empty stack every node has been popped: the source has, and any other has a parent, of lower rank
  module _ (popped : List ℕ) (w : Whole popped []) where
    popped_to : (r x : ℕ) → x < length ns → g.rank x < r → 0 < count x popped
    unfolding count
    popped_to zero x l k = absurd (omega arith)
    popped_to (suc r) x l k = by (node_at ns x).parent refl (popped_to r)
      where
        by : (y : Parent) → (node_at ns x).parent ≡ y → ((i : ℕ) → i < length ns → g.rank i < r → 0 < count i popped) → 0 < count x popped
        by none e ih = let z : x ≡ 0 = g.others x l e in omega (arith, w.source, ap (λ (i : ℕ). count i popped) z)
        by (at y) e ih = omega (arith, w.below x y e (ih y (parent_in_lem g x y e) (omega (arith, g.falls x y e))))

    pub all_popped : (x : ℕ) → x < length ns → 0 < count x popped
    all_popped x l = popped_to (suc (g.rank x)) x l (omega arith)

  -- ---- the walk
  module _ (shut : Point → Point → Point → Point → Bool) (limit : ℕ) (allowed : ℤ) (q : Point) where
    -- only children are pushed
    pub pushes : (p : ℕ) (cs : List ℕ) (e : Walk) (x : ℕ) → count x (branches shut ns limit allowed q p cs e).stack ≤ count x cs + count x e.stack
    unfolding branches examine count
    pushes p [] e x = omega arith
    pushes p (c ∷ cs) e x =
        by (shut q (node_at ns p).point (node_at ns c).point (nearest (box (node_at ns p).point (node_at ns c).point) q)) (pushes p cs e x)
      where
        by : (t : Bool) → count x (branches shut ns limit allowed q p cs e).stack ≤ count x cs + count x e.stack
            → count x (cond t (branches shut ns limit allowed q p cs e)
            (record { found = judge shut ns limit allowed q p c (branches shut ns limit allowed q p cs e).found; stack = c ∷ (branches shut ns limit allowed q p cs e).stack })).stack
            ≤ one (eqb c x) + count x cs + count x e.stack
        by true ih = omega arith
        by false ih = omega arith

    -- p is popped, with rest below it
    abbrev pub after_pop : ℕ → List ℕ → Best → Walk
    after_pop p rest f = branches shut ns limit allowed q p (node_at ns p).children (record { found = f; stack = rest })

    -- K, of what has been popped, the stack and what is found, is kept by each pop
    abbrev pub Pops : (List ℕ → List ℕ → Best → Type 0) → Type 0
    Pops K = (popped rest : List ℕ) (p : ℕ) (f : Best) → K popped (p ∷ rest) f → K (p ∷ popped) (after_pop p rest f).stack (after_pop p rest f).found

    pub record Ended (K : List ℕ → List ℕ → Best → Type 0) (e : Walk) : Type 0 where
      pub popped : List ℕ
      pub empty : e.stack ≡ []
      pub kept : K popped [] e.found

    module _ (K : List ℕ → List ℕ → Best → Type 0) (pop : Pops K) where
      ends : (k : ℕ) (popped stack : List ℕ) (f : Best) → Visit popped stack → k + length popped ≡ length ns → K popped stack f → Ended K (walk shut ns limit allowed q k stack f)
      unfolding walk
      ends zero popped [] f v e h = record { popped = popped; empty = refl; kept = h }
      ends zero popped (p ∷ rest) f v e h = absurd (omega (arith, visit_room popped (p ∷ rest) v))
      ends (suc k) popped [] f v e h = record { popped = popped; empty = refl; kept = h }
      ends (suc k) popped (p ∷ rest) f v e h =
          ends k (p ∷ popped) _ _
          (visit_pop popped rest _ p v (pushes p (node_at ns p).children (record { found = f; stack = rest })))
          (omega arith)
          (pop popped rest p f h)

      pub walk-keeps : K [] (0 ∷ []) (fresh limit) → Ended K (walk shut ns limit allowed q (length ns) (0 ∷ []) (fresh limit))
      walk-keeps = ends (length ns) [] (0 ∷ []) (fresh limit) visit_start (omega arith)

    -- as many turns as there are nodes are enough
    pub walk_ends : (walk shut ns limit allowed q (length ns) (0 ∷ []) (fresh limit)).stack ≡ []
    walk_ends = (walk-keeps (λ popped stack f. Unit {0}) (λ popped rest p f h. tt) tt).empty

    -- ---- with nothing in the way
    module _ (clear : (a b c d : Point) → shut a b c d ≡ false) where
      pub examined : (p c : ℕ) (e : Walk) → examine shut ns limit allowed q p c e ≡ record { found = judge shut ns limit allowed q p c e.found; stack = c ∷ e.stack }
      unfolding examine
      examined p c e = rw clear

      -- all children are pushed
      pub pushes_all : (p : ℕ) (cs : List ℕ) (e : Walk) (x : ℕ) → count x (branches shut ns limit allowed q p cs e).stack ≡ count x cs + count x e.stack
      unfolding branches count
      pushes_all p [] e x = omega arith
      pushes_all p (c ∷ cs) e x =
          omega (arith, ap (λ (w : Walk). count x w.stack) (examined p c (branches shut ns limit allowed q p cs e)), pushes_all p cs e x)

      pub whole-after : (popped rest : List ℕ) (p : ℕ) (f : Best) → Whole popped (p ∷ rest) → Whole (p ∷ popped) (after_pop p rest f).stack
      whole-after popped rest p f h = whole_pop popped rest _ p h (pushes_all p (node_at ns p).children (record { found = f; stack = rest }))
