-- The loop that pops nodes: its start, a turn, its end. The idea: what is left of the plain walk does not change, and the stack is a thinned copy of the plain walk's.
use Rattle.std.proofs.Common.{ℕ, zero, suc, ◌+◌, ◌*◌, ◌≤◌, ◌<◌, ◌-◌, ◌≡◌, refl, ap, sym, ◌∙◌, subst, Bool, false, List, [], ◌∷◌, arith, sub-one, length, get_or, set, length-set}
use Rattle.geometry.specs.declared.Rectangle.{Rectangle}
use Rattle.search.specs.declared.Best.{Best}
use Rattle.search.specs.declared.Query.{Query}
use Rattle.search.specs.declared.NodeView.{NodeView}
use Rattle.search.specs.Walk.{Walk, examine_children, walk, looks, Safe}
use Rattle.search.specs.Columns.{Has, stack_of}
use Rattle.search.specs.Thin.{thin_children, Pushes}
use Rattle.search.proofs.Chains.{stack_push, stack-length}
use Rattle.search.proofs.Thinning.{Stills, Thins, thins_same, thins_short, Paired, thin_children_lem, all_still, Caught}
use Rattle.search.proofs.Leaves.{Leaf, leaves, all-leaves, CaughtLooks, catch_looks}

module _ (ks : List Rectangle) (a : Query) (view : ℕ → NodeView) (children : ℕ → List ℕ) (n room fuel : ℕ) (b : Best) where
  abbrev Still : Best → ℕ → Type 0
  Still = Leaf ks a view children n

  abbrev v : Stills a view children n Still
  v = leaves ks a view children n

  -- the plain walk is `turns` turns from its end, with the stack `plain`
  pub record Round (st : List ℕ) (found : Best) (top m left : ℕ) : Type 0 where
    pub turns : ℕ
    pub plain : List ℕ
    pub size : length st ≡ room
    pub tall : top ≤ room
    pub enough : turns ≤ left
    pub thin : Thins Still found plain (stack_of st top)
    pub safe : Safe ks a view children n room turns plain found
    pub is : walk ks a view children turns plain found ≡ walk ks a view children fuel (0 ∷ []) b
    pub counts : m + looks ks a view children turns plain found ≡ looks ks a view children fuel (0 ∷ []) b
    pub few : m + left * 65535 ≤ fuel * 65535

  pub begins : (st : List ℕ) (found : Best) → length st ≡ room → 0 < room → found ≡ b → Safe ks a view children n room fuel (0 ∷ []) b
      → {left : ℕ} → left ≡ fuel → Round (set st 0 0) found 1 0 left
  unfolding stack_of
  begins st found e h eb s el =
      let top : stack_of (set st 0 0) 1 ≡ 0 ∷ [] = stack_push st 0 0 (omega arith) in
      record {
        turns = fuel;
        plain = 0 ∷ [];
        size = length-set st 0 0 ∙ e;
        tall = omega arith;
        enough = omega arith;
        thin = rw top (thins_same Still found (0 ∷ []));
        safe = rw eb s;
        is = rw eb;
        counts = rw eb (omega arith);
        few = omega arith;
      }

  -- a node is popped
  pub record Popped (wanted : Best → ℕ → Bool) (st : List ℕ) (found : Best) (top m left : ℕ) : Type 0 where
    pub here : get_or st (top - 1) 0 < n
    pub fits : (top - 1) + length (children (get_or st (top - 1) 0)) ≤ room
    pub some : 0 < left
    pub again : (P : NodeView) (cs : List ℕ) (found' : Best) (st' : List ℕ) (top' l m' : ℕ) →
        P ≡ view (get_or st (top - 1) 0) → cs ≡ children (get_or st (top - 1) 0) → length st' ≡ length st →
        Pushes ks a view wanted P cs found st (top - 1) found' st' top' l → l ≤ 65535 → m' ≡ m + l → Round st' found' top' m' (left - 1)

  module _ (p : ℕ) (rest : List ℕ) (found : Best) where
    abbrev e : Walk
    e = examine_children ks a view (view p) (children p) (record { found = found; stack = rest })

    record Next (left : ℕ) : Type 0 where
      here : p < n
      fits : length rest + length (children p) ≤ room
      some : 0 < left
      safe : Safe ks a view children n room (left - 1) e.stack e.found
      walks : walk ks a view children (left - 1) e.stack e.found ≡ walk ks a view children left (p ∷ rest) found
      counts : length (children p) + looks ks a view children (left - 1) e.stack e.found ≡ looks ks a view children left (p ∷ rest) found

    next : (left : ℕ) → Safe ks a view children n room left (p ∷ rest) found → Next left
    unfolding Safe walk looks
    next zero s = absurd (omega (arith, ap length s))
    next (suc k) s =
        let m : suc k - 1 ≡ k = sub-one (suc k) in
        record {
          here = s.0;
          fits = s.1.0;
          some = omega arith;
          safe = rw m s.1.1;
          walks = rw m;
          counts = rw m;
        }

  pop_is : (st : List ℕ) (top : ℕ) → 0 < top → stack_of st top ≡ get_or st (top - 1) 0 ∷ stack_of st (top - 1)
  unfolding stack_of
  pop_is st zero h = absurd (omega arith)
  pop_is st (suc k) h = let m : suc k - 1 ≡ k = sub-one (suc k) in rw m

  module _ (tt₀ : Unit {0}) where
    -- at the end the stack is empty, and what the plain walk has left is still
    pub finishes : (st : List ℕ) (found : Best) (top m left : ℕ) → Round st found top m left → top ≤ 0 → (found ≡ walk ks a view children fuel (0 ∷ []) b) × (m ≡ looks ks a view children fuel (0 ∷ []) b)
    unfolding stack_of
    finishes st found zero m left r h =
        (sym (all_still ks a view children n Still v r.turns r.plain found r.thin) ∙ r.is, omega (arith, r.counts, all-leaves ks a view children n r.turns r.plain found r.thin))
    finishes st found (suc top) m left r h = absurd (omega arith)

    -- so too where no turn is left
    pub runs-out : (st : List ℕ) (found : Best) (top m left : ℕ) → Round st found top m left → left ≤ 0 → (found ≡ walk ks a view children fuel (0 ∷ []) b) × (m ≡ looks ks a view children fuel (0 ∷ []) b)
    unfolding walk looks
    runs-out st found top m left r h =
        let z : r.turns ≡ 0 = omega (arith, r.enough) in
        (sym (ap (λ (k : ℕ). walk ks a view children k r.plain found) z) ∙ r.is, omega (arith, r.counts, ap (λ (k : ℕ). looks ks a view children k r.plain found) z))

    module _ (wanted : Best → ℕ → Bool) (idle : (b : Best) (c : ℕ) → c < n → wanted b c ≡ false → Still b c) (below : (p c : ℕ) → p < n → Has c (children p) → c < n)
        (st : List ℕ) (found : Best) (top m left : ℕ) (r : Round st found top m left) (h : 0 < top) where
      abbrev p : ℕ
      p = get_or st (top - 1) 0

      -- the plain walk comes to the node that the code pops
      both : CaughtLooks ks a view children n room r.turns r.plain found p (stack_of st (top - 1))
      both = catch_looks ks a view children n room r.turns r.plain found p (stack_of st (top - 1)) r.safe (subst (Thins Still found r.plain) (pop_is st top h) r.thin)

      abbrev caught : Caught ks a view children n Still v room r.turns r.plain found p (stack_of st (top - 1))
      caught = both.caught

      step : Next p caught.rest found caught.left
      step = next p caught.rest found caught.left caught.safe

      short : top - 1 ≤ length caught.rest
      short = omega (arith, thins_short Still caught.thin, stack-length st (top - 1))

      pair : Paired ks a view children n Still v (e p caught.rest found) (thin_children ks a view wanted (view p) (children p) (record { found = found; stack = stack_of st (top - 1) }))
      pair = thin_children_lem ks a view children n Still v wanted idle (view p) (children p) _ _ (λ c z. below p c step.here z) (record { found = refl; thin = caught.thin })

      after : (found' : Best) (st' : List ℕ) (top' l m' : ℕ) → length st' ≡ length st → Pushes ks a view wanted (view p) (children p) found st (top - 1) found' st' top' l → l ≤ 65535 → m' ≡ m + l → Round st' found' top' m' (left - 1)
      after found' st' top' l m' z q low em =
          let w = subst (λ (y : Walk). Paired ks a view children n Still v (e p caught.rest found) y) (sym q.is) pair in
          record {
            turns = caught.left - 1;
            plain = (e p caught.rest found).stack;
            size = z ∙ r.size;
            tall = omega (arith, q.fits, step.fits, short);
            enough = omega (arith, caught.fewer, r.enough, step.some);
            thin = w.thin;
            safe = subst (λ (y : Best). Safe ks a view children n room (caught.left - 1) (e p caught.rest found).stack y) w.found step.safe;
            is = ap (λ (y : Best). walk ks a view children (caught.left - 1) (e p caught.rest found).stack y) (sym w.found) ∙ step.walks ∙ caught.is ∙ r.is;
            counts = omega (arith, em, q.counts, r.counts, both.counts, step.counts, ap (λ (y : Best). looks ks a view children (caught.left - 1) (e p caught.rest found).stack y) w.found);
            few = omega (arith, em, r.few, step.some, caught.fewer, r.enough);
          }

      pub pops : Popped wanted st found top m left
      pops =
          record {
            here = step.here;
            fits = omega (arith, step.fits, short);
            some = omega (arith, step.some, caught.fewer, r.enough);
            again = λ P cs found' st' top' l m' e_p ec z q low em.
                after found' st' top' l m' z
                (subst (λ (y : List ℕ). Pushes ks a view wanted (view p) y found st (top - 1) found' st' top' l) ec
                (subst (λ (x : NodeView). Pushes ks a view wanted x cs found st (top - 1) found' st' top' l) e_p q)) low em;
          }
