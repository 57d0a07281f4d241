-- Leaves may be left off the stack: they have no branches, so neither what is found nor the count misses them.
use Rattle.std.proofs.Common.{ℕ, zero, suc, ◌≡◌, refl, ap, sym, subst, ◌∙◌, List, [], ◌∷◌, arith, length}
use Rattle.geometry.specs.declared.Rectangle.{Rectangle}
use Rattle.search.specs.declared.Best.{Best}
use Rattle.search.specs.declared.Query.{Query}
use Rattle.search.specs.declared.NodeView.{NodeView}
use Rattle.search.specs.Walk.{Walk, examine_children, walk, looks, Safe}
use Rattle.search.specs.Columns.{Has}
use Rattle.search.proofs.Thinning.{Stills, Thins, keep, drop, Caught}

module _ (ks : List Rectangle) (a : Query) (view : ℕ → NodeView) (children : ℕ → List ℕ) (n : ℕ) where
  abbrev pub Leaf : Best → ℕ → Type 0
  Leaf b p = children p ≡ []

  no_child : (p c : ℕ) {X : Type 0} → children p ≡ [] → Has c (children p) → X
  unfolding Has
  no_child p c e h = absurd (subst (Has c) e h)

  pub leaves : Stills a view children n Leaf
  leaves = record { same = λ b p c e h. no_child p c e h; down = λ b p c e h. no_child p c e h; later = λ b x P C e. e }

  -- a leaf on top is popped, and nothing else happens
  leaf_pop : (x : ℕ) (s : List ℕ) (b : Best) → children x ≡ [] → examine_children ks a view (view x) (children x) (record { found = b; stack = s }) ≡ record { found = b; stack = s }
  unfolding examine_children
  leaf_pop x s b e = ap (λ (l : List ℕ). examine_children ks a view (view x) l (record { found = b; stack = s })) e

  leaf_looks : (k x : ℕ) (s : List ℕ) (b : Best) → children x ≡ [] → looks ks a view children (suc k) (x ∷ s) b ≡ looks ks a view children k s b
  unfolding looks
  leaf_looks k x s b e = omega (arith, ap length e, ap (λ (w : Walk). looks ks a view children k w.stack w.found) (leaf_pop x s b e))

  -- nothing but leaves left: nothing more is counted
  pub all-leaves : (k : ℕ) (s : List ℕ) (b : Best) → Thins Leaf b s [] → looks ks a view children k s b ≡ 0
  unfolding looks
  all-leaves zero s b th = refl
  all-leaves (suc k) [] b th = refl
  all-leaves (suc k) (x ∷ s) b (drop h th) = leaf_looks k x s b h ∙ all-leaves k s b th

  -- the plain walk pops leaves until it is at p
  pub record CaughtLooks (room k : ℕ) (s : List ℕ) (b : Best) (p : ℕ) (t : List ℕ) : Type 0 where
    pub caught : Caught ks a view children n Leaf leaves room k s b p t
    pub counts : looks ks a view children caught.left (p ∷ caught.rest) b ≡ looks ks a view children k s b

  pub catch_looks : (room k : ℕ) (s : List ℕ) (b : Best) (p : ℕ) (t : List ℕ) → Safe ks a view children n room k s b → Thins Leaf b s (p ∷ t) → CaughtLooks room k s b p t
  unfolding walk Safe
  catch_looks room zero [] b p t z h = elim h [ ]
  catch_looks room (suc k) [] b p t z h = elim h [ ]
  catch_looks room zero (x ∷ s) b p t z (keep th) = absurd (omega (arith, ap length z))
  catch_looks room zero (x ∷ s) b p t z (drop h th) = absurd (omega (arith, ap length z))
  catch_looks room (suc k) (x ∷ s) b p t z (keep th) = record { caught = record { left = suc k; rest = s; fewer = omega arith; thin = th; safe = z; is = refl }; counts = refl }
  catch_looks room (suc k) (x ∷ s) b p t z (drop h th) =
      let r : CaughtLooks room k s b p t = catch_looks room k s b p t (subst (λ (w : Walk). Safe ks a view children n room k w.stack w.found) (leaf_pop x s b h) z.1.1) th in
      record {
        caught = record {
          left = r.caught.left;
          rest = r.caught.rest;
          fewer = omega (arith, r.caught.fewer);
          thin = r.caught.thin;
          safe = r.caught.safe;
          is = r.caught.is ∙ sym (ap (λ (w : Walk). walk ks a view children k w.stack w.found) (leaf_pop x s b h));
        };
        counts = r.counts ∙ sym (leaf_looks k x s b h);
      }
