-- Appending a child and taking one out, as what they do to the lists of children that the links hold both ways.
use Rattle.std.proofs.Common.{ℕ, ◌≤◌, ◌<◌, ◌≡◌, refl, sym, ◌∙◌, subst, Bool, true, false, cond, ◌≢◌, List, [], ◌∷◌, ◌++◌, reverse, arith, length, get_or, set, eqb, get_or-set_same, get_or-set_other}
use mathlib.Core.List.{reverse_aux, reverse-append}
use borrow.Author.Tests.{eqb-true, eqb-false}
use Rattle.tree.specs.Limits.{no_node}
use Rattle.tree.specs.Tree.{without}
use Rattle.search.specs.Columns.{chain, Chain, Has, Distinct}
use Rattle.search.proofs.Distinct.{away_of, has-without, distinct_without, pigeon}
use Rattle.search.proofs.Chains.{chain_is}
use Rattle.joining.specs.Links.{ChildrenAre, BackedBy, Links, SizedLinks, before_of, Attached, Detached}
use Rattle.joining.proofs.Moves.{chain-keep, chain-attach, chain_first, chain_middle, before_in}
use Rattle.joining.proofs.Backing.{chain_in, start_away, backed-keep, backed-attach, backed_leave, backed_other}

without_aux : (c : ℕ) (l r : List ℕ) → without c (reverse_aux l r) ≡ reverse_aux (without c l) (without c r)
unfolding without
without_aux c [] r = refl
without_aux c (x ∷ xs) r = without_aux c xs (x ∷ r) ∙ by (eqb x c)
  where
    by : (t : Bool) → reverse_aux (without c xs) (cond t (without c r) (x ∷ without c r)) ≡ reverse_aux (cond t (without c xs) (x ∷ without c xs)) (without c r)
    by true = refl
    by false = refl

without-reverse : (c : ℕ) (l : List ℕ) → without c (reverse l) ≡ reverse (without c l)
unfolding without
without-reverse c l = without_aux c l []

-- the links hold the children cs of p
pub record Held (l : Links) (p : ℕ) (cs : List ℕ) : Type 0 where
  pub chain : ChildrenAre l.last l.prev p cs
  pub back : BackedBy l.next no_node (reverse cs)

-- no child is in both
abbrev pub Apart : List ℕ → List ℕ → Type 0
Apart cs ds = (x : ℕ) → Has x (reverse cs) → Has x (reverse ds) → ⊥

pub apart_without : (c : ℕ) (cs ds : List ℕ) → Apart cs ds → Apart (without c cs) ds
apart_without c cs ds f x a b = has-without c x (reverse cs) (λ z n. f x z b) (subst (Has x) (sym (without-reverse c cs)) a)

pub once-without : (c : ℕ) (cs : List ℕ) → Distinct (reverse cs) → Distinct (reverse (without c cs))
once-without c cs d = subst Distinct (without-reverse c cs) (distinct_without c (reverse cs) d)

short : {m : ℕ} {l : Links} → SizedLinks m l → length l.prev ≤ no_node
short z = omega (arith, z.prev, z.few)

-- ---- c goes last among p's children
module _ (m : ℕ) (l l' : Links) (z : SizedLinks m l) (p c : ℕ) (hp : p < m) (hc : c < m) (v : Attached l p c l') (cs : List ℕ) (h : Held l p cs) where
  abbrev end : ℕ
  end = get_or l.last p 0

  pub attach_own : Distinct (reverse cs) → (Has c (reverse cs) → ⊥) → Held l' p (cs ++ (c ∷ []))
  attach_own d f =
      record {
        chain = rw (v.lasts, v.prevs, get_or-set_same l.last p c 0 (omega (arith, z.last)), reverse-append cs (c ∷ []))
            (chain-attach l.prev end c (reverse cs) (omega (arith, z.prev)) (away_of c (reverse cs) f) h.chain);
        back = rw (v.nexts, reverse-append cs (c ∷ []))
            (backed-attach l.prev (short z) l.next end c (reverse cs) (z.next ∙ sym z.prev) (omega (arith, z.prev)) f d h.chain h.back);
      }

  pub attach_other : (q : ℕ) (ds : List ℕ) → q ≢ p → Held l q ds → (Has c (reverse ds) → ⊥) → Apart cs ds → Held l' q ds
  attach_other q ds n g f apart =
      record {
        chain = rw (v.lasts, v.prevs, get_or-set_other l.last p q c 0 n)
            (chain-keep l.prev c end (get_or l.last q 0) (reverse ds) (away_of c (reverse ds) f) g.chain);
        back = rw v.nexts
            (backed-keep (set l.next c no_node) end c no_node (reverse ds)
            (start_away l.prev (short z) end (get_or l.last q 0) (reverse cs) (reverse ds) h.chain g.chain apart)
            (backed-keep l.next c no_node no_node (reverse ds) (away_of c (reverse ds) f) g.back));
      }

-- ---- c leaves p's children
module _ (m : ℕ) (l l' : Links) (z : SizedLinks m l) (p c : ℕ) (hp : p < m) (v : Detached l p c l') (cs : List ℕ) (h : Held l p cs) (has : Has c (reverse cs)) (once : Distinct (reverse cs)) where
  abbrev from : ℕ
  from = get_or l.last p 0

  abbrev past : ℕ
  past = get_or l.prev c 0

  is : chain l.prev from ≡ reverse cs
  is = chain_is (length l.prev) l.prev from (reverse cs) (short z) h.chain (pigeon (length l.prev) (reverse cs) once (λ x a. chain_in l.prev from x (reverse cs) h.chain a))

  lasts : Bool → List ℕ
  lasts t = cond t (set l.last p past) l.last

  prevs : Bool → List ℕ
  prevs t = cond t l.prev (set l.prev (before_of (reverse cs) c) past)

  pub detach_own : Held l' p (without c cs)
  unfolding lasts prevs
  detach_own =
      record {
        chain = rw (v.lasts, v.prevs, is)
            (subst (λ (k : List ℕ). Chain (prevs (eqb from c)) (get_or (lasts (eqb from c)) p 0) k) (without-reverse c cs) (by (eqb from c) refl));
        back = rw v.nexts
            (subst (BackedBy (set l.next past (get_or l.next c 0)) no_node) (without-reverse c cs)
            (backed_leave l.prev (short z) l.next from c no_node (reverse cs) (z.next ∙ sym z.prev) once has h.chain h.back));
      }
    where
      by : (t : Bool) → eqb from c ≡ t → Chain (prevs t) (get_or (lasts t) p 0) (without c (reverse cs))
      by true e =
          rw (get_or-set_same l.last p past 0 (omega (arith, z.last)))
          (chain_first l.prev c (reverse cs) once has (subst (λ (n : ℕ). Chain l.prev n (reverse cs)) (eqb-true _ _ e) h.chain))
      by false e = chain_middle l.prev from c (reverse cs) once has (eqb-false _ _ e) h.chain

  pub detach_other : (q : ℕ) (ds : List ℕ) → q ≢ p → Held l q ds → Apart cs ds → Held l' q ds
  unfolding lasts prevs
  detach_other q ds n g apart =
      record {
        chain = rw (v.lasts, v.prevs, is) (by (eqb from c));
        back = rw v.nexts
            (backed_other l.prev (short z) l.next from (get_or l.last q 0) c (get_or l.next c 0) (reverse cs) (reverse ds) has h.chain g.chain apart g.back);
      }
    where
      by : (t : Bool) → Chain (prevs t) (get_or (lasts t) q 0) (reverse ds)
      by true = rw (get_or-set_other l.last p q past 0 n) g.chain
      by false =
          chain-keep l.prev (before_of (reverse cs) c) past (get_or l.last q 0) (reverse ds)
          (away_of (before_of (reverse cs) c) (reverse ds) (λ a. apart (before_of (reverse cs) c) (before_in c (reverse cs) has) a)) g.chain
