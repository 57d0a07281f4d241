-- A tree whose links agree is one that the search can walk: lists of children as counts, and as members.
use Rattle.std.proofs.Common.{ℕ, zero, suc, ◌≤◌, ◌<◌, ◌≡◌, refl, ap, sym, ◌∙◌, ◌≢◌, ◌⊎◌, inl, inr, ⊎_elim, Bool, true, false, List, [], ◌∷◌, reverse, arith, length, eqb}
use mathlib.Core.List.{reverse-cons}
use borrow.Author.Tests.{eqb-true}
use Rattle.tree.specs.Limits.{longest_path, reach}
use Rattle.tree.specs.Tree.{one, Node, Parent, none, at, node_at}
use Rattle.tree.specs.Shape.{Linked, count, is_at}
use Rattle.tree.proofs.Counting.{one-eq, count_snoc}
use Rattle.tree.proofs.Linking.{child_in, counted, none-at, out_parent, at_inj}
use Rattle.tree.proofs.Searching.{own}
use Rattle.tree.proofs.Spread.{Spread}
use Rattle.search.specs.Columns.{Has, Distinct}
use Rattle.search.specs.Find.{Forest, examined, Walkable}
use Rattle.search.proofs.Distinct.{away_of}

pub count-reverse : (c : ℕ) (l : List ℕ) → count c (reverse l) ≡ count c l
unfolding count
count-reverse c [] = refl
count-reverse c (x ∷ l) = ap (count c) (reverse-cons x l) ∙ count_snoc c (reverse l) x ∙ omega (arith, count-reverse c l)

pub has-count : (c : ℕ) (l : List ℕ) → Has c l → 0 < count c l
unfolding Has count
has-count c [] h = absurd h
has-count c (x ∷ l) h = ⊎_elim (λ (e : x ≡ c). omega (arith, one-eq x c e)) (λ (k : Has c l). omega (arith, has-count c l k)) h

pub count-has : (c : ℕ) (l : List ℕ) → 0 < count c l → Has c l
unfolding Has count
count-has c [] h = absurd (omega arith)
count-has c (x ∷ l) h = by (eqb x c) refl (count-has c l)
  where
    by : (t : Bool) → eqb x c ≡ t → (0 < count c l → Has c l) → (x ≡ c) ⊎ Has c l
    by true e f = inl (eqb-true x c e)
    by false e f = inr (f (omega (arith, ap one e)))

pub count_none : (c : ℕ) (l : List ℕ) → (Has c (reverse l) → ⊥) → count c l ≡ 0
count_none c l f = by (count c l) (λ t. f (count-has c (reverse l) (omega (arith, count-reverse c l))))
  where
    by : (a : ℕ) → (0 < a → ⊥) → a ≡ 0
    by zero g = refl
    by (suc a) g = absurd (g (omega arith))

pub distinct_of : (l : List ℕ) → ((x : ℕ) → count x l ≤ 1) → Distinct l
unfolding Distinct count
distinct_of [] h = tt
distinct_of (x ∷ l) h = (away_of x l (λ k. omega (arith, has-count x l k, h x, one-eq x x refl)), distinct_of l (λ y. omega (arith, h y)))

is_most : (p : ℕ) (x : Parent) → is_at p x ≤ 1
is_most p none = omega arith
is_most p (at x) = by (eqb p x)
  where
    by : (t : Bool) → one t ≤ 1
    by true = omega arith
    by false = omega arith

module _ (ns : List Node) (g : Linked ns) where
  -- a child's parent
  pub child_of_lem : (p c : ℕ) → Has c (examined ns p) → (node_at ns c).parent ≡ at p
  child_of_lem p c h = own ns g p c (omega (arith, has-count c (examined ns p) h, count-reverse c (node_at ns p).children))

  pub has-child : (p c : ℕ) → (node_at ns c).parent ≡ at p → Has c (examined ns p)
  has-child p c e = count-has c (examined ns p) (omega (arith, counted g c p e, count-reverse c (node_at ns p).children))

  pub once : (p : ℕ) → Distinct (examined ns p)
  once p = distinct_of (examined ns p) (λ x. omega (arith, count-reverse x (node_at ns p).children, g.links p x, is_most p (node_at ns x).parent))

  -- no node is a child of two
  pub apart : (p q : ℕ) → p ≢ q → (x : ℕ) → Has x (examined ns p) → Has x (examined ns q) → ⊥
  apart p q n x a b = n (at_inj (sym (child_of_lem p x a) ∙ child_of_lem q x b))

  -- no list of children has a number past the end
  pub no_child : (p c : ℕ) → length ns ≤ c → Has c (examined ns p) → ⊥
  no_child p c h k = none-at (sym (out_parent g c h) ∙ child_of_lem p c k)

  pub forest : Forest (length ns) (examined ns)
  forest =
      record {
        some = g.some;
        below = λ p c h k. child_in g c p (child_of_lem p c k);
        no_root = λ p c h k e. none-at (sym g.top ∙ ap (λ (i : ℕ). (node_at ns i).parent) (sym e) ∙ child_of_lem p c k);
        once = λ p h. once p;
        one = λ p q c h k z w. at_inj (sym (child_of_lem p c z) ∙ child_of_lem q c w);
      }

  pub walkable : Spread reach ns → ((i : ℕ) → (node_at ns i).path ≤ longest_path) → Walkable ns
  walkable near long = record { forest = forest; near = λ i h. near i; long = λ i h. long i }
