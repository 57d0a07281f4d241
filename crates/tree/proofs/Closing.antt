-- Indices close up over a node i that is gone: j is now what `opened i j` was. So a node reads as the old one with its links shifted, and counts are the old
-- counts where no link leads to i.
use Rattle.std.proofs.Common.{◌≡◌, refl, sym, ap, ◌∙◌, ◌≢◌, Bool, cond, List, [], ◌∷◌, map, ℕ, zero, suc, ◌≤◌, ◌<◌, arith, length, eqb, ltb}
use Rattle.std.proofs.Math.Decide.{dec_lt, ℕ_discrete}
use Rattle.std.proofs.Math.ListN.{length-map, get_or-map}
use borrow.Author.Tests.{lt-ltb, le-ltb}
use Rattle.tree.specs.Tree.{one, Node, Name, steiner, Parent, none, at, node_at, blank, terminal_of, terminals}
use Rattle.tree.specs.Shape.{count, is_at}
use Rattle.tree.specs.Optimize.{below, closed, closed_parent, closed_node, drop_at, close_up}
use Rattle.tree.proofs.Counting.{one-eq, one-ne}

-- ---- indices
-- what j was before node i went
pub opened : ℕ → ℕ → ℕ
opened i j = cond (ltb j i) j (suc j)

pub data Opened (i j : ℕ) : Type 0 where
  low : j < i → opened i j ≡ j → Opened i j
  high : i ≤ j → opened i j ≡ suc j → Opened i j

pub opens : (i j : ℕ) → Opened i j
unfolding opened
opens i j = by (dec_lt j i)
  where
    by : Dec (j < i) → Opened i j
    by (yes h) = low h (ap (λ (t : Bool). cond t j (suc j)) (lt-ltb j i h))
    by (no h) = high (omega arith) (ap (λ (t : Bool). cond t j (suc j)) (le-ltb j i (omega arith)))

pub data Closed (i x : ℕ) : Type 0 where
  stays : x ≤ i → closed i x ≡ x → Closed i x
  moves : i < x → suc (closed i x) ≡ x → Closed i x

pub closes : (i x : ℕ) → Closed i x
unfolding closed
closes i x = by (dec_lt i x)
  where
    pred : (y : ℕ) → i < y → suc (below y) ≡ y
    pred zero h = absurd (omega arith)
    pred (suc y) h = refl

    by : Dec (i < x) → Closed i x
    by (yes h) = moves h (ap (λ (t : Bool). suc (cond t (below x) x)) (lt-ltb i x h) ∙ pred x h)
    by (no h) = stays (omega arith) (ap (λ (t : Bool). cond t (below x) x) (le-ltb i x (omega arith)))

pub opened_not : (i j : ℕ) → opened i j ≢ i
opened_not i j e = by (opens i j)
  where
    by : Opened i j → ⊥
    by (low h f) = omega arith
    by (high h f) = omega arith

pub opened_closed : (i x : ℕ) → x ≢ i → opened i (closed i x) ≡ x
opened_closed i x ne = by (closes i x) (opens i (closed i x))
  where
    by : Closed i x → Opened i (closed i x) → opened i (closed i x) ≡ x
    by (stays h e) (low k f) = omega arith
    by (stays h e) (high k f) = absurd (omega arith)
    by (moves h e) (low k f) = absurd (omega arith)
    by (moves h e) (high k f) = omega arith

pub closed_opened : (i j : ℕ) → closed i (opened i j) ≡ j
closed_opened i j = by (opens i j) (closes i (opened i j))
  where
    by : Opened i j → Closed i (opened i j) → closed i (opened i j) ≡ j
    by (low h e) (stays k f) = omega arith
    by (low h e) (moves k f) = absurd (omega arith)
    by (high h e) (stays k f) = absurd (omega arith)
    by (high h e) (moves k f) = omega arith

pub opened_same : (i a b : ℕ) → opened i a ≡ opened i b → a ≡ b
opened_same i a b e = sym (closed_opened i a) ∙ ap (closed i) e ∙ closed_opened i b

pub opened_low : (i j : ℕ) → j < i → opened i j ≡ j
opened_low i j h = by (opens i j)
  where
    by : Opened i j → opened i j ≡ j
    by (low k e) = e
    by (high k e) = absurd (omega arith)

pub opened_high : (i j : ℕ) → i ≤ j → opened i j ≡ suc j
opened_high i j h = by (opens i j)
  where
    by : Opened i j → opened i j ≡ suc j
    by (low k e) = absurd (omega arith)
    by (high k e) = e

-- no farther than one on
pub opened_in : (i j : ℕ) → j ≤ opened i j
opened_in i j = by (opens i j)
  where
    by : Opened i j → j ≤ opened i j
    by (low k e) = omega arith
    by (high k e) = omega arith

pub opened_near : (i j : ℕ) → opened i j ≤ suc j
opened_near i j = by (opens i j)
  where
    by : Opened i j → opened i j ≤ suc j
    by (low k e) = omega arith
    by (high k e) = omega arith

opened_suc : (i j : ℕ) → opened (suc i) (suc j) ≡ suc (opened i j)
opened_suc i j = by (opens (suc i) (suc j)) (opens i j)
  where
    by : Opened (suc i) (suc j) → Opened i j → opened (suc i) (suc j) ≡ suc (opened i j)
    by (low h e) (low k f) = omega arith
    by (low h e) (high k f) = absurd (omega arith)
    by (high h e) (low k f) = absurd (omega arith)
    by (high h e) (high k f) = omega arith

-- ---- nodes
at_drop : (i : ℕ) (ns : List Node) (j : ℕ) → node_at (drop_at i ns) j ≡ node_at ns (opened i j)
unfolding node_at drop_at
at_drop i [] j = refl
at_drop zero (n ∷ ns) j = ap (node_at (n ∷ ns)) (sym (opened_high 0 j (omega arith)))
at_drop (suc i) (n ∷ ns) zero = ap (node_at (n ∷ ns)) (sym (opened_low (suc i) 0 (omega arith)))
at_drop (suc i) (n ∷ ns) (suc j) = at_drop i ns j ∙ ap (node_at (n ∷ ns)) (sym (opened_suc i j))

pub at_close : (i : ℕ) (ns : List Node) (j : ℕ) → node_at (close_up i ns) j ≡ closed_node i (node_at ns (opened i j))
unfolding node_at close_up
at_close i ns j = get_or-map (closed_node i) (drop_at i ns) j blank ∙ ap (closed_node i) (at_drop i ns j)

length-drop : (i : ℕ) (ns : List Node) → i < length ns → suc (length (drop_at i ns)) ≡ length ns
unfolding drop_at
length-drop i [] h = absurd (omega arith)
length-drop zero (n ∷ ns) h = refl
length-drop (suc i) (n ∷ ns) h = ap suc (length-drop i ns (omega arith))

pub length_close : (i : ℕ) (ns : List Node) → i < length ns → suc (length (close_up i ns)) ≡ length ns
unfolding close_up
length_close i ns h = ap suc (length-map (drop_at i ns) (closed_node i)) ∙ length-drop i ns h

-- a Steiner node goes, and all terminals stay
terminals_shift : (i : ℕ) (ns : List Node) → terminals (map (closed_node i) ns) ≡ terminals ns
unfolding terminals
terminals_shift i [] = refl
terminals_shift i (n ∷ ns) = ap (terminal_of n.name n.point) (terminals_shift i ns)

terminals-drop : (i k : ℕ) (ns : List Node) → (node_at ns i).name ≡ steiner k → terminals (drop_at i ns) ≡ terminals ns
unfolding terminals node_at drop_at
terminals-drop i k [] e = refl
terminals-drop zero k (n ∷ ns) e = ap (λ (x : Name). terminal_of x n.point (terminals ns)) (sym e)
terminals-drop (suc i) k (n ∷ ns) e = ap (terminal_of n.name n.point) (terminals-drop i k ns e)

pub terminals_close : (i k : ℕ) (ns : List Node) → (node_at ns i).name ≡ steiner k → terminals (close_up i ns) ≡ terminals ns
unfolding close_up
terminals_close i k ns e = terminals_shift i (drop_at i ns) ∙ terminals-drop i k ns e

-- ---- counts
one_same : (a b c d : ℕ) → (a ≡ b → c ≡ d) → (c ≡ d → a ≡ b) → one (eqb a b) ≡ one (eqb c d)
one_same a b c d to from = by (ℕ_discrete a b)
  where
    by : Dec (a ≡ b) → one (eqb a b) ≡ one (eqb c d)
    by (yes e) = one-eq a b e ∙ sym (one-eq c d (to e))
    by (no e) = one-ne a b e ∙ sym (one-ne c d (λ f. e (from f)))

one-not : (a b : ℕ) → one (eqb a b) ≡ 0 → a ≢ b
one-not a b z e = omega (arith, one-eq a b e)

closed_hits : (i x b : ℕ) → x ≢ i → one (eqb (closed i x) b) ≡ one (eqb x (opened i b))
closed_hits i x b ne = one_same _ _ _ _ (λ e. sym (opened_closed i x ne) ∙ ap (opened i) e) (λ e. ap (closed i) e ∙ closed_opened i b)

pub count-closed : (i b : ℕ) (xs : List ℕ) → count i xs ≡ 0 → count b (map (closed i) xs) ≡ count (opened i b) xs
unfolding count
count-closed i b [] z = refl
count-closed i b (x ∷ xs) z = omega (arith, closed_hits i x b (one-not x i (omega arith)), count-closed i b xs (omega arith))

pub is_at-closed : (i a : ℕ) (x : Parent) → is_at i x ≡ 0 → is_at a (closed_parent i x) ≡ is_at (opened i a) x
is_at-closed i a none z = refl
is_at-closed i a (at x) z =
    one_same _ _ _ _ (λ e. ap (opened i) e ∙ opened_closed i x (λ f. one-not i x z (sym f))) (λ e. sym (closed_opened i a) ∙ ap (closed i) e)
