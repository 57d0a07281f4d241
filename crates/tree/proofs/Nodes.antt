-- The nodes after a joining, by index: the new ones, the one or two whose links change, and all others as they were. Each change of a list is taken apart once here.
use Rattle.std.proofs.Common.{◌≡◌, sym, ap, ◌∙◌, ◌≢◌, List, [], ◌∷◌, ◌++◌, ℕ, suc, ◌+◌, ◌≤◌, ◌<◌, arith, length, get_or, length-append, length-set, get_or-set_same, get_or-set_other, get_or-append-add}
use Rattle.std.proofs.Math.Decide.{ℕ_discrete}
use Rattle.std.proofs.Math.ListN.{get_or-append, get_or-eq_default}
use Rattle.geometry.specs.declared.Point.{Point}
use Rattle.geometry.specs.Geometry.{dist}
use Rattle.tree.specs.Tree.{Node, terminal, steiner, node_at, change, blank, adopt, replace_last, with_parent}
use Rattle.tree.specs.Search.{split, branch}
use Rattle.tree.specs.Route.{new_node, attach, joined}
use Rattle.tree.proofs.Deciding.{Tri, less, equal, more, tri}

pub past : (ns : List Node) (j : ℕ) → length ns ≤ j → node_at ns j ≡ blank
unfolding node_at
past ns j h = get_or-eq_default ns blank h

pub in_front : (ns ms : List Node) (j : ℕ) → j < length ns → node_at (ns ++ ms) j ≡ node_at ns j
unfolding node_at
in_front ns ms j h = get_or-append ns ms blank j h

pub behind : (ns : List Node) (m : Node) (ms : List Node) (j : ℕ) → j ≡ length ns → node_at (ns ++ m ∷ ms) j ≡ m
unfolding node_at
behind ns m ms j e = ap (λ (i : ℕ). get_or (ns ++ m ∷ ms) i blank) (omega (arith)) ∙ get_or-append-add ns (m ∷ ms) 0 blank

behind_two : (ns : List Node) (m o : Node) (ms : List Node) (j : ℕ) → j ≡ suc (length ns) → node_at (ns ++ m ∷ o ∷ ms) j ≡ o
unfolding node_at
behind_two ns m o ms j e = ap (λ (i : ℕ). get_or (ns ++ m ∷ o ∷ ms) i blank) (omega (arith)) ∙ get_or-append-add ns (m ∷ o ∷ ms) 1 blank

pub changed : (ns : List Node) (i : ℕ) (f : Node → Node) → i < length ns → node_at (change ns i f) i ≡ f (node_at ns i)
unfolding node_at change
changed ns i f h = get_or-set_same ns i _ blank h

pub unchanged : (ns : List Node) (i j : ℕ) (f : Node → Node) → j ≢ i → node_at (change ns i f) j ≡ node_at ns j
unfolding node_at change
unchanged ns i j f h = get_or-set_other ns i j _ blank h

pub length-change : (ns : List Node) (i : ℕ) (f : Node → Node) → length (change ns i f) ≡ length ns
unfolding change
length-change ns i f = length-set ns i _

-- ---- one more node, a child of p
module _ (ns : List Node) (p : ℕ) (n : Node) (h : p < length ns) where
  pub data AtNode (j : ℕ) : Type 0 where
    new : j ≡ length ns → node_at (attach ns p n) j ≡ n → AtNode j
    joint : j ≡ p → node_at (attach ns p n) j ≡ adopt (length ns) (node_at ns p) → AtNode j
    old : j ≢ length ns → j ≢ p → node_at (attach ns p n) j ≡ node_at ns j → AtNode j

  pub length-attach : length (attach ns p n) ≡ suc (length ns)
  unfolding attach
  length-attach = omega (arith, length-append (change ns p (adopt (length ns))) (n ∷ []), length-change ns p (adopt (length ns)))

  pub at_node_lem : (j : ℕ) → AtNode j
  unfolding attach
  at_node_lem j = by (tri j (length ns)) (tri j p)
    where
      l : length (change ns p (adopt (length ns))) ≡ length ns
      l = length-change ns p (adopt (length ns))

      by : Tri j (length ns) → Tri j p → AtNode j
      by (equal a) t = new a (behind (change ns p (adopt (length ns))) n [] j (omega (arith, l)))
      by (more a) t = old (omega arith) (omega arith) (past (attach ns p n) j (omega (arith, length-attach)) ∙ sym (past ns j (omega arith)))
      by (less a) (equal b) = joint b (ap (node_at (attach ns p n)) b ∙ in_front _ _ p (omega (arith, l)) ∙ changed ns p _ h)
      by (less a) (less b) = old (omega arith) (omega arith) (in_front _ _ j (omega (arith, l)) ∙ unchanged ns p j _ (omega arith))
      by (less a) (more b) = old (omega arith) (omega arith) (in_front _ _ j (omega (arith, l)) ∙ unchanged ns p j _ (omega arith))

-- ---- two nodes change
module _ (ns : List Node) (p c : ℕ) (f g : Node → Node) where
  abbrev pub changed_two : List Node
  changed_two = change (change ns p f) c g

  pub length_two : length changed_two ≡ length ns
  length_two = length-change (change ns p f) c g ∙ length-change ns p f

  module _ (hp : p < length ns) (hc : c < length ns) (ne : c ≢ p) where
    pub data AtTwo (j : ℕ) : Type 0 where
      first : j ≡ p → node_at changed_two j ≡ f (node_at ns p) → AtTwo j
      second : j ≡ c → node_at changed_two j ≡ g (node_at ns c) → AtTwo j
      neither : j ≢ p → j ≢ c → node_at changed_two j ≡ node_at ns j → AtTwo j

    pub at_two : (j : ℕ) → AtTwo j
    at_two j = by (ℕ_discrete j p) (ℕ_discrete j c)
      where
        by : Dec (j ≡ p) → Dec (j ≡ c) → AtTwo j
        by (yes a) d = first a (ap (node_at changed_two) a ∙ unchanged (change ns p f) c p g (λ z. ne (sym z)) ∙ changed ns p f hp)
        by (no a) (yes b) = second b (ap (node_at changed_two) b ∙ changed (change ns p f) c g (omega (arith, length-change ns p f)) ∙ ap g (unchanged ns p c f ne))
        by (no a) (no b) = neither a b (unchanged (change ns p f) c j g b ∙ unchanged ns p j f a)

-- ---- on the branch from p to its child c
module _ (ns : List Node) (st te : ℕ) (q : Point) (p c : ℕ) (hp : p < length ns) (hc : c < length ns) (ne : c ≢ p) where
  abbrev s : ℕ
  s = suc (length ns)

  abbrev split_nodes : List Node
  split_nodes = joined ns st te q (split p c)

  abbrev near : Point
  near = (branch (node_at ns p) (node_at ns c) q).near

  abbrev split_terminal : Node
  split_terminal = new_node (terminal te) s q [] (branch (node_at ns p) (node_at ns c) q).L

  abbrev split_steiner : Node
  split_steiner = new_node (steiner st) p near (c ∷ length ns ∷ []) ((node_at ns p).path + dist (node_at ns p).point near)

  pub data AtSplit (j : ℕ) : Type 0 where
    tip : j ≡ length ns → node_at split_nodes j ≡ split_terminal → AtSplit j
    knot : j ≡ s → node_at split_nodes j ≡ split_steiner → AtSplit j
    start : j ≡ p → node_at split_nodes j ≡ replace_last c s (node_at ns p) → AtSplit j
    end : j ≡ c → node_at split_nodes j ≡ with_parent s (node_at ns c) → AtSplit j
    rest : j ≢ length ns → j ≢ s → j ≢ p → j ≢ c → node_at split_nodes j ≡ node_at ns j → AtSplit j

  -- the old nodes
  abbrev turned : List Node
  turned = changed_two ns p c (replace_last c s) (with_parent s)

  l : length turned ≡ length ns
  l = length_two ns p c (replace_last c s) (with_parent s)

  pub length-split : length split_nodes ≡ suc (suc (length ns))
  unfolding joined
  length-split = omega (arith, length-append turned (split_terminal ∷ split_steiner ∷ []), l)

  pub at_split : (j : ℕ) → AtSplit j
  unfolding joined
  at_split j = by (tri j (length ns)) (tri j s) (at_two ns p c (replace_last c s) (with_parent s) hp hc ne j)
    where
      front : j < length ns → node_at split_nodes j ≡ node_at turned j
      front a = in_front turned _ j (omega (arith, l))

      by : Tri j (length ns) → Tri j s → AtTwo ns p c (replace_last c s) (with_parent s) hp hc ne j → AtSplit j
      by (equal a) u v = tip a (behind turned split_terminal _ j (omega (arith, l)))
      by (more a) (equal b) v = knot b (behind_two turned split_terminal split_steiner [] j (omega (arith, l)))
      by (more a) (more b) v =
          rest (omega arith) (omega arith) (omega arith) (omega arith) (past split_nodes j (omega (arith, length-split)) ∙ sym (past ns j (omega arith)))
      by (more a) (less b) v = absurd (omega arith)
      by (less a) u (first e f) = start e (front a ∙ f)
      by (less a) u (second e f) = end e (front a ∙ f)
      by (less a) u (neither d e f) = rest (omega arith) (omega arith) d e (front a ∙ f)
