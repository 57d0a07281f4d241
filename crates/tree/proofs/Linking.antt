-- Joining keeps the links: the children of each node are still those whose parent it is. How often a node stands in each list of children before and after
-- is counted; ranks are doubled, so that a new node fits between a parent and its child.
use Rattle.std.proofs.Common.{◌≡◌, refl, sym, ap, ◌∙◌, ◌≢◌, ◌⊎◌, inl, inr, ⊎_elim, Bool, cond, List, [], ◌∷◌, ◌++◌, ℕ, suc, ◌+◌, ◌*◌, ◌≤◌, ◌<◌, arith, length, eqb}
use Rattle.std.proofs.Math.Decide.{dec_lt}
use borrow.Author.Tests.{eq-eqb, ne_eqb}
use Rattle.geometry.specs.declared.Point.{Point}
use Rattle.tree.specs.Tree.{one}
use Rattle.tree.specs.Tree.{Node, none, at, node_at, without, replace_last}
use Rattle.tree.specs.Search.{split}
use Rattle.tree.specs.Route.{attach, joined}
use Rattle.tree.specs.Shape.{count, is_at, Linked}
use Rattle.tree.proofs.Counting.{one-eq, one-ne, count_snoc, count-without, count_gone}
use Rattle.tree.proofs.Ranking.{standing, standing_small, standing_falls}
use Rattle.tree.proofs.Nodes.{past, AtNode, new, joint, old, at_node_lem, length-attach, AtSplit, tip, knot, start, end, rest, at_split, length-split}

-- ---- what links say
pub at_inj : {a b : ℕ} → at a ≡ at b → a ≡ b
at_inj e = cc

pub none-at : {X : Type 0} {p : ℕ} → none ≡ at p → X
none-at e = absurd (let z : ◌≡◌ {A = ℕ} 0 1 = cc in omega arith)

module _ (ns : List Node) (links : (p c : ℕ) → count c (node_at ns p).children ≡ is_at p (node_at ns c).parent) where
  count-child : (c p : ℕ) → (node_at ns c).parent ≡ at p → count c (node_at ns p).children ≡ 1
  count-child c p e = links p c ∙ ap (is_at p) e ∙ one-eq p p refl

  -- a node with a child is no blank
  pub inside : (c p : ℕ) → (node_at ns c).parent ≡ at p → p < length ns
  unfolding count
  inside c p e = by (dec_lt p (length ns))
    where
      by : Dec (p < length ns) → p < length ns
      by (yes h) = h
      by (no h) = absurd (omega (arith, count-child c p e, ap (λ (n : Node). count c n.children) (past ns p (omega arith))))

-- any numbers that fall from child to parent make a rank
module _ (ns : List Node) (some : 0 < length ns) (top : (node_at ns 0).parent ≡ none) (others : (i : ℕ) → i < length ns → (node_at ns i).parent ≡ none → i ≡ 0)
    (links : (p c : ℕ) → count c (node_at ns p).children ≡ is_at p (node_at ns c).parent) (r : ℕ → ℕ)
    (falls : (c p : ℕ) → (node_at ns c).parent ≡ at p → r p < r c) where
  pub linked_by : Linked ns
  linked_by =
      record {
        some = some;
        top = top;
        others = others;
        links = links;
        rank = standing (length ns) r;
        small = standing_small (length ns) r;
        falls = λ c p e. standing_falls (length ns) r p c (inside ns links c p e) (falls c p e);
      }

module _ {ns : List Node} (g : Linked ns) where
  pub child_in : (c p : ℕ) → (node_at ns c).parent ≡ at p → c < length ns
  child_in c p e = by (dec_lt c (length ns))
    where
      by : Dec (c < length ns) → c < length ns
      by (yes h) = h
      by (no h) = none-at (sym (ap (λ (n : Node). n.parent) (past ns c (omega arith))) ∙ e)

  pub counted : (c p : ℕ) → (node_at ns c).parent ≡ at p → count c (node_at ns p).children ≡ 1
  counted = count-child ns g.links

  pub parent_in_lem : (c p : ℕ) → (node_at ns c).parent ≡ at p → p < length ns
  parent_in_lem = inside ns g.links

  pub not_own : (c p : ℕ) → (node_at ns c).parent ≡ at p → c ≢ p
  not_own c p e f = omega (arith, g.falls c p e, ap g.rank f)

  pub out_parent : (c : ℕ) → length ns ≤ c → (node_at ns c).parent ≡ none
  out_parent c h = ap (λ (n : Node). n.parent) (past ns c h)

  pub out_children : (c : ℕ) → length ns ≤ c → (node_at ns c).children ≡ []
  out_children c h = ap (λ (n : Node). n.children) (past ns c h)

-- ---- one more node, a child of p with no children
module _ (ns : List Node) (p : ℕ) (n : Node) (h : p < length ns) (g : Linked ns) (up : n.parent ≡ at p) (leaf : n.children ≡ []) where
  abbrev N : List Node
  N = attach ns p n

  abbrev i : ℕ
  i = length ns

  kids : (a : ℕ) → ((a ≡ p) × ((node_at N a).children ≡ (node_at ns p).children ++ (i ∷ []))) ⊎ ((a ≢ p) × ((node_at N a).children ≡ (node_at ns a).children))
  kids a = by (at_node_lem ns p n h a)
    where
      by : AtNode ns p n h a → ((a ≡ p) × ((node_at N a).children ≡ (node_at ns p).children ++ (i ∷ []))) ⊎ ((a ≢ p) × ((node_at N a).children ≡ (node_at ns a).children))
      by (new e f) = inr (omega arith, ap (λ (n : Node). n.children) f ∙ leaf ∙ sym (out_children g a (omega arith)))
      by (joint e f) = inl (e, ap (λ (n : Node). n.children) f)
      by (old e d f) = inr (d, ap (λ (n : Node). n.children) f)

  pub parent-attach : (c : ℕ) → ((c ≡ i) × ((node_at N c).parent ≡ at p)) ⊎ ((c ≢ i) × ((node_at N c).parent ≡ (node_at ns c).parent))
  parent-attach c = by (at_node_lem ns p n h c)
    where
      by : AtNode ns p n h c → ((c ≡ i) × ((node_at N c).parent ≡ at p)) ⊎ ((c ≢ i) × ((node_at N c).parent ≡ (node_at ns c).parent))
      by (new e f) = inl (e, ap (λ (n : Node). n.parent) f ∙ up)
      by (joint e f) = inr (omega arith, ap (λ (n : Node). n.parent) f ∙ ap (λ (j : ℕ). (node_at ns j).parent) (sym e))
      by (old e d f) = inr (e, ap (λ (n : Node). n.parent) f)

  links-attach : (a b : ℕ) → count b (node_at N a).children ≡ is_at a (node_at N b).parent
  links-attach a b =
      ⊎_elim
      (λ k. ⊎_elim
      (λ r. omega (
        arith,
        ap (count b) k.1,
        count_snoc b (node_at ns p).children i,
        one-eq i b (sym r.0),
        ap (is_at a) r.1,
        one-eq a p k.0,
        g.links p b,
        ap (is_at p) (out_parent g b (omega arith)),
      ))
      (λ r. omega (arith, ap (count b) k.1, count_snoc b (node_at ns p).children i, one-ne i b (omega arith), ap (is_at a) r.1, g.links p b, ap (λ (x : ℕ). is_at x (node_at ns b).parent) k.0))
      (parent-attach b))
      (λ k. ⊎_elim
      (λ r. omega (arith, ap (count b) k.1, ap (is_at a) r.1, one-ne a p k.0, g.links a b, ap (is_at a) (out_parent g b (omega arith))))
      (λ r. omega (arith, ap (count b) k.1, ap (is_at a) r.1, g.links a b))
      (parent-attach b))
      (kids a)

  rank-attach : ℕ → ℕ
  rank-attach j = cond (eqb j i) (suc (g.rank p)) (g.rank j)

  rank_new : (j : ℕ) → j ≡ i → rank-attach j ≡ suc (g.rank p)
  unfolding rank-attach
  rank_new j e = ap (λ (t : Bool). cond t (suc (g.rank p)) (g.rank j)) (eq-eqb j i e)

  rank_old : (j : ℕ) → j ≢ i → rank-attach j ≡ g.rank j
  unfolding rank-attach
  rank_old j e = ap (λ (t : Bool). cond t (suc (g.rank p)) (g.rank j)) (ne_eqb j i e)

  falls-attach : (c x : ℕ) → (node_at N c).parent ≡ at x → rank-attach x < rank-attach c
  falls-attach c x e =
      ⊎_elim
      (λ r. let f : p ≡ x = at_inj (sym r.1 ∙ e) in omega (arith, rank_new c r.0, rank_old x (omega arith), ap g.rank f))
      (λ r. let f : (node_at ns c).parent ≡ at x = sym r.1 ∙ e in omega (arith, rank_old c r.0, rank_old x (omega (arith, parent_in_lem g c x f)), g.falls c x f))
      (parent-attach c)

  pub linked-attach : Linked N
  linked-attach =
      linked_by N (omega (arith, length-attach ns p n h)) (⊎_elim (λ r. absurd (omega (arith, g.some))) (λ r. r.1 ∙ g.top) (parent-attach 0))
      (λ j l e. ⊎_elim (λ r. none-at (sym e ∙ r.1)) (λ r. g.others j (omega (arith, length-attach ns p n h)) (sym r.1 ∙ e)) (parent-attach j))
      links-attach rank-attach falls-attach

-- ---- on the branch from p to its child c
module _ (ns : List Node) (st te : ℕ) (q : Point) (p c : ℕ) (g : Linked ns) (link : (node_at ns c).parent ≡ at p) where
  abbrev M : List Node
  M = joined ns st te q (split p c)

  abbrev t : ℕ
  t = length ns

  abbrev s : ℕ
  s = suc (length ns)

  hp : p < length ns
  hp = parent_in_lem g c p link

  hc : c < length ns
  hc = child_in g c p link

  pub data Kids (a : ℕ) : Type 0 where
    of_p : a ≡ p → (node_at M a).children ≡ without c (node_at ns p).children ++ (s ∷ []) → Kids a
    of_s : a ≡ s → (node_at M a).children ≡ c ∷ t ∷ [] → Kids a
    of_old : a ≢ p → a ≢ s → (node_at M a).children ≡ (node_at ns a).children → Kids a

  pub data Over (b : ℕ) : Type 0 where
    over_c : b ≡ c → (node_at M b).parent ≡ at s → Over b
    over_t : b ≡ t → (node_at M b).parent ≡ at s → Over b
    over_s : b ≡ s → (node_at M b).parent ≡ at p → Over b
    over_old : b ≢ c → b ≢ t → b ≢ s → (node_at M b).parent ≡ (node_at ns b).parent → Over b

  kids_split : (a : ℕ) → Kids a
  unfolding replace_last
  kids_split a = by (at_split ns st te q p c hp hc (not_own g c p link) a)
    where
      by : AtSplit ns st te q p c hp hc (not_own g c p link) a → Kids a
      by (tip e f) = of_old (omega (arith, hp)) (omega arith) (ap (λ (n : Node). n.children) f ∙ sym (out_children g a (omega arith)))
      by (knot e f) = of_s e (ap (λ (n : Node). n.children) f)
      by (start e f) = of_p e (ap (λ (n : Node). n.children) f)
      by (end e f) = of_old (omega (arith, not_own g c p link)) (omega (arith, hc)) (ap (λ (n : Node). n.children) f ∙ ap (λ (j : ℕ). (node_at ns j).children) (sym e))
      by (rest d e e' e'' f) = of_old e' e (ap (λ (n : Node). n.children) f)

  pub parent-split : (b : ℕ) → Over b
  unfolding replace_last
  parent-split b = by (at_split ns st te q p c hp hc (not_own g c p link) b)
    where
      by : AtSplit ns st te q p c hp hc (not_own g c p link) b → Over b
      by (tip e f) = over_t e (ap (λ (n : Node). n.parent) f)
      by (knot e f) = over_s e (ap (λ (n : Node). n.parent) f)
      by (start e f) = over_old (omega (arith, not_own g c p link)) (omega (arith, hp)) (omega (arith, hp)) (ap (λ (n : Node). n.parent) f ∙ ap (λ (j : ℕ). (node_at ns j).parent) (sym e))
      by (end e f) = over_c e (ap (λ (n : Node). n.parent) f)
      by (rest d e e' e'' f) = over_old e'' d e (ap (λ (n : Node). n.parent) f)

  links-split : (a b : ℕ) → count b (node_at M a).children ≡ is_at a (node_at M b).parent
  unfolding count
  links-split a b = by (kids_split a) (parent-split b)
    where
      snoc : count b (without c (node_at ns p).children ++ (s ∷ [])) ≡ count b (without c (node_at ns p).children) + one (eqb s b)
      snoc = count_snoc b (without c (node_at ns p).children) s

      pair : count b (c ∷ t ∷ []) ≡ one (eqb c b) + (one (eqb t b) + 0)
      pair = refl

      by : Kids a → Over b → count b (node_at M a).children ≡ is_at a (node_at M b).parent
      by (of_p e k) (over_c f r) = omega (arith, ap (count b) k, ap (is_at a) r, snoc, ap (λ (x : ℕ). count x (without c (node_at ns p).children)) f, count_gone c (node_at ns p).children, one-ne s b (omega (arith, hc)), one-ne a s (omega (arith, hp)))
      by (of_p e k) (over_t f r) = omega (arith, ap (count b) k, ap (is_at a) r, snoc, count-without c b (node_at ns p).children (omega (arith, hc)), g.links p b, ap (is_at p) (out_parent g b (omega arith)), one-ne s b (omega arith), one-ne a s (omega (arith, hp)))
      by (of_p e k) (over_s f r) = omega (arith, ap (count b) k, ap (is_at a) r, snoc, count-without c b (node_at ns p).children (omega (arith, hc)), g.links p b, ap (is_at p) (out_parent g b (omega arith)), one-eq s b (sym f), one-eq a p e)
      by (of_p e k) (over_old f f' f'' r) = omega (arith, ap (count b) k, ap (is_at a) r, snoc, count-without c b (node_at ns p).children f, g.links p b, ap (λ (x : ℕ). is_at x (node_at ns b).parent) e, one-ne s b (omega arith))
      by (of_s e k) (over_c f r) = omega (arith, ap (count b) k, ap (is_at a) r, pair, one-eq c b (sym f), one-ne t b (omega (arith, hc)), one-eq a s e)
      by (of_s e k) (over_t f r) = omega (arith, ap (count b) k, ap (is_at a) r, pair, one-ne c b (omega (arith, hc)), one-eq t b (sym f), one-eq a s e)
      by (of_s e k) (over_s f r) = omega (arith, ap (count b) k, ap (is_at a) r, pair, one-ne c b (omega (arith, hc)), one-ne t b (omega arith), one-ne a p (omega (arith, hp)))
      by (of_s e k) (over_old f f' f'' r) = omega (arith, ap (count b) k, ap (is_at a) r, pair, one-ne c b (omega arith), one-ne t b (omega arith), g.links a b, ap (count b) (out_children g a (omega arith)))
      by (of_old e e' k) (over_c f r) = omega (arith, ap (count b) k, ap (is_at a) r, g.links a b, ap (λ (x : ℕ). is_at a (node_at ns x).parent) f, ap (is_at a) link, one-ne a p e, one-ne a s e')
      by (of_old e e' k) (over_t f r) = omega (arith, ap (count b) k, ap (is_at a) r, g.links a b, ap (is_at a) (out_parent g b (omega arith)), one-ne a s e')
      by (of_old e e' k) (over_s f r) = omega (arith, ap (count b) k, ap (is_at a) r, g.links a b, ap (is_at a) (out_parent g b (omega arith)), one-ne a p e)
      by (of_old e e' k) (over_old f f' f'' r) = omega (arith, ap (count b) k, ap (is_at a) r, g.links a b)

  -- old ranks doubled, so that there is room above p
  rank_split : ℕ → ℕ
  rank_split j = cond (eqb j t) (2 * g.rank p + 2) (cond (eqb j s) (2 * g.rank p + 1) (2 * g.rank j))

  rank_t : (j : ℕ) → j ≡ t → rank_split j ≡ 2 * g.rank p + 2
  unfolding rank_split
  rank_t j e = ap (λ (b : Bool). cond b (2 * g.rank p + 2) (cond (eqb j s) (2 * g.rank p + 1) (2 * g.rank j))) (eq-eqb j t e)

  not_t : (j : ℕ) → j ≢ t → rank_split j ≡ cond (eqb j s) (2 * g.rank p + 1) (2 * g.rank j)
  unfolding rank_split
  not_t j e = ap (λ (b : Bool). cond b (2 * g.rank p + 2) (cond (eqb j s) (2 * g.rank p + 1) (2 * g.rank j))) (ne_eqb j t e)

  rank_s : (j : ℕ) → j ≡ s → rank_split j ≡ 2 * g.rank p + 1
  rank_s j e = not_t j (omega arith) ∙ ap (λ (b : Bool). cond b (2 * g.rank p + 1) (2 * g.rank j)) (eq-eqb j s e)

  rank_else : (j : ℕ) → j ≢ t → j ≢ s → rank_split j ≡ 2 * g.rank j
  rank_else j d e = not_t j d ∙ ap (λ (b : Bool). cond b (2 * g.rank p + 1) (2 * g.rank j)) (ne_eqb j s e)

  falls-split : (b x : ℕ) → (node_at M b).parent ≡ at x → rank_split x < rank_split b
  falls-split b x e = by (parent-split b)
    where
      by : Over b → rank_split x < rank_split b
      by (over_c f r) = omega (arith, rank_s x (at_inj (sym e ∙ r)), rank_else b (omega (arith, hc)) (omega (arith, hc)), ap g.rank f, g.falls c p link)
      by (over_t f r) = omega (arith, rank_s x (at_inj (sym e ∙ r)), rank_t b f)
      by (over_s f r) =
          let d : x ≡ p = at_inj (sym e ∙ r) in
          omega (arith, rank_s b f, rank_else x (omega (arith, hp)) (omega (arith, hp)), ap g.rank d)
      by (over_old f f' f'' r) =
          let d : (node_at ns b).parent ≡ at x = sym r ∙ e in
          omega (arith, rank_else b f' f'', rank_else x (omega (arith, parent_in_lem g b x d)) (omega (arith, parent_in_lem g b x d)), g.falls b x d)

  abbrev long : length M ≡ suc (suc (length ns))
  long = length-split ns st te q p c hp hc (not_own g c p link)

  others-split : (j : ℕ) → j < length M → (node_at M j).parent ≡ none → j ≡ 0
  others-split j l e = by (parent-split j)
    where
      by : Over j → j ≡ 0
      by (over_c f r) = none-at (sym e ∙ r)
      by (over_t f r) = none-at (sym e ∙ r)
      by (over_s f r) = none-at (sym e ∙ r)
      by (over_old f f' f'' r) = g.others j (omega (arith, long)) (sym r ∙ e)

  top_split : (node_at M 0).parent ≡ none
  top_split = by (parent-split 0)
    where
      by : Over 0 → (node_at M 0).parent ≡ none
      by (over_c f r) = none-at (sym g.top ∙ ap (λ (j : ℕ). (node_at ns j).parent) f ∙ link)
      by (over_t f r) = absurd (omega (arith, hp))
      by (over_s f r) = absurd (omega arith)
      by (over_old f f' f'' r) = r ∙ g.top

  pub linked-split : Linked M
  linked-split = linked_by M (omega (arith, long)) top_split others-split links-split rank_split falls-split
