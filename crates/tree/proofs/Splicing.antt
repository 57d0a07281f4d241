-- A node on a branch keeps the tree well formed: the links turn aside to it at p and at c, and it stands between them in rank.
use Rattle.std.proofs.Common.{◌≡◌, refl, sym, ap, ◌∙◌, ◌≢◌, Bool, cond, List, [], ◌∷◌, ◌++◌, ℕ, suc, ◌+◌, ◌*◌, ◌<◌, arith, length, length-append, eqb}
use borrow.Author.Tests.{eq-eqb, ne_eqb}
use Rattle.tree.specs.Tree.{one, Node, Tree, Name, none, at, node_at, change, without, replace_last, with_parent, terminals}
use Rattle.geometry.specs.declared.Point.{Point}
use Rattle.geometry.specs.Laws.{Within}
use Rattle.tree.specs.Limits.{reach}
use Rattle.tree.specs.Route.{new_node, splice}
use Rattle.tree.specs.Edits.{Next, spliced}
use Rattle.tree.specs.WellFormed.{WellFormed}
use Rattle.tree.specs.Shape.{count, is_at, Linked}
use Rattle.tree.proofs.Deciding.{Tri, less, equal, more, tri}
use Rattle.tree.proofs.Nodes.{past, in_front, behind, changed_two, length_two, AtTwo, first, second, neither, at_two}
use Rattle.tree.proofs.Counting.{one-eq, one-ne, count_snoc, count-without, count_gone}
use Rattle.tree.proofs.Linking.{linked_by, none-at, child_in, parent_in_lem, not_own, out_parent, out_children, at_inj}
use Rattle.tree.proofs.Measuring.{core}
use Rattle.tree.proofs.Naming.{terminals-append, terminals-change}
use Rattle.tree.proofs.Adding.{Adds}
use Rattle.tree.proofs.Forming.{formed_adds}

module _ (ns : List Node) (p c : ℕ) (n : Node) (g : Linked ns) (link : (node_at ns c).parent ≡ at p) (over : n.parent ≡ at p) (only : n.children ≡ c ∷ []) where
  abbrev M : List Node
  M = splice ns p c n

  abbrev s : ℕ
  s = length ns

  hp : p < length ns
  hp = parent_in_lem g c p link

  hc : c < length ns
  hc = child_in g c p link

  ne : c ≢ p
  ne = not_own g c p link

  -- the old nodes
  abbrev turned : List Node
  turned = changed_two ns p c (replace_last c s) (with_parent s)

  l : length turned ≡ length ns
  l = length_two ns p c (replace_last c s) (with_parent s)

  pub length-splice : length M ≡ suc (length ns)
  unfolding splice
  length-splice = omega (arith, length-append turned (n ∷ []), l)

  pub data At (j : ℕ) : Type 0 where
    knot : j ≡ s → node_at M j ≡ n → At j
    start : j ≡ p → node_at M j ≡ replace_last c s (node_at ns p) → At j
    end : j ≡ c → node_at M j ≡ with_parent s (node_at ns c) → At j
    rest : j ≢ s → j ≢ p → j ≢ c → node_at M j ≡ node_at ns j → At j

  pub at-splice : (j : ℕ) → At j
  unfolding splice
  at-splice j = by (tri j s) (at_two ns p c (replace_last c s) (with_parent s) hp hc ne j)
    where
      front : j < length ns → node_at M j ≡ node_at turned j
      front a = in_front turned _ j (omega (arith, l))

      by : Tri j s → AtTwo ns p c (replace_last c s) (with_parent s) hp hc ne j → At j
      by (equal a) v = knot a (behind turned n [] j (omega (arith, l)))
      by (more a) v = rest (omega arith) (omega (arith, hp)) (omega (arith, hc)) (past M j (omega (arith, length-splice)) ∙ sym (past ns j (omega arith)))
      by (less a) (first e f) = start e (front a ∙ f)
      by (less a) (second e f) = end e (front a ∙ f)
      by (less a) (neither d e f) = rest (omega arith) d e (front a ∙ f)

  data Kids (a : ℕ) : Type 0 where
    of_p : a ≡ p → (node_at M a).children ≡ without c (node_at ns p).children ++ (s ∷ []) → Kids a
    of_s : a ≡ s → (node_at M a).children ≡ c ∷ [] → Kids a
    of_old : a ≢ p → a ≢ s → (node_at M a).children ≡ (node_at ns a).children → Kids a

  data Over (b : ℕ) : Type 0 where
    over_c : b ≡ c → (node_at M b).parent ≡ at s → Over b
    over_s : b ≡ s → (node_at M b).parent ≡ at p → Over b
    over_old : b ≢ c → b ≢ s → (node_at M b).parent ≡ (node_at ns b).parent → Over b

  kids_splice : (a : ℕ) → Kids a
  unfolding replace_last
  kids_splice a = by (at-splice a)
    where
      by : At a → Kids a
      by (knot e f) = of_s e (ap (λ (x : Node). x.children) f ∙ only)
      by (start e f) = of_p e (ap (λ (x : Node). x.children) f)
      by (end e f) = of_old (omega (arith, ne)) (omega (arith, hc)) (ap (λ (x : Node). x.children) f ∙ ap (λ (j : ℕ). (node_at ns j).children) (sym e))
      by (rest d e e' f) = of_old e d (ap (λ (x : Node). x.children) f)

  parent-splice : (b : ℕ) → Over b
  unfolding replace_last
  parent-splice b = by (at-splice b)
    where
      by : At b → Over b
      by (knot e f) = over_s e (ap (λ (x : Node). x.parent) f ∙ over)
      by (start e f) = over_old (omega (arith, ne)) (omega (arith, hp)) (ap (λ (x : Node). x.parent) f ∙ ap (λ (j : ℕ). (node_at ns j).parent) (sym e))
      by (end e f) = over_c e (ap (λ (x : Node). x.parent) f)
      by (rest d e e' f) = over_old e' d (ap (λ (x : Node). x.parent) f)

  links-splice : (a b : ℕ) → count b (node_at M a).children ≡ is_at a (node_at M b).parent
  unfolding count
  links-splice a b = by (kids_splice a) (parent-splice b)
    where
      K : List ℕ
      K = (node_at ns p).children

      snoc : count b (without c K ++ (s ∷ [])) ≡ count b (without c K) + one (eqb s b)
      snoc = count_snoc b (without c K) s

      by : Kids a → Over b → count b (node_at M a).children ≡ is_at a (node_at M b).parent
      by (of_p e k) (over_c f r) = omega (arith, ap (count b) k, ap (is_at a) r, snoc, ap (λ (x : ℕ). count x (without c K)) f, count_gone c K, one-ne s b (omega (arith, hc)), one-ne a s (omega (arith, hp)))
      by (of_p e k) (over_s f r) = omega (arith, ap (count b) k, ap (is_at a) r, snoc, count-without c b K (omega (arith, hc)), g.links p b, ap (is_at p) (out_parent g b (omega arith)), one-eq s b (sym f), one-eq a p e)
      by (of_p e k) (over_old f f' r) = omega (arith, ap (count b) k, ap (is_at a) r, snoc, count-without c b K f, g.links p b, ap (λ (x : ℕ). is_at x (node_at ns b).parent) e, one-ne s b (omega arith))
      by (of_s e k) (over_c f r) = omega (arith, ap (count b) k, ap (is_at a) r, one-eq c b (sym f), one-eq a s e)
      by (of_s e k) (over_s f r) = omega (arith, ap (count b) k, ap (is_at a) r, one-ne c b (omega (arith, hc)), one-ne a p (omega (arith, hp)))
      by (of_s e k) (over_old f f' r) = omega (arith, ap (count b) k, ap (is_at a) r, one-ne c b (omega arith), g.links a b, ap (count b) (out_children g a (omega arith)))
      by (of_old e e' k) (over_c f r) = omega (arith, ap (count b) k, ap (is_at a) r, g.links a b, ap (λ (x : ℕ). is_at a (node_at ns x).parent) f, ap (is_at a) link, one-ne a p e, one-ne a s e')
      by (of_old e e' k) (over_s f r) = omega (arith, ap (count b) k, ap (is_at a) r, g.links a b, ap (is_at a) (out_parent g b (omega arith)), one-ne a p e)
      by (of_old e e' k) (over_old f f' r) = omega (arith, ap (count b) k, ap (is_at a) r, g.links a b)

  -- old ranks doubled, so that there is room above p
  rank : ℕ → ℕ
  rank j = cond (eqb j s) (suc (2 * g.rank p)) (2 * g.rank j)

  rank_s : (j : ℕ) → j ≡ s → rank j ≡ suc (2 * g.rank p)
  unfolding rank
  rank_s j e = ap (λ (b : Bool). cond b (suc (2 * g.rank p)) (2 * g.rank j)) (eq-eqb j s e)

  rank_else : (j : ℕ) → j ≢ s → rank j ≡ 2 * g.rank j
  unfolding rank
  rank_else j e = ap (λ (b : Bool). cond b (suc (2 * g.rank p)) (2 * g.rank j)) (ne_eqb j s e)

  falls-splice : (b x : ℕ) → (node_at M b).parent ≡ at x → rank x < rank b
  falls-splice b x e = by (parent-splice b)
    where
      by : Over b → rank x < rank b
      by (over_c f r) = omega (arith, rank_s x (at_inj (sym e ∙ r)), rank_else b (omega (arith, hc)), ap g.rank f, g.falls c p link)
      by (over_s f r) =
          let d : x ≡ p = at_inj (sym e ∙ r) in
          omega (arith, rank_s b f, rank_else x (omega (arith, hp)), ap g.rank d)
      by (over_old f f' r) =
          let d : (node_at ns b).parent ≡ at x = sym r ∙ e in
          omega (arith, rank_else b f', rank_else x (omega (arith, parent_in_lem g b x d)), g.falls b x d)

  others-splice : (j : ℕ) → j < length M → (node_at M j).parent ≡ none → j ≡ 0
  others-splice j h e = by (parent-splice j)
    where
      by : Over j → j ≡ 0
      by (over_c f r) = none-at (sym e ∙ r)
      by (over_s f r) = none-at (sym e ∙ r)
      by (over_old f f' r) = g.others j (omega (arith, length-splice)) (sym r ∙ e)

  top-splice : (node_at M 0).parent ≡ none
  top-splice = by (parent-splice 0)
    where
      by : Over 0 → (node_at M 0).parent ≡ none
      by (over_c f r) = none-at (sym g.top ∙ ap (λ (j : ℕ). (node_at ns j).parent) f ∙ link)
      by (over_s f r) = absurd (omega (arith, hp))
      by (over_old f f' r) = r ∙ g.top

  pub linked-splice : Linked M
  linked-splice = linked_by M (omega (arith, length-splice)) top-splice others-splice links-splice rank falls-splice

  -- ---- what the nodes carry
  core_splice : (j : ℕ) → j ≢ length ns → core (node_at M j) ≡ core (node_at ns j)
  unfolding replace_last
  core_splice j h = by (at-splice j)
    where
      by : At j → core (node_at M j) ≡ core (node_at ns j)
      by (knot e f) = absurd (h e)
      by (start e f) = ap core f ∙ ap (λ (i : ℕ). core (node_at ns i)) (sym e)
      by (end e f) = ap core f ∙ ap (λ (i : ℕ). core (node_at ns i)) (sym e)
      by (rest d e e' f) = ap core f

  core_knot : core (node_at M (length ns)) ≡ core n
  core_knot = by (at-splice (length ns))
    where
      by : At (length ns) → core (node_at M (length ns)) ≡ core n
      by (knot e f) = ap core f
      by (start e f) = absurd (omega (arith, hp))
      by (end e f) = absurd (omega (arith, hc))
      by (rest d e e' f) = absurd (d refl)

  terminals-splice : terminals M ≡ terminals ns ++ terminals (n ∷ [])
  unfolding splice replace_last
  terminals-splice =
      terminals-append turned (n ∷ [])
      ∙ ap (λ (l : List (ℕ × Point)). l ++ terminals (n ∷ [])) (terminals-change (change ns p _) c _ (λ m. refl) ∙ terminals-change ns p _ (λ m. refl))

  pub adds_splice : Adds ns n M
  adds_splice = record { long = length-splice; old = core_splice; new = core_knot; joins = terminals-splice }

-- by hand, with path 0
pub formed-spliced : (t : Tree) → WellFormed t → (n : Name) → Next t.next_steiner t.next_terminal n → (q : Point) → Within reach q
    → (p c : ℕ) → (node_at t.nodes c).parent ≡ at p → WellFormed (spliced t n q p c)
formed-spliced t f n next q near p c link =
    let new = new_node n p q (c ∷ []) 0 in
    formed_adds t f new next near (omega arith) _ (adds_splice t.nodes p c new f.linked link refl refl) (linked-splice t.nodes p c new f.linked link refl refl)
