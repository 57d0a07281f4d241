-- A one-child Steiner node goes: its parent p and its child c are linked past it, and then indices close up; the tree stays well formed.
-- The idea: among the other nodes links agree as soon as they go past it (`bypass`), and none leads to it, so closing up only renames them. The rank is the old one.
use Rattle.std.proofs.Common.{◌≡◌, refl, sym, ap, subst, ◌∙◌, ◌≢◌, Bool, true, ◌&&◌, List, [], ◌∷◌, ◌++◌, map, ℕ, zero, suc, ◌+◌, ◌<◌, arith, length, length-append, eqb}
use Rattle.std.proofs.Math.Decide.{dec_lt}
use Rattle.std.proofs.Math.ListN.{length-map}
use borrow.Author.Tests.{eqb-true}
use Rattle.std.specs.Cmp.{second_so}
use Rattle.geometry.specs.Signed.{no_way}
use Rattle.geometry.specs.Laws.{Within}
use Rattle.tree.specs.Limits.{reach}
use Rattle.tree.specs.Tree.{one, Node, Tree, Name, source, steiner, terminal, Parent, none, at, node_at, change, without, replace_last, with_parent, terminals}
use Rattle.tree.specs.Shape.{count, is_at, Linked, Named, Given, name_of}
use Rattle.tree.specs.WellFormed.{WellFormed}
use Rattle.tree.specs.Optimize.{is_steiner, lone, closed, closed_parent, closed_node, first_of, bypass, close_up, remove_below, remove, with_nodes}
use Rattle.tree.proofs.Nodes.{past, AtTwo, first, second, neither, at_two, length_two}
use Rattle.tree.proofs.Counting.{one-eq, one-ne, count_snoc, count-without, count_gone, length_without}
use Rattle.tree.proofs.Linking.{linked_by, none-at, counted, child_in, parent_in_lem, not_own, at_inj}
use Rattle.tree.proofs.Measuring.{Core, core}
use Rattle.tree.proofs.Naming.{terminals-change}
use Rattle.tree.proofs.Searching.{Children, own, head_child}
use Rattle.tree.proofs.Closing.{opened, opened_not, opened_closed, opened_same, opened_low, opened_in, opened_near, at_close, length_close, terminals_close, count-closed, is_at-closed}

-- ---- a one-child Steiner node
-- node i stands alone between p and c
pub record Lone (ns : List Node) (i : ℕ) : Type 0 where
  pub p : ℕ
  pub c : ℕ
  pub number : ℕ
  pub named : (node_at ns i).name ≡ steiner number
  pub over : (node_at ns i).parent ≡ at p
  pub only : (node_at ns i).children ≡ c ∷ []

steiner_is : (x : Name) (t : Bool) → is_steiner x && t ≡ true → (k : ℕ) × (x ≡ steiner k)
steiner_is source t e = no_way e
steiner_is (steiner k) t e = (k, refl)
steiner_is (terminal k) t e = no_way e

single : (cs : List ℕ) → length cs ≡ 1 → (c : ℕ) × (cs ≡ c ∷ [])
single [] e = absurd (omega arith)
single (c ∷ []) e = (c, refl)
single (c ∷ d ∷ cs) e = absurd (omega arith)

pub lone_below : (ns : List Node) (i p : ℕ) → lone ns i ≡ true → (node_at ns i).parent ≡ at p → Lone ns i
unfolding lone
lone_below ns i p e over =
    let s = steiner_is (node_at ns i).name _ e in
    let k = single (node_at ns i).children (eqb-true _ _ (second_so (is_steiner (node_at ns i).name) _ e)) in
    record { p = p; c = k.0; number = s.0; named = s.1; over = over; only = k.1 }

module _ {ns : List Node} (g : Linked ns) {i : ℕ} (v : Lone ns i) where
  abbrev p : ℕ
  p = v.p

  abbrev c : ℕ
  c = v.c

  pub under : (node_at ns c).parent ≡ at i
  under = head_child ns g i c [] (subst (Children ns i) v.only (own ns g i))

  pub in_i : i < length ns
  in_i = child_in g i p v.over

  pub in_p : p < length ns
  in_p = parent_in_lem g i p v.over

  pub in_c : c < length ns
  in_c = child_in g c i under

  pub i_not_p : i ≢ p
  i_not_p = not_own g i p v.over

  pub c_not_i : c ≢ i
  c_not_i = not_own g c i under

  pub c_not_p : c ≢ p
  c_not_p e = omega (arith, g.falls i p v.over, g.falls c i under, ap g.rank e)

  -- ---- linked past it
  abbrev B : List Node
  B = bypass ns i p c

  pub at-bypass : (j : ℕ) → AtTwo ns p c (replace_last i c) (with_parent p) in_p in_c c_not_p j
  at-bypass j = at_two ns p c (replace_last i c) (with_parent p) in_p in_c c_not_p j

  data Kids (a : ℕ) : Type 0 where
    of_p : a ≡ p → (node_at B a).children ≡ without i (node_at ns p).children ++ (c ∷ []) → Kids a
    of_old : a ≢ p → (node_at B a).children ≡ (node_at ns a).children → Kids a

  data Over (b : ℕ) : Type 0 where
    over_c : b ≡ c → (node_at B b).parent ≡ at p → Over b
    over_old : b ≢ c → (node_at B b).parent ≡ (node_at ns b).parent → Over b

  kids_bypass : (a : ℕ) → Kids a
  unfolding bypass replace_last
  kids_bypass a = by (at-bypass a)
    where
      by : AtTwo ns p c (replace_last i c) (with_parent p) in_p in_c c_not_p a → Kids a
      by (first e f) = of_p e (ap (λ (n : Node). n.children) f)
      by (second e f) = of_old (omega (arith, c_not_p)) (ap (λ (n : Node). n.children) f ∙ ap (λ (j : ℕ). (node_at ns j).children) (sym e))
      by (neither d e f) = of_old d (ap (λ (n : Node). n.children) f)

  over_bypass : (b : ℕ) → Over b
  unfolding bypass replace_last
  over_bypass b = by (at-bypass b)
    where
      by : AtTwo ns p c (replace_last i c) (with_parent p) in_p in_c c_not_p b → Over b
      by (first e f) = over_old (omega (arith, c_not_p)) (ap (λ (n : Node). n.parent) f ∙ ap (λ (j : ℕ). (node_at ns j).parent) (sym e))
      by (second e f) = over_c e (ap (λ (n : Node). n.parent) f)
      by (neither d e f) = over_old e (ap (λ (n : Node). n.parent) f)

  core_bypass : (j : ℕ) → core (node_at B j) ≡ core (node_at ns j)
  unfolding bypass replace_last
  core_bypass j = by (at-bypass j)
    where
      by : AtTwo ns p c (replace_last i c) (with_parent p) in_p in_c c_not_p j → core (node_at B j) ≡ core (node_at ns j)
      by (first e f) = ap core f ∙ ap (λ (k : ℕ). core (node_at ns k)) (sym e)
      by (second e f) = ap core f ∙ ap (λ (k : ℕ). core (node_at ns k)) (sym e)
      by (neither d e f) = ap core f

  abbrev K : List ℕ
  K = (node_at ns p).children

  -- no other node has i for a child, nor for its parent
  pub gone : (a : ℕ) → a ≢ i → count i (node_at B a).children ≡ 0
  gone a ne = by (kids_bypass a)
    where
      by : Kids a → count i (node_at B a).children ≡ 0
      by (of_p e k) = omega (arith, ap (count i) k, count_snoc i (without i K) c, count_gone i K, one-ne c i c_not_i)
      by (of_old e k) = omega (arith, ap (count i) k, g.links a i, ap (is_at a) v.over, one-ne a p e)

  only_c : (b : ℕ) → b ≢ c → is_at i (node_at ns b).parent ≡ 0
  unfolding count
  only_c b ne = omega (arith, g.links i b, ap (count b) v.only, one-ne c b (λ e. ne (sym e)))

  free : (b : ℕ) → is_at i (node_at B b).parent ≡ 0
  free b = by (over_bypass b)
    where
      by : Over b → is_at i (node_at B b).parent ≡ 0
      by (over_c e r) = ap (is_at i) r ∙ one-ne i p i_not_p
      by (over_old e r) = ap (is_at i) r ∙ only_c b e

  pub links-bypass : (a b : ℕ) → a ≢ i → b ≢ i → count b (node_at B a).children ≡ is_at a (node_at B b).parent
  links-bypass a b ai bi = by (kids_bypass a) (over_bypass b)
    where
      snoc : count b (without i K ++ (c ∷ [])) ≡ count b K + one (eqb c b)
      snoc = omega (arith, count_snoc b (without i K) c, count-without i b K bi)

      from_c : b ≡ c → (node_at ns b).parent ≡ at i
      from_c e = ap (λ (j : ℕ). (node_at ns j).parent) e ∙ under

      by : Kids a → Over b → count b (node_at B a).children ≡ is_at a (node_at B b).parent
      by (of_p e k) (over_c f r) =
          omega (arith, ap (count b) k, ap (is_at a) r, snoc, g.links p b, ap (is_at p) (from_c f), one-ne p i (λ z. i_not_p (sym z)), one-eq c b (sym f), one-eq a p e)
      by (of_p e k) (over_old f r) =
          omega (arith, ap (count b) k, ap (is_at a) r, snoc, g.links p b, ap (λ (x : ℕ). is_at x (node_at ns b).parent) e, one-ne c b (λ z. f (sym z)))
      by (of_old e k) (over_c f r) = omega (arith, ap (count b) k, ap (is_at a) r, g.links a b, ap (is_at a) (from_c f), one-ne a i ai, one-ne a p e)
      by (of_old e k) (over_old f r) = omega (arith, ap (count b) k, ap (is_at a) r, g.links a b)

  falls-bypass : (b x : ℕ) → (node_at B b).parent ≡ at x → g.rank x < g.rank b
  falls-bypass b x e = by (over_bypass b)
    where
      by : Over b → g.rank x < g.rank b
      by (over_c f r) = omega (arith, ap g.rank (at_inj (sym e ∙ r)), ap g.rank f, g.falls i p v.over, g.falls c i under)
      by (over_old f r) = g.falls b x (sym r ∙ e)

  -- ---- and closed up
  abbrev R : List Node
  R = remove i ns

  pub remove_is : R ≡ close_up i B
  unfolding remove
  remove_is = ap (remove_below i ns) v.over ∙ ap (λ (cs : List ℕ). close_up i (bypass ns i p (first_of cs))) v.only

  pub at-remove : (j : ℕ) → node_at R j ≡ closed_node i (node_at B (opened i j))
  at-remove j = ap (λ (ms : List Node). node_at ms j) remove_is ∙ at_close i B j

  pub length-remove : suc (length R) ≡ length ns
  unfolding bypass
  length-remove =
      omega (arith, ap length remove_is, length_close i B (omega (arith, in_i, length_two ns p c (replace_last i c) (with_parent p))), length_two ns p c (replace_last i c) (with_parent p))

  kids_remove : (a : ℕ) → (node_at R a).children ≡ map (closed i) (node_at B (opened i a)).children
  kids_remove a = ap (λ (n : Node). n.children) (at-remove a)

  over_remove : (b : ℕ) → (node_at R b).parent ≡ closed_parent i (node_at B (opened i b)).parent
  over_remove b = ap (λ (n : Node). n.parent) (at-remove b)

  pub core_remove : (j : ℕ) → core (node_at R j) ≡ core (node_at ns (opened i j))
  core_remove j = ap core (at-remove j) ∙ core_bypass (opened i j)

  pub terminals-remove : terminals R ≡ terminals ns
  unfolding bypass replace_last
  terminals-remove =
      ap terminals remove_is
      ∙ terminals_close i v.number B (ap (λ (x : Core). x.name) (core_bypass i) ∙ v.named)
      ∙ terminals-change (change ns p _) c _ (λ m. refl)
      ∙ terminals-change ns p _ (λ m. refl)

  -- an index that is left was one of the old
  pub opened_inside : (j : ℕ) → j < length R → opened i j < length ns
  opened_inside j h = omega (arith, opened_near i j, length-remove)

  -- p has c for i
  pub as_many : (j : ℕ) → length (node_at R j).children ≡ length (node_at ns (opened i j)).children
  as_many j = ap length (kids_remove j) ∙ length-map (node_at B (opened i j)).children (closed i) ∙ by (kids_bypass (opened i j))
    where
      by : Kids (opened i j) → length (node_at B (opened i j)).children ≡ length (node_at ns (opened i j)).children
      by (of_p e k) =
          omega (
            arith,
            ap length k,
            length-append (without i K) (c ∷ []),
            length_without i K,
            counted g i p v.over,
            ap (λ (x : ℕ). length (node_at ns x).children) e,
          )
      by (of_old e k) = ap length k

  links-remove : (a b : ℕ) → count b (node_at R a).children ≡ is_at a (node_at R b).parent
  links-remove a b =
      ap (count b) (kids_remove a)
      ∙ count-closed i b _ (gone _ (opened_not i a))
      ∙ links-bypass _ _ (opened_not i a) (opened_not i b)
      ∙ sym (is_at-closed i a (node_at B (opened i b)).parent (free (opened i b)))
      ∙ sym (ap (is_at a) (over_remove b))

  falls-remove : (b x : ℕ) → (node_at R b).parent ≡ at x → g.rank (opened i x) < g.rank (opened i b)
  falls-remove b x e = by (node_at B (opened i b)).parent refl
    where
      by : (y : Parent) → (node_at B (opened i b)).parent ≡ y → g.rank (opened i x) < g.rank (opened i b)
      by none f = none-at (sym (over_remove b ∙ ap (closed_parent i) f) ∙ e)
      by (at y) f =
          let d : closed i y ≡ x = at_inj (sym (over_remove b ∙ ap (closed_parent i) f) ∙ e) in
          let o : y ≢ i = λ z. omega (arith, sym (free (opened i b)) ∙ ap (is_at i) f ∙ one-eq i y (sym z)) in
          omega (arith, ap g.rank (ap (opened i) (sym d) ∙ opened_closed i y o), falls-bypass (opened i b) y f)

  pub above_zero : 0 < i
  above_zero = by i refl
    where
      by : (j : ℕ) → i ≡ j → 0 < i
      by zero e = none-at (sym g.top ∙ ap (λ (j : ℕ). (node_at ns j).parent) (sym e) ∙ v.over)
      by (suc j) e = omega arith

  top-remove : (node_at R 0).parent ≡ none
  top-remove = over_remove 0 ∙ ap (closed_parent i) (ap (λ (j : ℕ). (node_at B j).parent) (opened_low i 0 above_zero) ∙ by (over_bypass 0))
    where
      by : Over 0 → (node_at B 0).parent ≡ none
      by (over_c f r) = none-at (sym g.top ∙ ap (λ (j : ℕ). (node_at ns j).parent) f ∙ under)
      by (over_old f r) = r ∙ g.top

  others-remove : (j : ℕ) → j < length R → (node_at R j).parent ≡ none → j ≡ 0
  others-remove j h e = by (over_bypass (opened i j))
    where
      shut : {x : ℕ} → (node_at B (opened i j)).parent ≡ at x → j ≡ 0
      shut r = none-at (sym e ∙ over_remove j ∙ ap (closed_parent i) r)

      by : Over (opened i j) → j ≡ 0
      by (over_c f r) = shut r
      by (over_old f r) = old (node_at ns (opened i j)).parent refl
        where
          old : (x : Parent) → (node_at ns (opened i j)).parent ≡ x → j ≡ 0
          old none q = omega (arith, opened_in i j, g.others (opened i j) (opened_inside j h) q)
          old (at x) q = shut (r ∙ q)

  pub linked-remove : Linked R
  linked-remove =
      linked_by R (omega (arith, length-remove, in_i, in_p, i_not_p)) top-remove others-remove links-remove (λ j. g.rank (opened i j)) falls-remove

-- ---- of a well-formed tree
-- the source is no Steiner node, so a lone node has a parent
pub lone-found : {t : Tree} → WellFormed t → (i : ℕ) → lone t.nodes i ≡ true → Lone t.nodes i
unfolding lone
lone-found {t} f i l = by (node_at t.nodes i).parent refl
  where
    no_parent : (node_at t.nodes i).parent ≡ none → Dec (i < length t.nodes) → (node_at t.nodes i).name ≡ source
    no_parent e (yes h) = ap (name_of t.nodes) (f.linked.others i h e) ∙ f.named.source_name
    no_parent e (no h) = ap (λ (n : Node). n.name) (past t.nodes i (omega arith))

    by : (x : Parent) → (node_at t.nodes i).parent ≡ x → Lone t.nodes i
    by none e = no_way (sym (ap (λ (x : Name). is_steiner x && eqb (length (node_at t.nodes i).children) 1) (no_parent e (dec_lt i (length t.nodes)))) ∙ l)
    by (at p) e = lone_below t.nodes i p l e

module _ (t : Tree) (f : WellFormed t) (i : ℕ) (l : lone t.nodes i ≡ true) where
  abbrev w : Lone t.nodes i
  w = lone-found f i l

  abbrev ms : List Node
  ms = remove i t.nodes

  name-remove : (j : ℕ) → name_of ms j ≡ name_of t.nodes (opened i j)
  name-remove j = ap (λ (x : Core). x.name) (core_remove f.linked w j)

  named-remove : Named (length ms) (name_of ms) t.next_steiner t.next_terminal
  named-remove =
      record {
        steiners = f.named.steiners;
        terminals = f.named.terminals;
        source_name = name-remove 0 ∙ ap (name_of t.nodes) (opened_low i 0 (above_zero f.linked w)) ∙ f.named.source_name;
        given = λ j a b.
            subst (Given t.next_steiner t.next_terminal) (sym (name-remove j))
            (f.named.given (opened i j) (omega (arith, opened_in i j)) (opened_inside f.linked w j b));
        distinct = λ j k a b e.
            opened_same i j k
            (f.named.distinct (opened i j) (opened i k) (opened_inside f.linked w j a) (opened_inside f.linked w k b) (sym (name-remove j) ∙ e ∙ name-remove k));
      }

  pub formed-remove : WellFormed (with_nodes t ms)
  formed-remove =
      record {
        linked = linked-remove f.linked w;
        named = named-remove;
        near = λ j. subst (λ (x : Core). Within reach x.point) (sym (core_remove f.linked w j)) (f.near (opened i j));
        short = λ j. omega (arith, ap (λ (x : Core). x.path) (core_remove f.linked w j), f.short (opened i j));
        terminals = ap (λ (l : List (ℕ × _)). suc (length l)) (terminals-remove f.linked w) ∙ f.terminals;
      }

  -- one node less
  pub removed : suc (length ms) ≡ length t.nodes
  removed = length-remove f.linked w
