-- A node s goes between p and its child c: the links and rows after it, whatever other node comes with s. The idea: three changes of links in turn, each of which keeps the lists of children that it does not name.
use Rattle.std.proofs.Common.{ℕ, ◌≤◌, ◌<◌, ◌≡◌, ap, sym, ◌∙◌, ◌≢◌, List, [], ◌∷◌, ◌++◌, reverse, arith, length}
use Rattle.tree.specs.Tree.{zero_figure, Node, at, node_at, without, replace_last, with_parent}
use Rattle.tree.specs.Shape.{Linked, count}
use Rattle.tree.proofs.Counting.{one-ne, count_snoc, count-without, count_gone}
use Rattle.tree.proofs.Linking.{child_in, parent_in_lem, not_own, at_inj}
use Rattle.search.specs.Columns.{Has, Distinct}
use Rattle.joining.specs.declared.Row.{Row}
use Rattle.joining.specs.Store.{Rows, Store, columns_of, row_at, set_row, set_parent, SizedRows, SizedStore, Keeps, Backs, node_from}
use Rattle.joining.specs.Links.{Links, SizedLinks, Detached, Appended, Attached}
use Rattle.joining.proofs.Lists.{Held, Apart, apart_without, once-without, attach_own, attach_other, detach_own, detach_other}
use Rattle.joining.proofs.Agree.{count_none, child_of_lem, has-child, once, apart, no_child}
use Rattle.joining.proofs.Steps.{row_same, row_other, parent-same, parent_other, child_of, parent-at, sized_row, held, absent, attached-sized, detached_sized, appended_own, appended_other, appended_self, appended_sized}

module _ (m : ℕ) (ns : List Node) (cs : Store) (z : SizedStore m cs) (k : Keeps ns (columns_of cs)) (b : Backs ns cs.links.next) (g : Linked ns) (p c : ℕ) (link : (node_at ns c).parent ≡ at p)
    (s : ℕ) (new : length ns ≤ s) (room : s < m) where
  hp : p < length ns
  hp = parent_in_lem g c p link

  hc : c < length ns
  hc = child_in g c p link

  ne : c ≢ p
  ne = not_own g c p link

  abbrev children : ℕ → List ℕ
  children j = (node_at ns j).children

  -- p's children when c has left
  abbrev left : List ℕ
  left = without c (children p)

  -- c is no child of another node
  not-here : (j : ℕ) → j ≢ p → Has c (reverse (children j)) → ⊥
  not-here j d h = d (at_inj (sym (child_of_lem ns g j c h) ∙ link))

  -- ---- the links
  module _ (l₁ l₂ l₃ : Links) (leaves : Detached cs.links p c l₁) (joins : Appended l₁ p s l₂) (takes : Attached l₂ s c l₃) where
    z₁ : SizedLinks m l₁
    z₁ = detached_sized m cs.links p c l₁ z.links leaves

    z₂ : SizedLinks m l₂
    z₂ = appended_sized m l₁ p s l₂ joins z₁

    pub sized-between : SizedLinks m l₃
    sized-between = attached-sized m l₂ s c l₃ z₂ takes

    hm : p < m
    hm = omega (arith, hp)

    cm : c < m
    cm = omega (arith, hc)

    h₁ : Held l₁ p left
    h₁ = detach_own m cs.links l₁ z.links p c hm leaves (children p) (held k b p hp) (has-child ns g p c link) (once ns g p)

    h₂ : Held l₂ s []
    h₂ = appended_self m l₁ p s l₂ joins z₁ hm room (omega (arith, hp)) left h₁

    pub held_new : Held l₃ s (c ∷ [])
    unfolding Distinct Has
    held_new = attach_own m l₂ l₃ z₂ s c room cm takes [] h₂ tt (λ x. x)

    -- the last step, at another node than s
    s_takes : (j : ℕ) (ds : List ℕ) → j ≢ s → Held l₂ j ds → count c ds ≡ 0 → Held l₃ j ds
    unfolding Has
    s_takes j ds js h ec = attach_other m l₂ l₃ z₂ s c room cm takes [] h₂ j ds js h (absent c ds ec) (λ x a d. a)

    pub held_other : (j : ℕ) → j < length ns → j ≢ p → Held l₃ j (children j)
    held_other j l d =
        let f : Apart (children p) (children j) = apart ns g p j (λ e. d (sym e)) in
        s_takes j (children j) (omega arith)
        (appended_other m l₁ p s l₂ joins z₁ hm room (omega (arith, hp)) left h₁ j (children j) d (omega arith)
        (detach_other m cs.links l₁ z.links p c hm leaves (children p) (held k b p hp) (has-child ns g p c link) (once ns g p) j (children j) d (held k b j l) f)
        (no_child ns g j s new) (apart_without c (children p) (children j) f))
        (count_none c (children j) (not-here j d))

    pub held_start : Held l₃ p (left ++ (s ∷ []))
    held_start =
        s_takes p (left ++ (s ∷ [])) (omega (arith, hp))
        (appended_own m l₁ p s l₂ joins z₁ hm room (omega (arith, hp)) left h₁ (once-without c (children p) (once ns g p))
        (absent s left (omega (arith, count-without c s (children p) (omega (arith, hc)), count_none s (children p) (no_child ns g p s new)))))
        (omega (arith, count_snoc c left s, count_gone c (children p), one-ne s c (omega (arith, hc))))

  -- ---- the rows: r has the old ones, and after it s has a row and is c's parent
  module _ (r : Rows) (zr : SizedRows m r) (old : (j : ℕ) → j < length ns → row_at r j ≡ row_at cs.rows j) (S : Row) (r' : Rows) (er : r' ≡ set_parent (set_row r s S) c s) where
    row-there : (j : ℕ) → j ≢ c → row_at r' j ≡ row_at (set_row r s S) j
    row-there j d = ap (λ (x : Rows). row_at x j) er ∙ parent_other (set_row r s S) c j s d

    pub row_new : row_at r' s ≡ S
    row_new = row-there s (omega (arith, hc)) ∙ row_same m r s S zr room

    pub row_else : (j : ℕ) → j ≢ c → j ≢ s → row_at r' j ≡ row_at r j
    row_else j d e = row-there j d ∙ row_other r s j S e

    row_end : row_at r' c ≡ child_of s (row_at cs.rows c)
    row_end =
        ap (λ (x : Rows). row_at x c) er ∙ parent-same m (set_row r s S) c s (sized_row m r s S zr) (omega (arith, hc))
        ∙ ap (child_of s) (row_other r s c S (omega (arith, hc)) ∙ old c hc)

    -- what the old nodes become
    pub rest_is : (j : ℕ) → j < length ns → j ≢ c → node_at ns j ≡ node_from (row_at r' j) (children j)
    rest_is j l d = k.rows j l ∙ ap (λ (x : Row). node_from x (children j)) (sym (row_else j d (omega arith) ∙ old j l))

    pub start_is : replace_last c s (node_at ns p) ≡ node_from (row_at r' p) (left ++ (s ∷ []))
    unfolding replace_last
    start_is = ap (replace_last c s) (rest_is p hp (λ x. ne (sym x)))

    pub end_is : with_parent s (node_at ns c) ≡ node_from (row_at r' c) (children c)
    end_is =
        ap (with_parent s) (k.rows c hc)
        ∙ (λ x. record { name = (node_from (row_at cs.rows c) []).name; parent = sym (parent-at s (omega (arith, z.links.few))) x; point = (row_at cs.rows c).point; children = children c; path = (row_at cs.rows c).path; capacitance = zero_figure; delay = zero_figure })
        ∙ ap (λ (x : Row). node_from x (children c)) (sym row_end)
