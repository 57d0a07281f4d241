-- The columns after a branch is split keep the nodes with two more. The idea: a Steiner node between p and c (Between.antt), and then the terminal below it.
use Rattle.std.proofs.Common.{ℕ, suc, ◌+◌, ◌≤◌, ◌<◌, ◌≡◌, refl, ap, sym, subst, ◌∙◌, ◌≢◌, ⊎_elim, List, [], ◌∷◌, ◌++◌, reverse, arith, length}
use Rattle.geometry.specs.declared.Point.{Point}
use Rattle.geometry.specs.Geometry.{dist}
use Rattle.tree.specs.Tree.{Node, terminal, steiner, at, node_at, without, replace_last}
use Rattle.tree.specs.Search.{split, branch}
use Rattle.tree.specs.Route.{new_node, joined}
use Rattle.tree.specs.Shape.{Linked, count}
use Rattle.tree.proofs.Counting.{one-ne, count_snoc, count-without, count_gone}
use Rattle.tree.proofs.Linking.{child_in, parent_in_lem, not_own, at_inj}
use Rattle.tree.proofs.Nodes.{AtSplit, tip, knot, start, end, rest, at_split, length-split}
use Rattle.search.specs.Columns.{Has, Away, Distinct}
use Rattle.joining.specs.declared.Row.{Row}
use Rattle.joining.specs.Store.{Rows, Store, columns_of, row_at, set_row, set_parent, SizedRows, SizedStore, Keeps, Backs, node_from}
use Rattle.joining.specs.Links.{Links, SizedLinks, Adopted, Spliced}
use Rattle.joining.proofs.Lists.{Held}
use Rattle.joining.proofs.Agree.{count_none, child_of_lem, no_child}
use Rattle.joining.proofs.Steps.{row_same, row_other, sized_row, sized-parent, node_lift, held_lift, absent, appended_own, appended_other, appended_self, appended_sized}
use Rattle.joining.proofs.Between.{sized-between, held_new, held_other, held_start, row_new, row_else, start_is, end_is, rest_is}

-- the two new nodes
abbrev pub terminal_node : List Node → ℕ → ℕ → Point → ℕ → ℕ → Node
terminal_node ns st te q p c = new_node (terminal te) (suc (length ns)) q [] (branch (node_at ns p) (node_at ns c) q).L

abbrev pub steiner_node : List Node → ℕ → ℕ → Point → ℕ → ℕ → Node
steiner_node ns st te q p c =
    new_node (steiner st) p (branch (node_at ns p) (node_at ns c) q).near (c ∷ length ns ∷ []) ((node_at ns p).path + dist (node_at ns p).point (branch (node_at ns p) (node_at ns c) q).near)

module _ (m : ℕ) (ns : List Node) (cs : Store) (z : SizedStore m cs) (k : Keeps ns (columns_of cs)) (b : Backs ns cs.links.next) (g : Linked ns) (p c : ℕ) (link : (node_at ns c).parent ≡ at p) (room : suc (length ns) < m)
    (st te : ℕ) (q : Point) where
  abbrev i : ℕ
  i = length ns

  abbrev s : ℕ
  s = suc (length ns)

  hp : p < length ns
  hp = parent_in_lem g c p link

  hc : c < length ns
  hc = child_in g c p link

  ne : c ≢ p
  ne = not_own g c p link

  abbrev M : List Node
  M = joined ns st te q (split p c)

  abbrev children : ℕ → List ℕ
  children j = (node_at ns j).children

  none-past : (j x : ℕ) → length ns ≤ x → count x (children j) ≡ 0
  none-past j x l = count_none x (children j) (no_child ns g j x l)

  -- c is no child of another node
  not-here : (j : ℕ) → j ≢ p → count c (children j) ≡ 0
  not-here j d = count_none c (children j) (λ h. d (at_inj (sym (child_of_lem ns g j c h) ∙ link)))

  -- p's children when c has left
  abbrev left : List ℕ
  left = without c (children p)

  -- ---- the links
  module _ (l' : Links) (v : Spliced cs.links p c i s l') where
    abbrev w : Adopted v.l₂ s c i l'
    w = v.adopts

    z₃ : SizedLinks m w.l₁
    z₃ = sized-between m ns cs z k b g p c link s (omega arith) room v.l₁ v.l₂ w.l₁ v.leaves v.joins w.takes

    pub z₄ : SizedLinks m l'
    z₄ = appended_sized m w.l₁ s i l' w.ends z₃

    h₃ : Held w.l₁ s (c ∷ [])
    h₃ = held_new m ns cs z k b g p c link s (omega arith) room v.l₁ v.l₂ w.l₁ v.leaves v.joins w.takes

    -- the last step, at another node than s and i
    s_adopts : (j : ℕ) (ds : List ℕ) → j ≢ s → j ≢ i → Held w.l₁ j ds → count c ds ≡ 0 → count i ds ≡ 0 → Held l' j ds
    unfolding Has
    s_adopts j ds js ji h ec ei =
        appended_other m w.l₁ s i l' w.ends z₃ room (omega arith) (omega arith) (c ∷ []) h₃ j ds js ji h
        (absent i ds ei)
        (λ x a d. ⊎_elim (λ (e : c ≡ x). absent c ds ec (subst (λ (y : ℕ). Has y (reverse ds)) (sym e) d)) (λ (y : ⊥). y) a)

    other : (j : ℕ) → j < length ns → j ≢ p → Held l' j (children j)
    other j l d =
        s_adopts j (children j) (omega arith) (omega arith)
        (held_other m ns cs z k b g p c link s (omega arith) room v.l₁ v.l₂ w.l₁ v.leaves v.joins w.takes j l d)
        (not-here j d) (none-past j i (omega arith))

    over : Held l' p (left ++ (s ∷ []))
    over =
        s_adopts p (left ++ (s ∷ [])) (omega (arith, hp)) (omega (arith, hp))
        (held_start m ns cs z k b g p c link s (omega arith) room v.l₁ v.l₂ w.l₁ v.leaves v.joins w.takes)
        (omega (arith, count_snoc c left s, count_gone c (children p), one-ne s c (omega (arith, hc))))
        (omega (arith, count_snoc i left s, count-without c i (children p) (omega (arith, hc)), none-past p i (omega arith), one-ne s i (omega arith)))

    held_terminal : Held l' i []
    held_terminal = appended_self m w.l₁ s i l' w.ends z₃ room (omega arith) (omega arith) (c ∷ []) h₃

    held_steiner : Held l' s (c ∷ i ∷ [])
    unfolding Distinct Away Has
    held_steiner =
        appended_own m w.l₁ s i l' w.ends z₃ room (omega arith) (omega arith) (c ∷ []) h₃ (tt, tt)
        (λ x. ⊎_elim (λ (e : c ≡ i). omega (arith, hc)) (λ (y : ⊥). y) x)

    inside : (j : ℕ) → j < length M → j ≢ i → j ≢ s → j < length ns
    inside j l d e = omega (arith, length-split ns st te q p c hp hc ne)

    pub held_split : (j : ℕ) → j < length M → Held l' j (node_at M j).children
    unfolding replace_last
    held_split j l = by (at_split ns st te q p c hp hc ne j)
      where
        by : AtSplit ns st te q p c hp hc ne j → Held l' j (node_at M j).children
        by (tip e f) = held_lift M l' j _ f (subst (λ (x : ℕ). Held l' x []) (sym e) held_terminal)
        by (knot e f) = held_lift M l' j _ f (subst (λ (x : ℕ). Held l' x (c ∷ i ∷ [])) (sym e) held_steiner)
        by (start e f) = held_lift M l' j _ f (subst (λ (x : ℕ). Held l' x (left ++ (s ∷ []))) (sym e) over)
        by (end e f) = held_lift M l' j _ f (subst (λ (x : ℕ). Held l' x (children c)) (sym e) (other c hc ne))
        by (rest a b d e f) = held_lift M l' j _ f (other j (inside j l a b) d)

  -- ---- the rows
  module _ (T S : Row) (rows' : Rows) (er : rows' ≡ set_parent (set_row (set_row cs.rows i T) s S) c s)
      (is_t : node_from T [] ≡ terminal_node ns st te q p c) (is_s : node_from S (c ∷ i ∷ []) ≡ steiner_node ns st te q p c) where
    abbrev R : Rows
    R = set_row cs.rows i T

    z_r : SizedRows m R
    z_r = sized_row m cs.rows i T z.rows

    old : (j : ℕ) → j < length ns → row_at R j ≡ row_at cs.rows j
    old j l = row_other cs.rows i j T (omega arith)

    row-terminal : row_at rows' i ≡ T
    row-terminal =
        row_else m ns cs z k b g p c link s (omega arith) room R z_r old S rows' er i (omega (arith, hc)) (omega arith)
        ∙ row_same m cs.rows i T z.rows (omega arith)

    row-steiner : row_at rows' s ≡ S
    row-steiner = row_new m ns cs z k b g p c link s (omega arith) room R z_r old S rows' er

    pub rows_split : (j : ℕ) → j < length M → node_at M j ≡ node_from (row_at rows' j) (node_at M j).children
    unfolding replace_last
    rows_split j l = by (at_split ns st te q p c hp hc ne j)
      where
        by : AtSplit ns st te q p c hp hc ne j → node_at M j ≡ node_from (row_at rows' j) (node_at M j).children
        by (tip e f) = node_lift M rows' j _ T f (ap (row_at rows') e ∙ row-terminal) (sym is_t)
        by (knot e f) = node_lift M rows' j _ S f (ap (row_at rows') e ∙ row-steiner) (sym is_s)
        by (start e f) = node_lift M rows' j _ _ f (ap (row_at rows') e) (start_is m ns cs z k b g p c link s (omega arith) room R z_r old S rows' er)
        by (end e f) = node_lift M rows' j _ _ f (ap (row_at rows') e) (end_is m ns cs z k b g p c link s (omega arith) room R z_r old S rows' er)
        by (rest a b' d e f) =
            node_lift M rows' j _ _ f refl
            (rest_is m ns cs z k b g p c link s (omega arith) room R z_r old S rows' er j (omega (arith, length-split ns st te q p c hp hc ne)) e)

  pub keeps-split : (c' : Store) (v : Spliced cs.links p c i s c'.links) (T S : Row)
      → c'.rows ≡ set_parent (set_row (set_row cs.rows i T) s S) c s
      → node_from T [] ≡ terminal_node ns st te q p c → node_from S (c ∷ i ∷ []) ≡ steiner_node ns st te q p c
      → Keeps M (columns_of c')
  keeps-split c' v T S er is_t is_s = record { rows = rows_split T S c'.rows er is_t is_s; children = λ j l. (held_split c'.links v j l).chain }

  pub backs-split : (l' : Links) → Spliced cs.links p c i s l' → Backs M l'.next
  backs-split l' v j l = (held_split l' v j l).back

  pub sized-split : (c' : Store) (v : Spliced cs.links p c i s c'.links) (T S : Row) → c'.rows ≡ set_parent (set_row (set_row cs.rows i T) s S) c s → SizedStore m c'
  sized-split c' v T S er =
      record {
        rows = subst (SizedRows m) (sym er) (sized-parent m _ c s (sized_row m _ s S (sized_row m cs.rows i T z.rows)));
        links = z₄ c'.links v;
      }
