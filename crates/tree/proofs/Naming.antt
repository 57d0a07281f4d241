-- Joining gives the next numbers: names stay distinct, and the terminals by number are the points joined, in order.
use Rattle.std.proofs.Common.{◌≡◌, refl, sym, ap, subst, ◌∙◌, List, [], ◌∷◌, ◌++◌, ℕ, zero, suc, ◌<◌, arith, length, get_or, set}
use Rattle.std.proofs.Math.Decide.{dec_lt, ℕ_discrete}
use Rattle.geometry.specs.declared.Point.{Point}
use Rattle.tree.specs.Tree.{Node, Name, source, terminal, steiner, at, node_at, change, blank, replace_last, terminal_of, terminals}
use Rattle.tree.specs.Search.{Join, onto, split}
use Rattle.tree.specs.Route.{attach, joined}
use Rattle.tree.specs.Shape.{Linked, Named, Given, name_of}
use Rattle.tree.proofs.Nodes.{length-split}
use Rattle.tree.proofs.Linking.{child_in, parent_in_lem, not_own}
use Rattle.tree.proofs.Measuring.{Core, core, core_tip, core_knot, core_rest}

apart : {X : Type 0} → ◌≡◌ {A = ℕ} 0 1 → X
apart e = absurd (omega arith)

fresh-terminal : (st te : ℕ) (x : Name) → Given st te x → x ≡ terminal te → ⊥
fresh-terminal st te source g e = g
fresh-terminal st te (steiner k) g e = apart (cc)
fresh-terminal st te (terminal k) g e = let z : k ≡ te = cc in omega arith

fresh-steiner : (st te : ℕ) (x : Name) → Given st te x → x ≡ steiner st → ⊥
fresh-steiner st te source g e = g
fresh-steiner st te (terminal k) g e = apart (cc)
fresh-steiner st te (steiner k) g e = let z : k ≡ st = cc in omega arith

pub source-terminal : {k : ℕ} → source ≡ terminal k → ⊥
source-terminal e = apart (cc)

source-steiner : {k : ℕ} → source ≡ steiner k → ⊥
source-steiner e = apart (cc)

more_terminal : (st te : ℕ) (x : Name) → Given st te x → Given st (suc te) x
more_terminal st te source g = g
more_terminal st te (steiner k) g = g
more_terminal st te (terminal k) g = omega arith

more_steiner : (st te : ℕ) (x : Name) → Given st te x → Given (suc st) te x
more_steiner st te source g = g
more_steiner st te (steiner k) g = omega arith
more_steiner st te (terminal k) g = g

-- one more name, that no node had
module _ (n : ℕ) (f h : ℕ → Name) (st te : ℕ) (g : Named n f st te) (some : 0 < n) (same : (i : ℕ) → i < n → h i ≡ f i) where
  distinct_more : ((i : ℕ) → i < n → h i ≡ h n → ⊥) → (i j : ℕ) → i < suc n → j < suc n → h i ≡ h j → i ≡ j
  distinct_more k i j a b e = by (dec_lt i n) (dec_lt j n)
    where
      by : Dec (i < n) → Dec (j < n) → i ≡ j
      by (yes c) (yes d) = g.distinct i j c d (sym (same i c) ∙ e ∙ same j d)
      by (yes c) (no d) = absurd (k i c (e ∙ ap h (omega arith)))
      by (no c) (yes d) = absurd (k j d (sym e ∙ ap h (omega arith)))
      by (no c) (no d) = omega arith

  -- a name below n is the source's, or a given one
  none_new : (x : Name) → (source ≡ x → ⊥) → ((y : Name) → Given st te y → y ≡ x → ⊥) → h n ≡ x → (i : ℕ) → i < n → h i ≡ h n → ⊥
  none_new x a b e i l d = by (ℕ_discrete i 0)
    where
      by : Dec (i ≡ 0) → ⊥
      by (yes z) = a (sym g.source_name ∙ ap f (sym z) ∙ sym (same i l) ∙ d ∙ e)
      by (no z) = b (f i) (g.given i (omega arith) l) (sym (same i l) ∙ d ∙ e)

  given_more : (st' te' : ℕ) → ((x : Name) → Given st te x → Given st' te' x) → Given st' te' (h n) → (i : ℕ) → 0 < i → i < suc n → Given st' te' (h i)
  given_more st' te' w v i a b = by (dec_lt i n)
    where
      by : Dec (i < n) → Given st' te' (h i)
      by (yes c) = subst (Given st' te') (sym (same i c)) (w (f i) (g.given i a c))
      by (no c) = subst (λ (j : ℕ). Given st' te' (h j)) (omega arith) v

  pub named-terminal : h n ≡ terminal te → Named (suc n) h st (suc te)
  named-terminal e =
      record {
        steiners = g.steiners;
        terminals = omega arith;
        source_name = same 0 some ∙ g.source_name;
        given = given_more st (suc te) (more_terminal st te) (subst (Given st (suc te)) (sym e) (omega (arith, g.terminals)));
        distinct = distinct_more (none_new (terminal te) source-terminal (fresh-terminal st te) e);
      }

  pub named-steiner : h n ≡ steiner st → Named (suc n) h (suc st) te
  named-steiner e =
      record {
        steiners = omega arith;
        terminals = g.terminals;
        source_name = same 0 some ∙ g.source_name;
        given = given_more (suc st) te (more_steiner st te) (subst (Given (suc st) te) (sym e) (omega (arith, g.steiners)));
        distinct = distinct_more (none_new (steiner st) source-steiner (fresh-steiner st te) e);
      }

module _ (ns : List Node) (st te : ℕ) (q : Point) (p c : ℕ) (g : Linked ns) (link : (node_at ns c).parent ≡ at p) where
  abbrev M : List Node
  M = joined ns st te q (split p c)

  pub named-split : Named (length ns) (name_of ns) st te → Named (length M) (name_of M) (suc st) (suc te)
  named-split d =
      subst (λ (n : ℕ). Named n (name_of M) (suc st) (suc te)) (sym (length-split ns st te q p c (parent_in_lem g c p link) (child_in g c p link) (not_own g c p link)))
      (named-steiner (suc (length ns)) (name_of M) (name_of M) st (suc te)
      (named-terminal (length ns) (name_of ns) (name_of M) st te d g.some
      (λ i l. ap (λ (x : Core). x.name) (core_rest ns st te q p c g link i (omega arith) (omega arith)))
      (ap (λ (x : Core). x.name) (core_tip ns st te q p c g link)))
      (omega arith) (λ i l. refl) (ap (λ (x : Core). x.name) (core_knot ns st te q p c g link)))

-- ---- the terminals by number
terminal_of-append : (x : Name) (q : Point) (r t : List (ℕ × Point)) → terminal_of x q (r ++ t) ≡ terminal_of x q r ++ t
terminal_of-append source q r t = refl
terminal_of-append (steiner k) q r t = refl
terminal_of-append (terminal k) q r t = refl

pub terminals-append : (ns ms : List Node) → terminals (ns ++ ms) ≡ terminals ns ++ terminals ms
unfolding terminals
terminals-append [] ms = refl
terminals-append (n ∷ ns) ms = ap (terminal_of n.name n.point) (terminals-append ns ms) ∙ terminal_of-append n.name n.point (terminals ns) (terminals ms)

terminals-set : (ns : List Node) (i : ℕ) (m : Node) → core m ≡ core (get_or ns i blank) → terminals (set ns i m) ≡ terminals ns
unfolding terminals
terminals-set [] i m e = refl
terminals-set (n ∷ ns) zero m e = ap (λ (x : Core). terminal_of x.name x.point (terminals ns)) e
terminals-set (n ∷ ns) (suc i) m e = ap (terminal_of n.name n.point) (terminals-set ns i m e)

pub terminals-change : (ns : List Node) (i : ℕ) (f : Node → Node) → ((m : Node) → core (f m) ≡ core m) → terminals (change ns i f) ≡ terminals ns
unfolding change node_at
terminals-change ns i f k = terminals-set ns i _ (k _)

pub terminals-joined : (ns : List Node) (st te : ℕ) (q : Point) (j : Join) → terminals (joined ns st te q j) ≡ terminals ns ++ ((te, q) ∷ [])
unfolding joined attach terminals replace_last
terminals-joined ns st te q (onto p) =
    terminals-append (change ns p _) _ ∙ ap (λ (l : List (ℕ × Point)). l ++ ((te, q) ∷ [])) (terminals-change ns p _ (λ m. refl))
terminals-joined ns st te q (split p c) =
    terminals-append (change (change ns p _) c _) _
    ∙ ap (λ (l : List (ℕ × Point)). l ++ ((te, q) ∷ [])) (terminals-change (change ns p _) c _ (λ m. refl) ∙ terminals-change ns p _ (λ m. refl))
