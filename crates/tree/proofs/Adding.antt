-- Nodes with one more, however they are linked: the old ones keep name, point and path, and the new one stands last. So what holds of the name, point and
-- path of every node holds again, names stay distinct, and there are as many terminals as numbers given out.
use Rattle.std.proofs.Common.{◌≡◌, refl, sym, ap, subst, ◌∙◌, ◌≢◌, List, [], ◌∷◌, ◌++◌, ℕ, suc, ◌+◌, ◌≤◌, ◌<◌, arith, length, length-append}
use Rattle.std.proofs.Math.Decide.{ℕ_discrete}
use Rattle.geometry.specs.declared.Point.{Point}
use Rattle.tree.specs.Tree.{Node, Name, source, steiner, terminal, node_at, change, adopt, terminal_of, terminals}
use Rattle.tree.specs.Route.{attach, steiner_after, terminal_after}
use Rattle.tree.specs.Edits.{Next}
use Rattle.tree.specs.Shape.{Named, name_of}
use Rattle.tree.proofs.Nodes.{length-attach}
use Rattle.tree.proofs.Measuring.{Core, core, core_new, core_old}
use Rattle.tree.proofs.Naming.{named-steiner, named-terminal, terminals-append, terminals-change}

-- ms are ns and then n, but for links
pub record Adds (ns : List Node) (n : Node) (ms : List Node) : Type 0 where
  pub long : length ms ≡ suc (length ns)
  pub old : (i : ℕ) → i ≢ length ns → core (node_at ms i) ≡ core (node_at ns i)
  pub new : core (node_at ms (length ns)) ≡ core n
  pub joins : terminals ms ≡ terminals ns ++ terminals (n ∷ [])

pub adds_attach : (ns : List Node) (p : ℕ) (n : Node) → p < length ns → Adds ns n (attach ns p n)
unfolding attach
adds_attach ns p n h =
    record {
      long = length-attach ns p n h;
      old = core_old ns p n h;
      new = core_new ns p n h;
      joins =
          terminals-append (change ns p (adopt (length ns))) (n ∷ [])
          ∙ ap (λ (l : List (ℕ × Point)). l ++ terminals (n ∷ [])) (terminals-change ns p _ (λ m. refl));
    }

module _ {ns ms : List Node} {n : Node} (a : Adds ns n ms) where
  pub every_adds : (P : Core → Type 0) → ((i : ℕ) → P (core (node_at ns i))) → P (core n) → (i : ℕ) → P (core (node_at ms i))
  every_adds P all new i = by (ℕ_discrete i (length ns))
    where
      by : Dec (i ≡ length ns) → P (core (node_at ms i))
      by (yes e) = subst P (sym (ap (λ (k : ℕ). core (node_at ms k)) e ∙ a.new)) new
      by (no e) = subst P (sym (a.old i e)) (all i)

  -- a name that is given next
  pub named_adds : (st te : ℕ) → 0 < length ns → Next st te n.name → Named (length ns) (name_of ns) st te
      → Named (length ms) (name_of ms) (steiner_after n.name st) (terminal_after n.name te)
  named_adds st te some next g =
      subst (λ (k : ℕ). Named k (name_of ms) (steiner_after n.name st) (terminal_after n.name te)) (sym a.long) (by n.name next (ap (λ (x : Core). x.name) a.new))
    where
      same : (i : ℕ) → i < length ns → name_of ms i ≡ name_of ns i
      same i l = ap (λ (x : Core). x.name) (a.old i (omega arith))

      by : (x : Name) → Next st te x → name_of ms (length ns) ≡ x → Named (suc (length ns)) (name_of ms) (steiner_after x st) (terminal_after x te)
      by source v e = absurd v
      by (steiner k) v e = named-steiner (length ns) (name_of ns) (name_of ms) st te g some same (e ∙ ap steiner v)
      by (terminal k) v e = named-terminal (length ns) (name_of ns) (name_of ms) st te g some same (e ∙ ap terminal v)

  -- as many terminals as numbers that were given out
  pub counts_adds : (st te : ℕ) → Next st te n.name → suc (length (terminals ns)) ≡ te → suc (length (terminals ms)) ≡ terminal_after n.name te
  unfolding terminals
  counts_adds st te next e = by n.name next (ap length a.joins ∙ length-append (terminals ns) (terminals (n ∷ [])))
    where
      by : (x : Name) → Next st te x → length (terminals ms) ≡ length (terminals ns) + length (terminal_of x n.point []) → suc (length (terminals ms)) ≡ terminal_after x te
      by source v f = absurd v
      by (steiner k) v f = omega arith
      by (terminal k) v f = omega arith

-- ---- the source is no terminal
terminals-most : (ns : List Node) → length (terminals ns) ≤ length ns
unfolding terminals
terminals-most [] = omega arith
terminals-most (n ∷ ns) = by n.name (terminals-most ns)
  where
    by : (x : Name) → length (terminals ns) ≤ length ns → length (terminal_of x n.point (terminals ns)) ≤ suc (length ns)
    by source h = omega arith
    by (steiner k) h = omega arith
    by (terminal k) h = omega arith

pub terminals_fewer : (ns : List Node) → 0 < length ns → name_of ns 0 ≡ source → length (terminals ns) < length ns
unfolding terminals node_at
terminals_fewer [] h e = absurd (omega arith)
terminals_fewer (n ∷ ns) h e = omega (arith, ap (λ (x : Name). length (terminal_of x n.point (terminals ns))) e, terminals-most ns)
