-- `joining::detach`: where c is the last child its parent's link goes past it, else the link of the child after it does; and the link back of the child before it.
use Rattle.std.proofs.Common.{ℕ, ◌≡◌, ◌+◌, ◌<◌, List, get_or, arith, refl, subst, sym}
use Rattle.std.proofs.Math.ListN.{set}
use Rattle.tree.specs.Limits.{most_nodes, no_node}
use Rattle.joining.specs.Buffers.{column, links_in, Put}
use Rattle.joining.specs.Links.{links, Detached, Detachable}
use Rattle.joining.proofs.Blocks.{column-most, read, put}
use Rattle.joining.proofs.Backing.{leaves_last, leaves_other}
use Rattle.joining.proofs.detach.Goals as goal

module _ (l : List ℕ) (p c j : ℕ) (ej : j ≡ c) (hp : p < most_nodes) (hc : c < most_nodes) (v : Detachable (links_in l) p c)
    (l₁ : List ℕ) (d : Put 2 (get_or l (250 + j) 0) (get_or l (500 + j) 0) l l₁) where
  prev : get_or l (250 + j) 0 ≡ get_or (column 1 l) c 0
  prev = read 1 l c hc (omega arith) 0

  next : get_or l (500 + j) 0 ≡ get_or (column 2 l) c 0
  next = read 2 l c hc (omega arith) 0

  nexts : column 2 l₁ ≡ set (column 2 l) (get_or (column 1 l) c 0) (get_or (column 2 l) c 0)
  nexts = cc (d.own, prev, next)

  last : (i : ℕ) → i ≡ p → get_or l (500 + j) 0 ≡ no_node → Detached (links_in l) p c (links_in (set l₁ i (get_or l (250 + j) 0)))
  last i ei e =
      let x : Put 0 p (get_or l (250 + j) 0) l₁ (set l₁ i (get_or l (250 + j) 0)) = put 0 l₁ p hp (omega arith) _ in
      let lasts : column 0 (set l₁ i (get_or l (250 + j) 0)) ≡ set (column 0 l) p (get_or (column 1 l) c 0) = cc (x.own, d.other 0 (λ n. omega arith), prev) in
      let prevs : column 1 (set l₁ i (get_or l (250 + j) 0)) ≡ column 1 l = cc (x.other 1 (λ n. omega arith), d.other 1 (λ n. omega arith)) in
      let r = leaves_last (links_in l) p c p c refl refl (omega (arith, column-most 1 l)) v.linked v.has v.backed (column 2 (set l₁ i (get_or l (250 + j) 0))) (cc (x.other 2 (λ n. omega arith), nexts)) (cc (next, e)) in
      subst (Detached (links_in l) p c) (λ k. links (sym lasts k) (sym prevs k) (column 2 (set l₁ i (get_or l (250 + j) 0)))) r

  other : (get_or l (500 + j) 0 ≡ no_node → ⊥) → (l₂ : List ℕ) → Put 1 (get_or l (500 + j) 0) (get_or l (250 + j) 0) l₁ l₂ → Detached (links_in l) p c (links_in l₂)
  other f l₂ x =
      let lasts : column 0 l₂ ≡ column 0 l = cc (x.other 0 (λ n. omega arith), d.other 0 (λ n. omega arith)) in
      let r = leaves_other (links_in l) p c p c refl refl (omega (arith, column-most 1 l)) v.linked v.has v.backed (column 2 l₂) (cc (x.other 2 (λ n. omega arith), nexts)) (λ e. f (cc (next, e))) (column 1 l₂) (cc (x.own, d.other 1 (λ n. omega arith), prev, next)) in
      subst (Detached (links_in l) p c) (λ k. links (sym lasts k) (column 1 l₂) (column 2 l₂)) r

pub returns-then-after : goal.returns-then-after
returns-then-after c =
    last c.args.links.now _ _ _ c.from-j.ensures c.requires.p_lt_most_nodes.0 c.requires.p_lt_most_nodes.1 c.requires.detachable _ c.put.ensures _ c.from.ensures c.if-after.true

pub returns : goal.returns
returns c =
    other c.args.links.now _ _ _ c.from-j.ensures c.requires.p_lt_most_nodes.0 c.requires.p_lt_most_nodes.1 c.requires.detachable _ c.put.ensures c.if-after.false _ c.put-2.ensures
