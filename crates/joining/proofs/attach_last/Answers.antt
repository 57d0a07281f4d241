-- `joining::attach_last`: four stores.
use Rattle.std.proofs.Common.{ℕ, ◌≡◌, ◌+◌, ◌<◌, List, get_or, arith}
use Rattle.std.proofs.Math.ListN.{set}
use Rattle.tree.specs.Limits.{most_nodes, no_node}
use Rattle.joining.specs.Buffers.{column, links_in, Put}
use Rattle.joining.specs.Links.{Attached}
use Rattle.joining.proofs.Blocks.{read, put}
use Rattle.joining.proofs.attach_last.Goals as goal

attached : (l : List ℕ) (p c i j : ℕ) → i ≡ p → j ≡ c → p < most_nodes → c < most_nodes → (l' : List ℕ)
    → Put 2 (get_or l i 0) c (set (set (set l i c) (250 + j) (get_or l i 0)) (500 + j) no_node) l' → Attached (links_in l) p c (links_in l')
attached l p c i j ei ej hp hc l' d =
    let b : ℕ = get_or l i 0 in
    let l₁ : List ℕ = set l i c in
    let l₂ : List ℕ = set l₁ (250 + j) b in
    let w : b ≡ get_or (column 0 l) p 0 = read 0 l p hp (omega arith) 0 in
    let x : Put 0 p c l l₁ = put 0 l p hp (omega arith) c in
    let y : Put 1 c b l₁ l₂ = put 1 l₁ c hc (omega arith) b in
    let z : Put 2 c no_node l₂ (set l₂ (500 + j) no_node) = put 2 l₂ c hc (omega arith) no_node in
    record {
      lasts = cc (d.other 0 (λ e. omega arith), z.other 0 (λ e. omega arith), y.other 0 (λ e. omega arith), x.own);
      prevs = cc (d.other 1 (λ e. omega arith), z.other 1 (λ e. omega arith), y.own, x.other 1 (λ e. omega arith), w);
      nexts = cc (d.own, z.own, y.other 2 (λ e. omega arith), x.other 2 (λ e. omega arith), w);
    }

pub returns : goal.returns
returns c = attached c.args.links.now _ _ _ _ c.from-i.ensures c.from-j.ensures c.requires.0 c.requires.1 _ c.put.ensures
