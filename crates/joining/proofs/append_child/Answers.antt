-- `joining::append_child`: the child's own chain is ended, and then it goes last among its parent's.
use Rattle.std.proofs.Common.{ℕ, ◌≡◌, ◌<◌, List, arith, subst}
use Rattle.std.proofs.Math.ListN.{set}
use Rattle.tree.specs.Limits.{most_nodes, no_node}
use Rattle.joining.specs.Buffers.{links_in, Put}
use Rattle.joining.specs.Links.{Links, links, Attached, Appended}
use Rattle.joining.proofs.Blocks.{put}
use Rattle.joining.proofs.append_child.Goals as goal

appended : (l : List ℕ) (p c i : ℕ) → i ≡ c → c < most_nodes → (l' : List ℕ) → Attached (links_in (set l i no_node)) p c (links_in l') → Appended (links_in l) p c (links_in l')
appended l p c i e h l' v =
    let x : Put 0 c no_node l (set l i no_node) = put 0 l c h (omega arith) no_node in
    subst (λ (m : Links). Attached m p c (links_in l')) (λ k. links (x.own k) (x.other 1 (λ n. omega arith) k) (x.other 2 (λ n. omega arith) k)) v

pub returns : goal.returns
returns c = appended c.args.links.now _ _ _ c.from.ensures c.requires.1 c.attach_last.new.links c.attach_last.ensures
