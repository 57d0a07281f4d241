-- What the calls that edit a tree answer.
use Rattle.std.specs.Prelude.{◌≡◌, Result, Ok, Err}
use Rattle.refusal.specs.declared.Refusal.{Refusal}
use Rattle.refusal.specs.Refusals.{number_of}
use Rattle.tree.specs.Tree.{Tree}
use Rattle.tree.specs.Memory.{name_in}
use Rattle.tree.specs.declared.NodeName.{NodeName}
use Rattle.editing.specs.Edits as D
use Rattle.global_router.specs.declared.GlobalRoutingTree.{GlobalRoutingTree}
use Rattle.global_router.specs.Stored.{tree_of}

-- the paper's number, or the new node's name and the tree
abbrev pub edited_of : Result NodeName Refusal → Tree → D.Edit
edited_of (Err e) t = D.refused (number_of e)
edited_of (Ok n) t = D.inserted (name_in n) t

-- after a refusal "the tree value" is "as before"
abbrev pub AsBefore : {A : Type 0} → Result NodeName Refusal → A → A → Type 0
AsBefore (Err e) before after = after ≡ before
AsBefore (Ok n) before after = Unit {0}

-- an edit of g is x, and leaves g'
pub record EditedTo (x : D.Edit) (g : GlobalRoutingTree) (r : Result NodeName Refusal) (g' : GlobalRoutingTree) : Type 0 where
  pub is : edited_of r (tree_of g') ≡ x
  pub kept : AsBefore r g g'
