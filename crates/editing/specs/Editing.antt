-- What the edits of a table answer.
use Rattle.std.specs.Prelude.{ℕ, ◌+◌, ◌≡◌, Bool, false, ◌||◌, ltb, Option, None, Some, Result, Ok, Err}
use Rattle.refusal.specs.declared.Refusal.{Refusal}
use Rattle.refusal.specs.declared.Refusal.TheVariants.{NewSource}
use Rattle.refusal.specs.Refusals.{number_of}
use Rattle.tree.specs.Limits.{most_nodes}
use Rattle.tree.specs.Memory.{name_in}
use Rattle.tree.specs.declared.SteinerNumber.{SteinerNumber}
use Rattle.tree.specs.declared.NodeName.{NodeName}
use Rattle.tree.specs.declared.NodeName.TheVariants as N
use Rattle.tree.specs.declared.NodeType.{NodeType}
use Rattle.tree.specs.declared.NodeType.TheVariants.{Source, Steiner, Terminal}
use Rattle.joining.specs.declared.Counts.{Counts}
use Rattle.tables.specs.Table.{table_tree}
use Rattle.editing.specs.Edits as D
use Rattle.editing.specs.declared.Insertion.{Insertion}

-- ---- the code's types as the paper's
abbrev pub parent_name_of : Option NodeName → D.ParentName
parent_name_of None = D.default
parent_name_of (Some n) = D.named (name_in n)

abbrev pub kind_in : NodeType → D.Kind
kind_in Source = D.source_kind
kind_in Steiner = D.steiner_kind
kind_in Terminal = D.terminal_kind

-- the paper's number, or the new node's name and the tree
abbrev pub edit_of : Result Insertion Refusal → D.Edit
edit_of (Err e) = D.refused (number_of e)
edit_of (Ok i) = D.inserted (name_in i.name) (table_tree i.table)

-- ---- what an edit shows
-- the answer is the edit x. That "the tree value" is "as before" after a refusal is in the type: the table is only lent to be read
abbrev pub Edits : D.Edit → Result Insertion Refusal → Type 0
Edits x r = edit_of r ≡ x

-- the name of a new node of a kind: "9: kind Source for a new node"
abbrev pub new_name : Counts → NodeType → Result NodeName Refusal
new_name k Source = Err NewSource
new_name k Steiner = Ok (N.Steiner k.steiner)
new_name k Terminal = Ok (N.Terminal k.terminal)

-- a new Steiner number, if there is one, passes the limit
abbrev pub passed : Option SteinerNumber → Bool
passed None = false
passed (Some k) = ltb most_nodes k.0

-- the test that the code makes for 10, of counts alone: of n nodes, how many more there would be, and the new Steiner number.
-- It is the paper's, `full` (`overfull_is`, proofs/Refusing.antt)
abbrev pub overfull : ℕ → ℕ → Option SteinerNumber → Bool
overfull n more number = ltb most_nodes (n + more) || passed number
