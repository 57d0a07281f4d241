-- Edits by hand (document 01, "What each party can get wrong" and "Measures, edits, text"). Definitions only.
use Rattle.std.specs.Prelude.{ℕ, ◌+◌, Bool, false, not, ◌||◌, cond, List, [], ◌∷◌, length, eqb, ltb, ℤ, pos}
use Rattle.geometry.specs.declared.Point.{Point}
use Rattle.geometry.specs.declared.Rectangle.{Rectangle}
use Rattle.tree.specs.Limits.{most_nodes}
use Rattle.tree.specs.Tree.{Tree, Name, source, steiner, terminal, Parent, none, at, node_at}
use Rattle.tree.specs.Search.{Join, onto, split, any_of, blocked, find}
use Rattle.tree.specs.Route.{join, closest, attached}
use Rattle.tree.specs.Edits.{spliced}
use Rattle.tree.specs.Measures.{Lookup, missing, found, lookup_in}
use Rattle.job.specs.Job.{outside, too_many_keepouts, invalid_keepout}

-- what an edit answers: "A refusal gives its number; the tree value and all lent bytes are then as before". Else the new node's name (of two new nodes,
-- the terminal's), and the tree
pub data Edit : Type 0 where
  refused : ℕ → Edit
  inserted : Name → Tree → Edit

-- ---- the refusals
-- "7: a name that no node has"
abbrev pub at_node : Lookup → (ℕ → Edit) → Edit
at_node missing then = refused 7
at_node (found i) then = then i

abbrev pub node_named : Tree → Name → Lookup
node_named t n = lookup_in t.nodes n

-- "a new Steiner number would pass 250"
abbrev pub passes : Name → Bool
passes source = false
passes (steiner k) = ltb most_nodes k
passes (terminal k) = false

-- 10, of n nodes and the names of those to be added: "the nodes to be added would pass 250 in all, or a new Steiner number would pass 250"
unfoldable pub full : ℕ → List Name → Bool
full n names = ltb most_nodes (n + length names) || any_of passes names

-- ---- a node by hand
abbrev pub attach_at : Tree → Name → Point → ℕ → Edit
attach_at t n q p = cond (full (length t.nodes) (n ∷ [])) (refused 10) (inserted n (attached t n q p))

-- the parent that an insert is given, if any
pub data ParentName : Type 0 where
  default : ParentName
  named : Name → ParentName

abbrev pub parent_node : Tree → ℕ → ParentName → Lookup
parent_node t i default = found i
parent_node t i (named n) = node_named t n

-- "`insert_steiner_node`, default parent source"
unfoldable pub insert_steiner_node : Tree → Point → ParentName → Edit
insert_steiner_node t q p =
    cond (outside q) (refused 5)
    (at_node (parent_node t 0 p) (attach_at t (steiner t.next_steiner) q))

-- "`insert_terminal_node` without a parent join the node of least d, lowest index on ties"
unfoldable pub insert_terminal_node : Tree → Point → ParentName → Edit
insert_terminal_node t q p =
    cond (outside q) (refused 5)
    (at_node (parent_node t (closest t.nodes q (length t.nodes)) p) (attach_at t (terminal t.next_terminal) q))

-- ---- on a branch
-- the kind of a new node
pub data Kind : Type 0 where
  source_kind : Kind
  steiner_kind : Kind
  terminal_kind : Kind

abbrev pub is_child_of : ℕ → Parent → Bool
is_child_of p none = false
is_child_of p (at x) = eqb p x

-- "8: the branch end isn't a child of the branch start"
abbrev pub splice_at : Tree → Name → Point → ℕ → ℕ → Edit
splice_at t n q p c =
    cond (not (is_child_of p (node_at t.nodes c).parent)) (refused 8)
    (cond (full (length t.nodes) (n ∷ [])) (refused 10) (inserted n (spliced t n q p c)))

-- "9: kind Source for a new node"
abbrev pub splice_kind : Kind → Tree → Point → ℕ → ℕ → Edit
splice_kind source_kind t q p c = refused 9
splice_kind steiner_kind t q p c = splice_at t (steiner t.next_steiner) q p c
splice_kind terminal_kind t q p c = splice_at t (terminal t.next_terminal) q p c

-- `insert_node_on_branch`, from the node named a to the node named b
unfoldable pub insert_node_on_branch : Tree → Kind → Point → Name → Name → Edit
insert_node_on_branch t k q a b =
    cond (outside q) (refused 5)
    (at_node (node_named t a) (λ p. at_node (node_named t b) (λ c. splice_kind k t q p c)))

-- ---- by the search
-- the names of the nodes that a joining adds
abbrev pub new_names : Tree → Join → List Name
new_names t (onto p) = terminal t.next_terminal ∷ []
new_names t (split p c) = terminal t.next_terminal ∷ steiner t.next_steiner ∷ []

-- 10 "is decided after the search, which tells whether one node or two are added"
abbrev pub join_found : Tree → Point → Join → Edit
join_found t q j = cond (full (length t.nodes) (new_names t j)) (refused 10) (inserted (terminal t.next_terminal) (join t q j))

-- `insert_terminal_with_constraints`, "any i32 allowance": "5 for the point; 2 then 6 for keepouts", then the search
unfoldable pub insert_terminal_with_constraints : Tree → Point → ℤ → List Rectangle → Edit
insert_terminal_with_constraints t q allowed ks =
    cond (outside q) (refused 5)
    (cond (too_many_keepouts ks) (refused 2)
    (cond (any_of invalid_keepout ks) (refused 6)
    (join_found t q (find (blocked ks) t.nodes t.limit allowed q))))

-- "`insert_terminal_with_steiner` use allowed = tree limit"
abbrev pub insert_terminal_with_steiner : Tree → Point → List Rectangle → Edit
insert_terminal_with_steiner t q ks = insert_terminal_with_constraints t q (pos t.limit) ks
