-- What `routeplan` writes for a job's bytes (document 01, "Measures, edits, text"). Definitions only.
use Rattle.std.specs.Prelude.{ℕ, ◌+◌, cond, List, ◌++◌, length, leb, ℤ}
use Rattle.decimal.specs.Decimal.{decimal_of, int_text}
use Rattle.decimal.specs.Text.{bytes}
use Rattle.tree.specs.Tree.{Tree, total}
use Rattle.tree.specs.Measures.{worst}
use Rattle.route.specs.Routing.{Routing, refused, routed, route_of}
use Rattle.refusal.specs.declared.Refusal.TheVariants.{NoRoom}
use Rattle.refusal.specs.Refusals.{number_of}
use Rattle.text.specs.Text.{text_of}

-- "the text (buffer 65,536 bytes)"
abbrev pub most_text : ℕ
most_text = 65536

-- room for every output (`output_short` in proofs/Room.antt): the text, and the longest line of figures
abbrev pub most_output : ℕ
most_output = most_text + 74

-- "`refused n`, n its number", and a newline
unfoldable pub refusal_line : ℕ → List ℕ
refusal_line n = bytes "refused " ++ decimal_of n ++ bytes "\n"

-- "`allowed A farthest W total L worst V`", and a newline
unfoldable pub figures_line : ℤ → ℕ → ℕ → ℕ → List ℕ
figures_line a w l v = bytes "allowed " ++ int_text a ++ bytes " farthest " ++ decimal_of w ++ bytes " total " ++ decimal_of l ++ bytes " worst " ++ decimal_of v ++ bytes "\n"

-- the figures of a tree
abbrev pub figures_line_of : Tree → List ℕ
figures_line_of t = figures_line t.allowed t.farthest (total t.nodes) (worst t.nodes)

-- "writes the text (buffer 65,536 bytes), then" the figures; "11, an output buffer shorter than what is to be written"
unfoldable pub tree_output : Tree → List ℕ
tree_output t = cond (leb (length (text_of t.nodes)) most_text) (text_of t.nodes ++ figures_line_of t) (refusal_line (number_of NoRoom))

-- "on refusal only `refused n`"
abbrev pub output_for : Routing → List ℕ
output_for (refused n) = refusal_line n
output_for (routed t) = tree_output t

-- of a job's bytes
unfoldable pub output_of : List ℕ → List ℕ
output_of job = output_for (route_of job)
