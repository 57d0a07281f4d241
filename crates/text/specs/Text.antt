-- The text of a tree (document 01, "Text"). Definitions only.
use Rattle.std.specs.Prelude.{ℕ, zero, suc, List, [], ◌∷◌, ◌++◌, length}
use Rattle.geometry.specs.declared.Point.{Point}
use Rattle.decimal.specs.Decimal.{decimal_of, int_text}
use Rattle.decimal.specs.Text.{bytes}
use Rattle.tree.specs.Tree.{Node, Name, source, steiner, terminal, node_at}

-- "two spaces per level"
unfoldable pub indent : ℕ → List ℕ
indent zero = []
indent (suc level) = bytes "  " ++ indent level

-- "Kind(name": the kinds are Source, Steiner and Terminal, the names source, steiner_N and terminal_N
unfoldable pub head_of : Name → List ℕ
head_of source = bytes "Source(source"
head_of (steiner k) = bytes "Steiner(steiner_" ++ decimal_of k
head_of (terminal k) = bytes "Terminal(terminal_" ++ decimal_of k

-- "two spaces per level, then Kind(name, (x, y)) and a newline"
unfoldable pub line_of : ℕ → Name → Point → List ℕ
line_of level name p = indent level ++ head_of name ++ bytes ", (" ++ int_text p.xcoord ++ bytes ", " ++ int_text p.ycoord ++ bytes "))\n"

abbrev pub node_line : ℕ → Node → List ℕ
node_line level x = line_of level x.name x.point

-- one after the other
unfoldable pub each : (ℕ → List ℕ) → List ℕ → List ℕ
each f [] = []
each f (c ∷ cs) = f c ++ each f cs

-- "A node's line is followed by its list of children, each of which is again a node with its list." `left` bounds the levels below, and as many as
-- there are nodes are enough (`text_enough` in proofs/Enough.antt)
unfoldable pub text_from : List Node → ℕ → ℕ → ℕ → List ℕ
text_from ns zero level i = node_line level (node_at ns i)
text_from ns (suc left) level i = node_line level (node_at ns i) ++ each (text_from ns left (suc level)) (node_at ns i).children

-- the text of a tree, from the source
abbrev pub text_of : List Node → List ℕ
text_of ns = text_from ns (length ns) 0 0
