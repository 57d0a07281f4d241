-- M6's text, as the definition gives it for the tree of M6.
use Rattle.std.proofs.Common.{◌≡◌, refl}
use Rattle.decimal.specs.Decimal.{decimal_of, digits, int_text}
use Rattle.decimal.specs.Text.{bytes}
use Rattle.tree.specs.Tree.{node_at}
use Rattle.measures.proofs.Samples.{m6}
use Rattle.text.specs.Text.{indent, head_of, line_of, each, text_from, text_of}

m6_text : text_of m6 ≡ bytes "Source(source, (0, 0))\n  Steiner(steiner_1, (4, 2))\n    Terminal(terminal_1, (4, 6))\n    Terminal(terminal_2, (10, 2))\n"
unfolding node_at text_from each line_of head_of indent int_text decimal_of digits
m6_text = refl
