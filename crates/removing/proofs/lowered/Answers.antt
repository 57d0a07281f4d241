-- `removing::lowered`: the three cases of the definition.
use Rattle.std.proofs.Common.{sym, ◌∙◌}
use Rattle.removing.proofs.Places.{link_none, link_some, closed-low, closed-high}
use Rattle.removing.proofs.lowered.Goals as goal

pub returns-then-v-eq-NO_NODE : goal.returns-then-v-eq-NO_NODE
returns-then-v-eq-NO_NODE c = c.if-v-eq-NO_NODE.true ∙ sym (link_none _ _ c.if-v-eq-NO_NODE.true)

pub returns-then-i-v : goal.returns-then-i-v
returns-then-i-v c = sym (link_some _ _ c.if-v-eq-NO_NODE.false ∙ closed-high _ _ c.if-i-v.true)

pub returns : goal.returns
returns c = sym (link_some _ _ c.if-v-eq-NO_NODE.false ∙ closed-low _ _ c.if-i-v.false)
