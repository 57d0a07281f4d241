-- The refusals and their numbers (document 01, "What each party can get wrong"). Definitions only.
use Rattle.std.specs.Prelude.{ℕ}
use Rattle.refusal.specs.declared.Refusal.{Refusal}
use Rattle.refusal.specs.declared.Refusal.TheVariants.{WrongLength, TooMany, WrongOffset, WrongMode, Outside, BadKeepout, NoSuchNode, NotAChild, NewSource, Full, NoRoom}

abbrev pub number_of : Refusal → ℕ
-- "under 32 bytes; after test 2, also any length but 32 + 8T + 16K"
number_of WrongLength = 1
-- "T over 120 or K over 64"
number_of TooMany = 2
-- "an offset other than the required one"
number_of WrongOffset = 3
-- "mode over 2; a nonzero spare byte; multiplier bits nonzero in mode 0 or 1"
number_of WrongMode = 4
-- "a source or terminal coordinate outside −1,000,000..1,000,000"
number_of Outside = 5
-- "a keepout interval with lower above upper"
number_of BadKeepout = 6
-- "a name that no node has"
number_of NoSuchNode = 7
-- "the branch end isn't a child of the branch start"
number_of NotAChild = 8
-- "kind Source for a new node"
number_of NewSource = 9
-- "the nodes to be added would pass 250 in all, or a new Steiner number would pass 250"
number_of Full = 10
-- "an output buffer shorter than what is to be written"
number_of NoRoom = 11
