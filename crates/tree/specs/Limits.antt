-- The limits, each once: those of document 01, and those that follow. The code's are the constants of src/lib.rt.
use Rattle.std.specs.Prelude.{ℕ, ◌*◌}

-- "outside −1,000,000..1,000,000": no coordinate of a source or terminal is farther from 0
abbrev pub reach : ℕ
reach = 1000000

-- "T over 120 or K over 64"
abbrev pub most_terminals : ℕ
most_terminals = 120

abbrev pub most_keepouts : ℕ
most_keepouts = 64

-- "would pass 250 in all"
abbrev pub most_nodes : ℕ
most_nodes = 250

-- `worst_wirelength` of a fresh tree
abbrev pub no_limit : ℕ
no_limit = 2147483647

-- ---- ours
-- no two points within reach are farther apart
abbrev pub across : ℕ
across = 4 * reach

-- no node carries a longer path
abbrev pub longest_path : ℕ
longest_path = 1000000000

-- what stands for no node in a column of indices
abbrev pub no_node : ℕ
no_node = 65535
