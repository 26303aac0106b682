-- The limits of searches and stations, each named once.
use Rattle.std.specs.Prelude.{ℕ}

-- a node of this depth is not expanded, so no path is longer
abbrev pub greatest_depth : ℕ
greatest_depth = 32

-- the most rows that a search keeps
abbrev pub most_kept : ℕ
most_kept = 32

-- the most rows that a station has
abbrev pub most_rows : ℕ
most_rows = 64

-- the highest switch limit
abbrev pub highest_limit : ℕ
highest_limit = 32

-- the most cells that are for nodes; one more keeps the present state
abbrev pub most_node_cells : ℕ
most_node_cells = 65536
