-- The bytes of a table file: records of 8 bytes without a header. Each has a state, a setting,
-- a next state and a mark, two bytes each, low byte first.
use Rattle.std.specs.Prelude.{ℕ, ◌+◌, ◌-◌, ◌*◌, ◌/◌, List, length, slice_index}
use Rattle.table.specs.declared.records.Record.{Record}

-- the bytes of a record
abbrev pub record_bytes : ℕ
record_bytes = 8

-- the most states: a state is numbered from 0 in two bytes
abbrev pub most_states : ℕ
most_states = 65536

-- the number in two bytes, low byte first
abbrev pub word : List ℕ → ℕ → ℕ
word bs at = slice_index bs at + 256 * slice_index bs (at + 1)

-- record i, from 0
abbrev pub record_at : List ℕ → ℕ → Record
record_at bs i = record {
  state = word bs (record_bytes * i);
  setting = word bs (record_bytes * i + 2);
  next = word bs (record_bytes * i + 4);
  mark = word bs (record_bytes * i + 6);
}

-- how many records, and the number of the last
abbrev pub count : List ℕ → ℕ
count bs = length bs / record_bytes

abbrev pub last : List ℕ → ℕ
last bs = count bs - 1

-- N, the number of states: the last record has state N - 1
abbrev pub states : List ℕ → ℕ
states bs = (record_at bs (last bs)).state + 1

-- K, the number of settings: the last record has setting K - 1
abbrev pub settings : List ℕ → ℕ
settings bs = (record_at bs (last bs)).setting + 1
