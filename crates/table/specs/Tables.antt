-- A table as a model.
use Rattle.std.specs.Prelude.{◌≡◌, ℕ, ◌+◌, ◌*◌, ◌<◌, true, cond, List, is_ok, IfOk, IfErr, Some, None, Ok, Err, vec_items, Option, Result, ◌==◌, nat_lt}
use Rattle.model.specs.Meaning.{Meaning, step}
use Rattle.table.specs.Layout.{record_at, count}
use Rattle.table.specs.Reading.{File, read}
use Rattle.table.specs.Rules.{ObeysRules, FirstBroken}
use Rattle.table.specs.Faults.{number, value as value_of}
use Rattle.table.specs.declared.fault.TableFault.{TableFault}
use Rattle.table.specs.declared.records.Record.{Record}
use Rattle.table.specs.declared.records.Table.{Table}

-- the file that a table was read from
abbrev pub file : Table → File
file t = record { bytes = vec_items t.bytes; states = t.shape.states; settings = t.shape.settings }

-- the answer of reading, with the file for the table
abbrev pub file_read : Result Table TableFault → Result File TableFault
file_read (Ok t) = Ok (file t)
file_read (Err e) = Err e

-- the record of state s and setting k
abbrev pub record_of : File → ℕ → ℕ → Record
record_of f s k = record_at f.bytes (s * f.settings + k)

-- the model that the records make; known states are 0 to N - 1
abbrev pub table : File → Meaning ℕ
table f = record {
  settings = f.settings;
  known = λ s. nat_lt s f.states;
  same = λ a b. (a == b);
  mark = λ s k. (record_of f s k).mark;
  next = λ s k. (record_of f s k).next;
  layers = λ s k. 0;
}

-- how many records an accepted file has: one for each state and setting
abbrev pub record_count : File → ℕ
record_count f = f.states * f.settings

-- record i, if the file has one
abbrev pub record_numbered : File → ℕ → Option Record
record_numbered f i = cond (nat_lt i (record_count f)) (Some (record_at f.bytes i)) None

-- each record's state and setting step to that record's mark and next state
abbrev pub StepsAsRecorded : List ℕ → Meaning ℕ → Type 0
StepsAsRecorded bs m =
    (i : ℕ) → i < count bs → step m (record_at bs i).state (record_at bs i).setting ≡ Ok ((record_at bs i).mark, (record_at bs i).next)

-- What reading the bytes bs answers.
pub record Reads (bs : List ℕ) (r : Result Table TableFault) : Type 0 where
  -- the table with these bytes, or the refusal
  pub value : file_read r ≡ read bs
  -- a file is accepted if and only if it obeys the rules
  pub accepted_if_rules_obeyed : ObeysRules bs → is_ok r ≡ true
  pub rules_obeyed_if_accepted : is_ok r ≡ true → ObeysRules bs
  -- a refusal's number and value are those of the first rule that the file breaks
  pub refused_by_first_broken : IfErr r (λ f. FirstBroken bs (number f) (value_of f))
  -- an accepted table steps as its records say
  pub steps_as_recorded : IfOk r (λ t. StepsAsRecorded bs (table (file t)))
