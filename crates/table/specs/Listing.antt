-- What is told of a table file: a line with N and K and a line for each record, or its refusal.
use Rattle.std.specs.Prelude.{◌≡◌, ℕ, zero, suc, ◌+◌, ◌<◌, ◌≤◌, List, [], ◌++◌, length, take, Ok, Err, codes, decimal, Result}
use Rattle.table.specs.Faults.{number, value}
use Rattle.table.specs.Layout.{record_at, states, settings}
use Rattle.table.specs.Reading.{File, read}
use Rattle.table.specs.Tables.{record_count}
use Rattle.table.specs.Rules.{ObeysRules, FirstBroken}
use Rattle.table.specs.declared.fault.TableFault.{TableFault}
use Rattle.table.specs.declared.records.Record.{Record}

-- the most bytes that are looked at; of a longer file only that it is longer
abbrev pub most_bytes : ℕ
most_bytes = 65536

-- refused N at P
abbrev pub refused_text : ℕ → ℕ → List ℕ
refused_text n p = codes "refused " ++ (decimal n ++ (codes " at " ++ decimal p))

-- its line
abbrev pub refused_line : ℕ → ℕ → List ℕ
refused_line n p = refused_text n p ++ codes "\n"

-- states N settings K
abbrev pub shape_line : ℕ → ℕ → List ℕ
shape_line n k = codes "states " ++ (decimal n ++ (codes " settings " ++ (decimal k ++ codes "\n")))

-- state S setting A next T mark M
abbrev pub record_text : Record → List ℕ
record_text r =
    codes "state " ++ (decimal r.state ++ (codes " setting " ++ (decimal r.setting
    ++ (codes " next " ++ (decimal r.next ++ (codes " mark " ++ decimal r.mark))))))

-- its line
abbrev pub record_line : Record → List ℕ
record_line r = record_text r ++ codes "\n"

-- the lines of the first n records
abbrev pub record_lines : List ℕ → ℕ → List ℕ
record_lines bs zero = []
record_lines bs (suc n) = record_lines bs n ++ record_line (record_at bs n)

abbrev pub table_text : File → List ℕ
table_text f = shape_line f.states f.settings ++ record_lines f.bytes (record_count f)

abbrev pub read_text : Result File TableFault → List ℕ
read_text (Ok f) = table_text f
read_text (Err e) = refused_line (number e) (value e)

-- the text for a file; more than 65,536 bytes count as a length of 65,537
abbrev pub listing : List ℕ → List ℕ
listing bs = read_text (read (take (most_bytes + 1) bs))

-- What the text for the file bs tells, in the words of the rules.
pub record Tells (bs : List ℕ) (text : List ℕ) : Type 0 where
  pub value : text ≡ listing bs
  -- a file that is too long is refused by 3, as of length 65,537
  pub long_refused : most_bytes < length bs → text ≡ refused_line 3 65537
  -- of any other file, one that obeys the rules is told record by record
  pub accepted_told : length bs ≤ most_bytes → ObeysRules bs → text ≡ table_text (record { bytes = bs; states = states bs; settings = settings bs })
  -- and one that does not is refused with the number and the value of the first rule that it breaks
  pub refused_told : length bs ≤ most_bytes → (ObeysRules bs → ⊥) → (n : ℕ) × (v : ℕ) × FirstBroken bs n v × (text ≡ refused_line n v)
