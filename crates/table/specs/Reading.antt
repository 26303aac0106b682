-- Reading a table file: what it holds, or its refusal.
use Rattle.std.specs.Prelude.{ℕ, zero, suc, ◌+◌, ◌*◌, ◌/◌, ◌%◌, Bool, cond, ◌&&◌, List, length, Some, None, Ok, Err, Option, Result, ◌==◌, nat_le, nat_lt}
use Rattle.model.specs.Meaning.{most_settings, highest_mark}
use Rattle.table.specs.Faults.{refusal}
use Rattle.table.specs.Layout.{record_bytes, record_at, count, last, states, settings}
use Rattle.table.specs.declared.fault.TableFault.{TableFault}
use Rattle.table.specs.declared.records.Record.{Record}

-- the numbers of states and settings
pub record Sizes : Type 0 where
  pub states : ℕ
  pub settings : ℕ

-- the file of an accepted table: its bytes, N and K
pub record File : Type 0 where
  pub bytes : List ℕ
  pub states : ℕ
  pub settings : ℕ

-- there are records, and each is whole
abbrev pub whole : List ℕ → Bool
whole bs = nat_lt 0 (length bs) && length bs % record_bytes == 0

-- the last setting is below 16, and there is one record for each state and setting
abbrev pub complete : List ℕ → Bool
complete bs = nat_lt (record_at bs (last bs)).setting most_settings && count bs == states bs * settings bs

-- what is wrong with a record as the one numbered i of a table of n states and k settings
abbrev pub fault_in : ℕ → ℕ → ℕ → Record → Option TableFault
fault_in n k i r =
    cond (r.state == i / k && r.setting == i % k)
    (cond (nat_lt r.next n)
    (cond (nat_le r.mark highest_mark) None (Some (refusal 7 i)))
    (Some (refusal 6 i)))
    (Some (refusal 5 i))

-- what is wrong with record i of a table of n states and k settings
abbrev pub record_fault : List ℕ → ℕ → ℕ → ℕ → Option TableFault
record_fault bs n k i = fault_in n k i (record_at bs i)

-- an option, or else another
abbrev pub or_else : {A : Type 0} → Option A → Option A → Option A
or_else (Some x) o = Some x
or_else None o = o

-- the first of f i, f (i + 1), .. that is there, of n in all
abbrev pub first_there : {A : Type 0} → (ℕ → Option A) → ℕ → ℕ → Option A
first_there f i zero = None
first_there f i (suc n) = or_else (f i) (first_there f (i + 1) n)

-- the refusal if there is one, else the answer
abbrev pub unless : {A : Type 0} → Option TableFault → A → Result A TableFault
unless (Some e) x = Err e
unless None x = Ok x

-- N and K, as the last record gives them
abbrev pub shape : List ℕ → Sizes
shape bs = record { states = states bs; settings = settings bs }

-- N and K; refused by 3, then by 4, then by the first record that is wrong
abbrev pub checked : List ℕ → Result Sizes TableFault
checked bs =
    cond (whole bs)
    (cond (complete bs)
    (unless (first_there (record_fault bs (states bs) (settings bs)) 0 (count bs)) (shape bs))
    (Err (refusal 4 (last bs))))
    (Err (refusal 3 (length bs)))

abbrev pub with_bytes : List ℕ → Result Sizes TableFault → Result File TableFault
with_bytes bs (Ok s) = Ok (record { bytes = bs; states = s.states; settings = s.settings })
with_bytes bs (Err e) = Err e

-- what the file holds, or its refusal
abbrev pub read : List ℕ → Result File TableFault
read bs = with_bytes bs (checked bs)
