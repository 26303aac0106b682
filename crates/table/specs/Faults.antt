-- The refusals of a table file by their numbers, and what is returned with each.
use Rattle.std.specs.Prelude.{◌≡◌, ℕ, cond, ◌==◌}
use Rattle.table.specs.declared.fault.TableFault.{TableFault}
use Rattle.table.specs.declared.fault.TableFault.TheVariants.{BadLength, BadCount, OutOfOrder, UnknownNext, HighMark}

abbrev pub number : TableFault → ℕ
number (BadLength v) = 3
number (BadCount v) = 4
number (OutOfOrder v) = 5
number (UnknownNext v) = 6
number (HighMark v) = 7

-- the length for 3, the record for 4 to 7
abbrev pub value : TableFault → ℕ
value (BadLength v) = v
value (BadCount v) = v
value (OutOfOrder v) = v
value (UnknownNext v) = v
value (HighMark v) = v

-- the refusal with this number, 3 to 7, and this value
abbrev pub refusal : ℕ → ℕ → TableFault
refusal number v =
    cond (number == 3) (BadLength v)
    (cond (number == 4) (BadCount v)
    (cond (number == 5) (OutOfOrder v)
    (cond (number == 6) (UnknownNext v) (HighMark v))))

abbrev Numbered : ℕ → ℕ → Type 0
Numbered n v = (number (refusal n v) ≡ n) × (value (refusal n v) ≡ v)

-- `refusal`, `number` and `value` agree
abbrev pub RefusalsNumbered : Type 0
RefusalsNumbered = (v : ℕ) → Numbered 3 v × Numbered 4 v × Numbered 5 v × Numbered 6 v × Numbered 7 v
