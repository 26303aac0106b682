-- Reading decides the rules of a table file, and an accepted table steps as its records say.
use Rattle.std.proofs.Common.{◌≡◌, ℕ, ◌+◌, ◌*◌, ◌<◌, ◌≤◌, List, length, Some, None, Ok, Err, refl, ap, ◌∙◌, subst, sym, div-add-mod', arith}
use Rattle.std.proofs.lemmas.Nat.{div_below, mod_below}
use Rattle.std.proofs.lemmas.Bool.{lt-ltb, false≢true}
use Rattle.std.proofs.lemmas.Bool.Decides.{nat_tests}
use Rattle.model.proofs.Walks.{step_granted}
use Rattle.table.specs.Faults.{number, value as value_of}
use Rattle.table.specs.Layout.{record_bytes, record_at, count, states, settings}
use Rattle.table.specs.Rules.{WholeRecords, Complete, SoundRecord, ObeysRules, RecordBreaks, FirstBroken}
use Rattle.table.specs.Reading.{File, Sizes, record_fault, first_there, shape, checked, with_bytes}
use Rattle.table.specs.Tables.{file, table, StepsAsRecorded, Reads}
use Rattle.table.specs.declared.fault.TableFault.{TableFault}
use Rattle.table.specs.declared.records.Table.{Table}
use Rattle.table.proofs.Firsts.{none_there, found_there}

-- a record without a fault is sound
sound_if_none : (bs : List ℕ) (i : ℕ) → record_fault bs (states bs) (settings bs) i ≡ None → SoundRecord bs i
sound_if_none bs i e = grind (arith, nat_tests)

-- a record's fault is the first rule that it breaks
broken_if_some : (bs : List ℕ) (i : ℕ) (f : TableFault) → record_fault bs (states bs) (settings bs) i ≡ Some f → (value_of f ≡ i) × RecordBreaks bs (number f) i
broken_if_some bs i f e = grind (arith, nat_tests)

-- the first fault of a record is the first rule that the records break
first_broken : (bs : List ℕ) (f : TableFault) → first_there (record_fault bs (states bs) (settings bs)) 0 (count bs) ≡ Some f
    → (value_of f < count bs) × ((i : ℕ) → i < value_of f → SoundRecord bs i) × RecordBreaks bs (number f) (value_of f)
first_broken bs f e =
    let found = found_there _ 0 (count bs) f e in
    let d = broken_if_some bs found.place f found.there in
    rw d.0 (omega (arith, found.within), λ i h. sound_if_none bs i (found.before i (omega arith) h), d.1)

-- an accepted file obeys the rules, and its last record gives N and K
pub accepted : (bs : List ℕ) (s : Sizes) → checked bs ≡ Ok s → ObeysRules bs × (s ≡ shape bs)
accepted bs s e =
    let p : WholeRecords bs × Complete bs × (first_there (record_fault bs (states bs) (settings bs)) 0 (count bs) ≡ None) × (s ≡ shape bs) = grind (arith, nat_tests) in
    (record { whole_records = p.0; complete = p.1; sound_records = λ i h. sound_if_none bs i (none_there _ 0 (count bs) p.2 i (omega arith) (omega arith)) }, p.3)

-- a refusal is that of the first rule that the file breaks
pub refused : (bs : List ℕ) (f : TableFault) → checked bs ≡ Err f → FirstBroken bs (number f) (value_of f)
refused bs f e = let b = first_broken bs f in grind (arith, nat_tests)

-- a file that breaks a rule does not obey them all
pub broken_none : (bs : List ℕ) (n v : ℕ) → ObeysRules bs → FirstBroken bs n v → ⊥
broken_none bs n v o b = let s = o.sound_records v in grind (arith, nat_tests)

-- the file with these bytes
abbrev pub file_of : List ℕ → File
file_of bs = record { bytes = bs; states = states bs; settings = settings bs }

steps : (bs : List ℕ) → ObeysRules bs → StepsAsRecorded bs (table (file_of bs))
steps bs o i h =
    let k = settings bs in
    let order = (o.sound_records i h).0 in
    let some : 0 < k = omega arith in
    let few : i < states bs * k = omega (arith, o.complete.1) in
    let s : (record_at bs i).state < states bs = omega (arith, order.0, div_below i k (states bs) some few) in
    let t : (record_at bs i).setting < k = omega (arith, order.1, mod_below i k some) in
    let place : (record_at bs i).state * k + (record_at bs i).setting ≡ i = rw (order.0, order.1) (div-add-mod' i k) in
    step_granted (table (file_of bs)) (record_at bs i).state (record_at bs i).setting (lt-ltb _ _ s) t
    ∙ ap (λ (j : ℕ). Ok ((record_at bs j).mark, (record_at bs j).next)) place

-- what a table owes its reader
pub record Kept (bs : List ℕ) (n k : ℕ) : Type 0 where
  pub complete : length bs ≡ record_bytes * (n * k)
  pub next_known : (i : ℕ) → i < n * k → (record_at bs i).next < n
  pub small_marks : (i : ℕ) → i < n * k → (record_at bs i).mark ≤ 1000

pub keeps : (bs : List ℕ) (s : Sizes) → checked bs ≡ Ok s → Kept bs s.states s.settings
keeps bs s e =
    let a = accepted bs s e in
    let o = a.0 in
    rw a.1 (record {
      complete = omega (arith, o.whole_records.1, o.complete.1);
      next_known = λ i h. (o.sound_records i (omega (arith, o.complete.1))).1;
      small_marks = λ i h. (o.sound_records i (omega (arith, o.complete.1))).2;
    })

pub reads_accepted : (bs : List ℕ) (s : Sizes) (t : Table) → checked bs ≡ Ok s → file t ≡ record { bytes = bs; states = s.states; settings = s.settings } → Reads bs (Ok t)
reads_accepted bs s t e is =
    let a = accepted bs s e in
    let same : file t ≡ file_of bs = cc a.1 in
    record {
      value = ap Ok is ∙ sym (ap (with_bytes bs) e);
      accepted_if_rules_obeyed = λ _. refl;
      rules_obeyed_if_accepted = λ _. a.0;
      refused_by_first_broken = tt;
      steps_as_recorded = subst (λ f. StepsAsRecorded bs (table f)) (sym same) (steps bs a.0);
    }

pub reads_refused : (bs : List ℕ) (f : TableFault) → checked bs ≡ Err f → Reads bs (Err f)
reads_refused bs f e =
    record {
      value = sym (ap (with_bytes bs) e);
      accepted_if_rules_obeyed = λ o. absurd (broken_none bs _ _ o (refused bs f e));
      rules_obeyed_if_accepted = λ no. absurd (false≢true no);
      refused_by_first_broken = refused bs f e;
      steps_as_recorded = tt;
    }
