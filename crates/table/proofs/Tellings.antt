-- The text for a file, in the words of the rules.
use Rattle.std.proofs.Common.{◌≡◌, ℕ, ◌+◌, ◌%◌, ◌≤◌, false, eqb, List, length, take, Ok, Err, Result, refl, ap, ◌∙◌, arith}
use Rattle.std.proofs.lemmas.List.{take_all, length-take-le}
use Rattle.std.proofs.lemmas.Bool.{and_right, cond-false}
use Rattle.table.specs.Faults.{number, value as value_of, refusal}
use Rattle.table.specs.Layout.{record_bytes}
use Rattle.table.specs.Rules.{ObeysRules, FirstBroken}
use Rattle.table.specs.Reading.{Sizes, whole, checked, with_bytes, read}
use Rattle.table.specs.Listing.{most_bytes, refused_line, table_text, read_text, listing, Tells}
use Rattle.table.specs.declared.fault.TableFault.{TableFault}
use Rattle.table.proofs.Decisions.{accepted, refused, broken_none, file_of}

-- 65,537 bytes are no whole number of records
long_read : (bs : List ℕ) → length bs ≡ most_bytes + 1 → read bs ≡ Err (refusal 3 (most_bytes + 1))
long_read bs e =
    let odd : eqb (length bs % record_bytes) 0 ≡ false = ap (λ (n : ℕ). eqb (n % record_bytes) 0) e in
    ap (with_bytes bs) (cond-false (whole bs) _ (Err (refusal 3 (length bs))) (and_right _ _ odd) ∙ ap (λ (n : ℕ). Err (refusal 3 n)) e)

accepted_told : (bs : List ℕ) (c : Result Sizes TableFault) → checked bs ≡ c → ObeysRules bs → read_text (with_bytes bs c) ≡ table_text (file_of bs)
accepted_told bs (Ok s) e o = rw (accepted bs s e).1
accepted_told bs (Err f) e o = absurd (broken_none bs _ _ o (refused bs f e))

refused_told : (bs : List ℕ) (c : Result Sizes TableFault) → checked bs ≡ c → (ObeysRules bs → ⊥)
    → (n : ℕ) × (v : ℕ) × FirstBroken bs n v × (read_text (with_bytes bs c) ≡ refused_line n v)
refused_told bs (Ok s) e no_rules = absurd (no_rules (accepted bs s e).0)
refused_told bs (Err f) e no_rules = (number f, value_of f, refused bs f e, refl)

pub tells : (bs text : List ℕ) → text ≡ listing bs → Tells bs text
tells bs text e =
    let short : length bs ≤ most_bytes → listing bs ≡ read_text (read bs) = λ h. ap (λ x. read_text (read x)) (take_all (most_bytes + 1) bs (omega arith)) in
    record {
      value = e;
      long_refused = λ h. e ∙ ap read_text (long_read (take (most_bytes + 1) bs) (length-take-le (most_bytes + 1) bs (omega arith)));
      accepted_told = λ h o. e ∙ short h ∙ accepted_told bs (checked bs) refl o;
      refused_told = λ h o. let t = refused_told bs (checked bs) refl o in (t.0, t.1, t.2, e ∙ short h ∙ t.3);
    }
