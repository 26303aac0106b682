-- A table meets what every model owes.
use Rattle.std.specs.Prelude.{ℕ, ◌+◌, ◌*◌, ◌<◌, refl}
use Rattle.std.proofs.Common.{arith}
use Rattle.std.proofs.lemmas.Nat.{mul-add-lt}
use Rattle.std.proofs.lemmas.Bool.{ltb-true, lt-ltb, eq-eqb}
use Rattle.model.specs.Meaning.{Laws}
use Rattle.table.specs.Tables.{file, table}
use Rattle.table.specs.declared.records.Table.{Table}

-- the record of a known state and a setting below K lies in the table
pub within : (n w s k : ℕ) → s < n → k < w → s * w + k < n * w
within n w s k h l = omega (arith, mul-add-lt s w k n h l)

pub table_laws : (t : Table) → Laws ℕ (table (file t))
table_laws t =
    let z = t.shape in
    let place : (s k : ℕ) → s < z.states → k < z.settings → s * z.settings + k < z.states * z.settings = within z.states z.settings in
    record {
      one_setting = z.one_setting;
      few_settings = z.few_settings;
      small_marks = λ s k e l. t.small_marks (s * z.settings + k) (place s k (ltb-true s z.states e) l);
      next_known = λ s k e l. lt-ltb _ _ (t.next_known (s * z.settings + k) (place s k (ltb-true s z.states e) l));
      same_itself = λ s e. eq-eqb s s refl;
      few_layers = λ s k. omega arith;
    }
