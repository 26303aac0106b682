-- What a model means: its settings, its known states, and the mark and the next state of each step.
use Rattle.std.specs.Prelude.{◌≡◌, ℕ, ◌<◌, ◌≤◌, Bool, true, cond, Ok, Err, Result, nat_lt}
use Rattle.model.specs.Faults.{refusal}
use Rattle.model.specs.declared.fault.ModelFault.{ModelFault}

-- the most settings that a model has, and its highest mark
abbrev pub most_settings : ℕ
most_settings = 16

abbrev pub highest_mark : ℕ
highest_mark = 1000

-- A model over states S (in the field's terms: a deterministic decision process).
pub record Meaning (S : Type 0) : Type 0 where
  -- K, the number of settings (actions), which are numbered from 0
  pub settings : ℕ
  -- whether a state is known
  pub known : S → Bool
  -- whether two states are the same, the present one first
  pub same : S → S → Bool
  -- the mark (reward) of a step from a state under a setting
  pub mark : S → ℕ → ℕ
  -- the state that the step leads to
  pub next : S → ℕ → S
  -- the layers of the refusal of that step, where it is refused
  pub layers : S → ℕ → ℕ

-- What every model owes.
pub record Laws (S : Type 0) (m : Meaning S) : Type 0 where
  pub one_setting : 1 ≤ m.settings
  pub few_settings : m.settings ≤ most_settings
  pub small_marks : (s : S) (k : ℕ) → m.known s ≡ true → k < m.settings → m.mark s k ≤ highest_mark
  pub next_known : (s : S) (k : ℕ) → m.known s ≡ true → k < m.settings → m.known (m.next s k) ≡ true
  pub same_itself : (s : S) → m.known s ≡ true → m.same s s ≡ true
  pub few_layers : (s : S) (k : ℕ) → m.layers s k ≤ 255

-- A step from the state s under the setting k: refused by 1 if s is unknown,
-- otherwise by 2 if k is K or more, and never else; else its mark and its next state together.
abbrev pub step : {S : Type 0} → Meaning S → S → ℕ → Result (ℕ × S) ModelFault
step m s k =
    cond (m.known s)
    (cond (nat_lt k m.settings) (Ok (m.mark s k, m.next s k)) (Err (refusal 2 (m.layers s k))))
    (Err (refusal 1 (m.layers s k)))
