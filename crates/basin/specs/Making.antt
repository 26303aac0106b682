-- Making a basin from its parameters, or the refusal of the first that is out of range.
use Rattle.std.specs.Prelude.{◌≡◌, ℕ, ◌<◌, ◌≤◌, true, List, length, take, is_ok, Some, None, Ok, Err, Option, Result, MatchResult}
use Rattle.basin.specs.Faults.{refusal_8, parameter}
use Rattle.model.specs.First.{first_false}
use Rattle.basin.specs.Ranges.{Parameters, ranges, ParameterInRange}
use Rattle.basin.specs.declared.fault.BadParameter.{BadParameter}
use Rattle.basin.specs.declared.metres.Basin.{Basin}
use Rattle.basin.specs.declared.metres.CostedSetting.{CostedSetting}
use Rattle.basin.specs.declared.metres.Measures.{Measures}

-- these as the parameters of a basin
abbrev pub given_parameters : Measures → List CostedSetting → Parameters
given_parameters m settings = record { depth = m.depth; target = m.target; band = m.band; fade = m.fade; settings = settings }

-- the parameters that a basin was made with
abbrev pub parameters : Basin → Parameters
parameters b = given_parameters b.measures (take b.count b.settings)

-- a value, or refusal 8 with the number of the first parameter that is out of range
abbrev pub judged : {A : Type 0} → Option ℕ → A → Result A BadParameter
judged None a = Ok a
judged (Some n) a = Err (refusal_8 n)

-- the parameters, if they are all in range
abbrev pub made : Parameters → Result Parameters BadParameter
made p = judged (first_false 1 (ranges p)) p

-- an answer seen through f; a refusal stays
abbrev pub viewed : {A B E : Type 0} → (A → B) → Result A E → Result B E
viewed f (Ok a) = Ok (f a)
viewed f (Err e) = Err e

-- every parameter is in range
abbrev pub AllInRange : Parameters → Type 0
AllInRange p = (i : ℕ) → 1 ≤ i → i ≤ length (ranges p) → ParameterInRange p i

-- the parameters are accepted if all are in range, and only then
abbrev pub AcceptedIfAllInRange : Parameters → Result Parameters BadParameter → Type 0
AcceptedIfAllInRange p r = (AllInRange p → is_ok r ≡ true) × (is_ok r ≡ true → AllInRange p)

-- the parameter of a refusal is out of range, and all before it are in range
abbrev pub RefusedAtFirstOutOfRange : Parameters → Result Parameters BadParameter → Type 0
RefusedAtFirstOutOfRange p r =
    MatchResult r (λ _. Unit {0})
    (λ e. (1 ≤ parameter e) × (parameter e ≤ length (ranges p)) × (ParameterInRange p (parameter e) → ⊥) × ((i : ℕ) → 1 ≤ i → i < parameter e → ParameterInRange p i))
