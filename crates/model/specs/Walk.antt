-- Walking a model over a list of settings.
use Rattle.std.specs.Prelude.{◌≡◌, ℕ, ◌+◌, ◌<◌, true, List, [], ◌∷◌, length, Ok, Err, Result, MatchResult, slice_index}
use Rattle.model.specs.declared.fault.ModelFault.{ModelFault}
use Rattle.model.specs.declared.walking.WalkFault.{WalkFault}
use Rattle.model.specs.Faults.{number, layers}
use Rattle.model.specs.Meaning.{Meaning, step}

-- the state that a step leads to; a refusal is told with the place of its step
abbrev pub at_place : {S : Type 0} → ℕ → Result (ℕ × S) ModelFault → Result S WalkFault
at_place place (Ok p) = Ok p.1
at_place place (Err e) = Err (record { fault = e; place = place })

-- what f makes of an answer; a refusal stays
abbrev pub onward : {A B E : Type 0} → Result A E → (A → Result B E) → Result B E
onward (Ok a) f = f a
onward (Err e) f = Err e

-- from the state s over the settings ks, the first of which stands at `place`:
-- the end state, or the first refusal with its place
abbrev pub walk_from : {S : Type 0} → Meaning S → ℕ → S → List ℕ → Result S WalkFault
walk_from m place s [] = Ok s
walk_from m place s (k ∷ ks) = onward (at_place place (step m s k)) (λ t. walk_from m (place + 1) t ks)

abbrev pub walk : {S : Type 0} → Meaning S → S → List ℕ → Result S WalkFault
walk m s ks = walk_from m 0 s ks

-- the refusal's number, layers and place
abbrev pub walk_number : WalkFault → ℕ
walk_number f = number f.fault

abbrev pub walk_layers : WalkFault → ℕ
walk_layers f = layers f.fault

abbrev pub walk_place : WalkFault → ℕ
walk_place f = f.place

-- From a known state every setting below K can be walked, and the end is known.
abbrev pub WalksToKnown : {S : Type 0} → Meaning S → S → List ℕ → Result S WalkFault → Type 0
WalksToKnown m s ks r =
    m.known s ≡ true → ((i : ℕ) → i < length ks → slice_index ks i < m.settings) → MatchResult r (λ t. m.known t ≡ true) (λ _. ⊥)
