-- The refusals of a step by their numbers, and the layers that they passed.
use Rattle.std.specs.Prelude.{◌≡◌, ℕ, ◌+◌, min, cond, ◌==◌}
use Rattle.model.specs.declared.fault.ModelFault.{ModelFault}
use Rattle.model.specs.declared.fault.ModelFault.TheVariants.{UnknownState, UnknownSetting}

-- 1: the state is unknown; 2: the setting is K or more
abbrev pub number : ModelFault → ℕ
number (UnknownState n) = 1
number (UnknownSetting n) = 2

-- the layers passed: 0 where the refusal arose, one more for each model above
abbrev pub layers : ModelFault → ℕ
layers (UnknownState n) = n
layers (UnknownSetting n) = n

-- the refusal with this number and these layers
abbrev pub refusal : ℕ → ℕ → ModelFault
refusal number layers = cond (number == 1) (UnknownState layers) (UnknownSetting layers)

-- `refusal` and `number` agree: what the rules call refusal 1 or 2 answers that number, and its layers
abbrev pub RefusalsNumbered : Type 0
RefusalsNumbered = (n : ℕ) → (number (refusal 1 n) ≡ 1) × (number (refusal 2 n) ≡ 2) × (layers (refusal 1 n) ≡ n) × (layers (refusal 2 n) ≡ n)

-- one layer more, never above 255
abbrev pub one_more : ℕ → ℕ
one_more n = min (n + 1) 255

-- a refusal as the model above gives it
abbrev pub handed_up : ModelFault → ModelFault
handed_up (UnknownState n) = UnknownState (one_more n)
handed_up (UnknownSetting n) = UnknownSetting (one_more n)
