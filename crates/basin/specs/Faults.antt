-- The refusal of a basin's parameters, by its number and the number of the parameter.
use Rattle.std.specs.Prelude.{◌≡◌, ℕ}
use Rattle.basin.specs.declared.fault.BadParameter.{BadParameter}

-- 8: a parameter is out of range
abbrev pub number : BadParameter → ℕ
number _ = 8

-- the number of that parameter, from 1
abbrev pub parameter : BadParameter → ℕ
parameter f = f.parameter

-- refusal 8 with this parameter's number
abbrev pub refusal_8 : ℕ → BadParameter
refusal_8 n = record { parameter = n }

-- what the rules call refusal 8 answers that number, and its parameter
abbrev pub RefusalsNumbered : Type 0
RefusalsNumbered = (n : ℕ) → (number (refusal_8 n) ≡ 8) × (parameter (refusal_8 n) ≡ n)
