-- The refusals of searches and stations by their numbers, and what is returned with them.
use Rattle.std.specs.Prelude.{◌≡◌, ℕ, cond, Some, None, Option, ◌==◌}
use Rattle.model.specs.Faults.{number as model_number, layers as model_layers, refusal as model_refusal}
use Rattle.model.specs.declared.fault.ModelFault.{ModelFault}
use Rattle.rules.specs.declared.fault.CallName.{CallName}
use Rattle.rules.specs.declared.fault.Cause.{Cause}
use Rattle.rules.specs.declared.fault.Cause.TheVariants.{UnknownState as Unknown, LimitTooHigh, TooFewCells}
use Rattle.rules.specs.declared.fault.StepFault.{StepFault}
use Rattle.rules.specs.declared.fault.StationFault.{StationFault}
use Rattle.rules.specs.declared.fault.StationFault.TheVariants.{UnknownState, SearchOpen, NoSearch, KeepTooLarge, NothingExpanded, NothingToIssue, StepRefused, Shut}

-- why a making left its station shut
abbrev pub cause_number : Cause → ℕ
cause_number Unknown = 11
cause_number LimitTooHigh = 12
cause_number TooFewCells = 13

-- the cause with this number
abbrev pub cause : ℕ → Cause
cause n = cond (n == 11) Unknown (cond (n == 12) LimitTooHigh TooFewCells)

-- the number of a refusal
abbrev pub number : StationFault → ℕ
number UnknownState = 11
number SearchOpen = 14
number NoSearch = 15
number KeepTooLarge = 16
number NothingExpanded = 17
number NothingToIssue = 18
number (StepRefused step call) = 19
number (Shut cause) = 20

-- the refusal with this number, 11 or 14 to 18, with which nothing is returned
abbrev pub refusal : ℕ → StationFault
refusal n =
    cond (n == 11) UnknownState
    (cond (n == 14) SearchOpen
    (cond (n == 15) NoSearch
    (cond (n == 16) KeepTooLarge
    (cond (n == 17) NothingExpanded NothingToIssue))))

-- refusal 19: a call met the refusal of a step
abbrev pub step_refused : CallName → StepFault → StationFault
step_refused call step = StepRefused step call

-- refusal 20: the station is shut by this cause
abbrev pub shut_by : Cause → StationFault
shut_by cause = Shut cause

-- a model's fault at a row or node, under a setting
abbrev pub step_at : ℕ → ℕ → ModelFault → StepFault
step_at place setting fault = record { fault = fault; place = place; setting = setting }

-- refusal 19 where the model's K is not the making's: fault 2 with 0 layers, and places 0
abbrev pub other_settings : CallName → StationFault
other_settings call = step_refused call (step_at 0 0 (model_refusal 2 0))

-- what is returned with 19: the model's refusal and its layers, the row or node and the setting, and the call
abbrev pub step_number : StepFault → ℕ
step_number f = model_number f.fault

abbrev pub step_layers : StepFault → ℕ
step_layers f = model_layers f.fault

abbrev pub step_of : StationFault → Option StepFault
step_of UnknownState = None
step_of SearchOpen = None
step_of NoSearch = None
step_of KeepTooLarge = None
step_of NothingExpanded = None
step_of NothingToIssue = None
step_of (StepRefused step call) = Some step
step_of (Shut cause) = None

abbrev pub call_of : StationFault → Option CallName
call_of UnknownState = None
call_of SearchOpen = None
call_of NoSearch = None
call_of KeepTooLarge = None
call_of NothingExpanded = None
call_of NothingToIssue = None
call_of (StepRefused step call) = Some call
call_of (Shut cause) = None

-- what is returned with 20
abbrev pub cause_of : StationFault → Option Cause
cause_of UnknownState = None
cause_of SearchOpen = None
cause_of NoSearch = None
cause_of KeepTooLarge = None
cause_of NothingExpanded = None
cause_of NothingToIssue = None
cause_of (StepRefused step call) = None
cause_of (Shut cause) = Some cause

-- the same refusal, with this call if it is 19
abbrev pub named : CallName → StationFault → StationFault
named name UnknownState = UnknownState
named name SearchOpen = SearchOpen
named name NoSearch = NoSearch
named name KeepTooLarge = KeepTooLarge
named name NothingExpanded = NothingExpanded
named name NothingToIssue = NothingToIssue
named name (StepRefused step call) = StepRefused step name
named name (Shut cause) = Shut cause

-- What the rules call refusal 11 and so on has that number, and 19 and 20 return what they were made with.
pub record RefusalsNumbered : Type 0 where
  pub alone : (number (refusal 11) ≡ 11) × (number (refusal 14) ≡ 14) × (number (refusal 15) ≡ 15) × (number (refusal 16) ≡ 16) × (number (refusal 17) ≡ 17) × (number (refusal 18) ≡ 18)
  pub causes : (cause_number (cause 11) ≡ 11) × (cause_number (cause 12) ≡ 12) × (cause_number (cause 13) ≡ 13)
  pub of_step : (call : CallName) (step : StepFault) →
      (number (step_refused call step) ≡ 19) × (step_of (step_refused call step) ≡ Some step) × (call_of (step_refused call step) ≡ Some call)
  pub of_shut : (c : Cause) → (number (shut_by c) ≡ 20) × (cause_of (shut_by c) ≡ Some c)
  pub of_other_settings : (call : CallName) → step_of (other_settings call) ≡ Some (step_at 0 0 (model_refusal 2 0))
