-- A refused call changes nothing, except that work keeps the expansions before the refused one.
use Rattle.std.specs.Prelude.{◌≡◌, ℕ, ◌⊎◌, Some, Err}
use Rattle.model.specs.Meaning.{Meaning}
use Rattle.reckoning.specs.Meaning.{Meaning as Reckoning}
use Rattle.rules.specs.Leaves.{expanded_by}
use Rattle.rules.specs.Station.{Search, Station, View, Live}
use Rattle.rules.specs.Calls.{Call, begin_call, work_call, take_call, abandon_call, issue_call, observe_call, row_call, work_leaves, answer, after}
use Rattle.rules.specs.declared.fault.StationFault.{StationFault}

-- the same station but for some expansions of its open search
pub record SomeExpansions {S : Type 0} (m : Meaning S) (r : Reckoning) (before left : View S) : Type 0 where
  pub station : Station S
  pub opened : Search S
  pub made : ℕ
  pub is_station : before ≡ Live station
  pub is_open : station.search ≡ Some opened
  pub is_left : left ≡ Live (work_leaves station opened (expanded_by m r opened.start made opened.tree))

-- what a refusal may leave
abbrev pub LeftByRefusal : {S : Type 0} → Meaning S → Reckoning → Call S → View S → View S → Type 0
LeftByRefusal m r (begin_call keep) before left = left ≡ before
LeftByRefusal m r (work_call number wanted) before left = (left ≡ before) ⊎ SomeExpansions m r before left
LeftByRefusal m r take_call before left = left ≡ before
LeftByRefusal m r abandon_call before left = left ≡ before
LeftByRefusal m r issue_call before left = left ≡ before
LeftByRefusal m r (observe_call s) before left = left ≡ before
LeftByRefusal m r (row_call number) before left = left ≡ before

abbrev pub RefusalsChangeNothing : Type 0 → Type 0
RefusalsChangeNothing S =
    (m : Meaning S) (r : Reckoning) (c : Call S) (v : View S) (e : StationFault) → answer m r c v ≡ Err e → LeftByRefusal m r c v (after m r c v)
