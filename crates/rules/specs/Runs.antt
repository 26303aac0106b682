-- Runs of a station: calls one after the other, by the calls' own definitions.
use Rattle.std.specs.Prelude.{◌≡◌, ℕ, List, [], ◌∷◌, ◌++◌, map, Some, None, Ok, Err, Option, Result}
use Rattle.model.specs.Meaning.{Meaning}
use Rattle.reckoning.specs.Meaning.{Meaning as Reckoning}
use Rattle.rules.specs.Trees.{or_else}
use Rattle.rules.specs.Station.{Search, Station, View, Closed, Live, marks_of}
use Rattle.rules.specs.Calls.{Call, begin_call, work_call, take_call, abandon_call, issue_call, observe_call, row_call, Answer, answer, after}
use Rattle.rules.specs.declared.fault.StationFault.{StationFault}

-- A call with the model and the reckoning that it is handed.
pub record Turn (S : Type 0) : Type 0 where
  pub model : Meaning S
  pub reckoning : Reckoning
  pub call : Call S

-- calls that are all handed this model and this reckoning
abbrev pub all_with : {S : Type 0} → Meaning S → Reckoning → List (Call S) → List (Turn S)
all_with m r calls = map (λ c. record { model = m; reckoning = r; call = c }) calls

-- the station after a run
abbrev pub run : {S : Type 0} → List (Turn S) → View S → View S
run [] v = v
run (t ∷ turns) v = run turns (after t.model t.reckoning t.call v)

-- the mark that a granted issue answers, and the gap that a granted take answers
abbrev pub mark_answered : {S : Type 0} → (c : Call S) → Answer c → List ℕ
mark_answered (begin_call keep) a = []
mark_answered (work_call number wanted) a = []
mark_answered take_call a = []
mark_answered abandon_call a = []
mark_answered issue_call a = a.mark ∷ []
mark_answered (observe_call s) a = []
mark_answered (row_call number) a = []

abbrev pub gap_answered : {S : Type 0} → (c : Call S) → Answer c → Option ℕ
gap_answered (begin_call keep) a = None
gap_answered (work_call number wanted) a = None
gap_answered take_call a = Some a.gap
gap_answered abandon_call a = None
gap_answered issue_call a = None
gap_answered (observe_call s) a = None
gap_answered (row_call number) a = None

abbrev pub mark_given : {S : Type 0} → (c : Call S) → Result (Answer c) StationFault → List ℕ
mark_given c (Ok a) = mark_answered c a
mark_given c (Err e) = []

abbrev pub gap_given : {S : Type 0} → (c : Call S) → Result (Answer c) StationFault → Option ℕ
gap_given c (Ok a) = gap_answered c a
gap_given c (Err e) = None

-- What was issued in a run: the marks that issue answered, in order.
abbrev pub marks_issued : {S : Type 0} → List (Turn S) → View S → List ℕ
marks_issued [] v = []
marks_issued (t ∷ turns) v =
    mark_given t.call (answer t.model t.reckoning t.call v) ++ marks_issued turns (after t.model t.reckoning t.call v)

-- the gap of the first granted take of a run
abbrev pub first_gap : {S : Type 0} → List (Turn S) → View S → Option ℕ
first_gap [] v = None
first_gap (t ∷ turns) v =
    or_else (gap_given t.call (answer t.model t.reckoning t.call v)) (first_gap turns (after t.model t.reckoning t.call v))

-- What is planned: the marks of the rows.
abbrev pub marks_planned : {S : Type 0} → View S → List ℕ
marks_planned (Closed cause) = []
marks_planned (Live st) = marks_of st.rows

-- whether a call that is no observe, or leaves the station as it is
abbrev pub ObservesNothingElse : {S : Type 0} → Meaning S → Reckoning → Call S → View S → Type 0
ObservesNothingElse m r (begin_call keep) v = Unit {0}
ObservesNothingElse m r (work_call number wanted) v = Unit {0}
ObservesNothingElse m r take_call v = Unit {0}
ObservesNothingElse m r abandon_call v = Unit {0}
ObservesNothingElse m r issue_call v = Unit {0}
ObservesNothingElse m r (observe_call s) v = after m r (observe_call s) v ≡ v
ObservesNothingElse m r (row_call number) v = Unit {0}

-- no observe of the run changes the station; a run without an observe is one
abbrev pub NeverMoved : {S : Type 0} → List (Turn S) → View S → Type 0
NeverMoved [] v = Unit {0}
NeverMoved (t ∷ turns) v =
    ObservesNothingElse t.model t.reckoning t.call v × NeverMoved turns (after t.model t.reckoning t.call v)

-- what is so of the open search, where one is open
abbrev pub OnOpen : {S : Type 0} → (Search S → Type 0) → Option (Search S) → Type 0
OnOpen P None = Unit {0}
OnOpen P (Some q) = P q

abbrev pub WheneverOpen : {S : Type 0} → (Station S → Search S → Type 0) → View S → Type 0
WheneverOpen P (Closed cause) = Unit {0}
WheneverOpen P (Live st) = OnOpen (P st) st.search
