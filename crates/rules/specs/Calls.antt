-- The seven calls of a station: each is one definition that gives the answer and the station after it.
use Rattle.std.specs.Prelude.{ℕ, ◌-◌, Bool, false, cond, ◌||◌, List, [], ◌∷◌, ◌++◌, length, take, drop, Some, None, Ok, Err, Option, Result, ◌==◌, nat_le, nat_lt, slice_index}
use Rattle.model.specs.Meaning.{Meaning, step}
use Rattle.model.specs.Walk.{walk}
use Rattle.model.specs.declared.fault.ModelFault.{ModelFault}
use Rattle.model.specs.declared.walking.WalkFault.{WalkFault}
use Rattle.reckoning.specs.Meaning.{Meaning as Reckoning}
use Rattle.reckoning.specs.Worths.{low_worth}
use Rattle.rules.specs.Limits.{most_kept}
use Rattle.rules.specs.Faults.{refusal, step_refused, shut_by, step_at, other_settings}
use Rattle.rules.specs.Sequences.{Start, last_setting}
use Rattle.rules.specs.Trees.{Node, root}
use Rattle.rules.specs.Leaves.{plan, promise, gap, reach, expansions}
use Rattle.rules.specs.Work.{work}
use Rattle.rules.specs.Station.{Search, Station, View, Closed, Live, settings_of, marks_of, rows_of, row_at, is_open}
use Rattle.rules.specs.declared.answers.Report.{Report}
use Rattle.rules.specs.declared.answers.Row.{Row}
use Rattle.rules.specs.declared.answers.Stop.{Stop}
use Rattle.rules.specs.declared.answers.Taken.{Taken}
use Rattle.rules.specs.declared.fault.CallName.{CallName}
use Rattle.rules.specs.declared.fault.CallName.TheVariants.{Begin, Work, Issue}
use Rattle.rules.specs.declared.fault.StationFault.{StationFault}
use Rattle.rules.specs.declared.fault.StepFault.{StepFault}

-- The answer of a call and the station after it.
abbrev pub Outcome : Type 0 → Type 0 → Type 0
Outcome A S = Result A StationFault × Station S

-- a refused call changes nothing
abbrev pub unless : {A S : Type 0} → Option StationFault → Station S → Outcome A S → Outcome A S
unless None st out = out
unless (Some e) st out = (Err e, st)

-- the same station with another search, or none
abbrev pub with_search : {S : Type 0} → Station S → Option (Search S) → Station S
with_search st q = record { settings = st.settings; cells = st.cells; limit = st.limit; present = st.present; last = st.last; rows = st.rows; search = q }

-- 19 if the model's K is not the making's
abbrev pub same_settings : {S : Type 0} → Meaning S → Station S → CallName → Option StationFault
same_settings m st call = cond (m.settings == st.settings) None (Some (other_settings call))

-- Begin. It keeps the first rows, steps the model over them to the predicted end, and opens a search there.
abbrev pub kept_settings : {S : Type 0} → ℕ → Station S → List ℕ
kept_settings keep st = settings_of (take keep st.rows)

abbrev pub start_at : {S : Type 0} → ℕ → Station S → S → Start S
start_at keep st end = record { state = end; before = last_setting st.last (kept_settings keep st); limit = st.limit }

abbrev pub begin_leaves : {S : Type 0} → Reckoning → ℕ → Station S → S → Station S
begin_leaves r keep st end =
    let start = start_at keep st end in
    with_search st (Some (record { kept = keep; start = start; tree = root r.ceiling start ∷ [] }))

abbrev pub opened : {S : Type 0} → Reckoning → ℕ → Station S → Result S WalkFault → Outcome ℕ S
opened r keep st (Ok end) = (Ok (length st.rows - keep), begin_leaves r keep st end)
opened r keep st (Err f) = (Err (step_refused Begin (step_at f.place (slice_index (kept_settings keep st) f.place) f.fault)), st)

abbrev pub begun : {S : Type 0} → Meaning S → Reckoning → ℕ → Station S → Outcome ℕ S
begun m r keep st =
    unless (cond (is_open st.search) (Some (refusal 14)) None) st
    (unless (cond (nat_lt most_kept keep || nat_lt (length st.rows) keep) (Some (refusal 16)) None) st
    (unless (same_settings m st Begin) st
    (opened r keep st (walk m st.present (kept_settings keep st)))))

-- Work. The refusal of a step leaves the expansions before it.
abbrev pub report : {S : Type 0} → List (Node S) → List (Node S) → Stop → Report
report before tree stop = record {
  stop = stop;
  expansions = expansions tree - expansions before;
  search_expansions = expansions tree;
  nodes = length tree;
  reach = reach tree;
  promise = promise tree;
  gap = gap tree;
}

abbrev pub reported : {S : Type 0} → List (Node S) → List (Node S) → Result Stop StepFault → Result Report StationFault
reported before tree (Ok stop) = Ok (report before tree stop)
reported before tree (Err f) = Err (step_refused Work f)

abbrev pub work_leaves : {S : Type 0} → Station S → Search S → List (Node S) → Station S
work_leaves st q tree = with_search st (Some (record { kept = q.kept; start = q.start; tree = tree }))

abbrev pub worked_in : {S : Type 0} → Meaning S → Reckoning → ℕ → Option ℕ → Station S → Option (Search S) → Outcome Report S
worked_in m r number wanted st None = (Err (refusal 15), st)
worked_in m r number wanted st (Some q) =
    let w = work m r q.start st.cells wanted number q.tree in
    unless (same_settings m st Work) st
    (reported q.tree w.tree w.end, work_leaves st q w.tree)

abbrev pub worked : {S : Type 0} → Meaning S → Reckoning → ℕ → Option ℕ → Station S → Outcome Report S
worked m r number wanted st = worked_in m r number wanted st st.search

-- Take. The plan replaces the rows behind the kept ones if its promise is at least their low worth.
abbrev pub standing : {S : Type 0} → Reckoning → Station S → Search S → ℕ
standing r st q = low_worth r (marks_of (drop q.kept st.rows))

abbrev pub replaces : {S : Type 0} → Reckoning → Station S → Search S → Bool
replaces r st q = nat_le (standing r st q) (promise q.tree)

abbrev pub planned_rows : {S : Type 0} → Search S → List Row
planned_rows q = let p = plan q.start q.tree in rows_of p.settings p.marks

abbrev pub rows_taken : {S : Type 0} → Reckoning → Station S → Search S → List Row
rows_taken r st q = cond (replaces r st q) (take q.kept st.rows ++ planned_rows q) st.rows

abbrev pub take_answer : {S : Type 0} → Reckoning → Station S → Search S → Taken
take_answer r st q = record { replaced = replaces r st q; promise = promise q.tree; standing = standing r st q; gap = gap q.tree }

abbrev pub take_leaves : {S : Type 0} → Reckoning → Station S → Search S → Station S
take_leaves r st q = record { settings = st.settings; cells = st.cells; limit = st.limit; present = st.present; last = st.last; rows = rows_taken r st q; search = None }

abbrev pub taken_from : {S : Type 0} → Reckoning → Station S → Option (Search S) → Outcome Taken S
taken_from r st None = (Err (refusal 15), st)
taken_from r st (Some q) =
    unless (cond (expansions q.tree == 0) (Some (refusal 17)) None) st
    (Ok (take_answer r st q), take_leaves r st q)

abbrev pub taken : {S : Type 0} → Reckoning → Station S → Outcome Taken S
taken r st = taken_from r st st.search

-- Abandon closes the search.
abbrev pub abandoned : {S : Type 0} → Station S → Outcome (Unit {0}) S
abandoned st = unless (cond (is_open st.search) None (Some (refusal 15))) st (Ok tt, with_search st None)

-- Issue. During a search only kept rows are issued, and their count falls by one.
abbrev pub none_kept : {S : Type 0} → Option (Search S) → Bool
none_kept None = false
none_kept (Some q) = q.kept == 0

abbrev pub one_less_kept : {S : Type 0} → Option (Search S) → Option (Search S)
one_less_kept None = None
one_less_kept (Some q) = Some (record { kept = q.kept - 1; start = q.start; tree = q.tree })

abbrev pub issue_leaves : {S : Type 0} → Station S → Row → List Row → S → Station S
issue_leaves st w rest next = record { settings = st.settings; cells = st.cells; limit = st.limit; present = next; last = Some w.setting; rows = rest; search = one_less_kept st.search }

abbrev pub row_issued : {S : Type 0} → Station S → Row → List Row → Result (ℕ × S) ModelFault → Outcome Row S
row_issued st w rest (Ok p) = (Ok w, issue_leaves st w rest p.1)
row_issued st w rest (Err f) = (Err (step_refused Issue (step_at 0 w.setting f)), st)

abbrev pub issued_from : {S : Type 0} → Meaning S → Station S → List Row → Outcome Row S
issued_from m st [] = (Err (refusal 18), st)
issued_from m st (w ∷ rest) =
    unless (cond (none_kept st.search) (Some (refusal 18)) None) st
    (unless (same_settings m st Issue) st
    (row_issued st w rest (step m st.present w.setting)))

abbrev pub issued : {S : Type 0} → Meaning S → Station S → Outcome Row S
issued m st = issued_from m st st.rows

-- Observe. The same state changes nothing; another drops all rows and closes any search.
abbrev pub moved_to : {S : Type 0} → S → Station S → Station S
moved_to s st = record { settings = st.settings; cells = st.cells; limit = st.limit; present = s; last = st.last; rows = []; search = None }

abbrev pub observed : {S : Type 0} → Meaning S → S → Station S → Outcome (Unit {0}) S
observed m s st =
    unless (cond (m.known s) None (Some (refusal 11))) st
    (Ok tt, cond (m.same st.present s) st (moved_to s st))

-- Row.
abbrev pub row_read : {S : Type 0} → ℕ → Station S → Outcome (Option Row) S
row_read number st = (Ok (row_at st.rows number), st)

-- A call with what it is given.
pub data Call (S : Type 0) : Type 0 where
  begin_call : ℕ → Call S
  work_call : ℕ → Option ℕ → Call S
  take_call : Call S
  abandon_call : Call S
  issue_call : Call S
  observe_call : S → Call S
  row_call : ℕ → Call S

-- what a call answers when it is granted
abbrev pub Answer : {S : Type 0} → Call S → Type 0
Answer (begin_call keep) = ℕ
Answer (work_call number wanted) = Report
Answer take_call = Taken
Answer abandon_call = Unit {0}
Answer issue_call = Row
Answer (observe_call s) = Unit {0}
Answer (row_call number) = Option Row

-- a call of a live station, with a model and a reckoning
abbrev pub outcome : {S : Type 0} → Meaning S → Reckoning → (c : Call S) → Station S → Outcome (Answer c) S
outcome m r (begin_call keep) st = begun m r keep st
outcome m r (work_call number wanted) st = worked m r number wanted st
outcome m r take_call st = taken r st
outcome m r abandon_call st = abandoned st
outcome m r issue_call st = issued m st
outcome m r (observe_call s) st = observed m s st
outcome m r (row_call number) st = row_read number st

-- A call of any station: one that is shut refuses every call by 20.
abbrev pub answer : {S : Type 0} → Meaning S → Reckoning → (c : Call S) → View S → Result (Answer c) StationFault
answer m r c (Closed cause) = Err (shut_by cause)
answer m r c (Live st) = (outcome m r c st).0

abbrev pub after : {S : Type 0} → Meaning S → Reckoning → Call S → View S → View S
after m r c (Closed cause) = Closed cause
after m r c (Live st) = Live (outcome m r c st).1
