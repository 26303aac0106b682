-- Figures of searches and stations, by runs of calls from a making.
use Rattle.std.specs.Prelude.{◌≡◌, ℕ, true, false, List, [], ◌∷◌, Some, None, Ok, Err, Result}
use Rattle.model.specs.Faults.{refusal as model_refusal}
use Rattle.table.specs.Reading.{File, read}
use Rattle.table.specs.Tables.{table}
use Rattle.reckoning.specs.Kinds.{running_sum, best_moment}
use Rattle.reckoning.specs.Meaning.{Meaning as Reckoning}
use Rattle.rules.specs.Faults.{cause, refusal, step_refused, shut_by, step_at}
use Rattle.rules.specs.Station.{View, Closed, Live, made}
use Rattle.rules.specs.Calls.{Call, begin_call, work_call, take_call, abandon_call, issue_call, observe_call, row_call, Answer, answer}
use Rattle.rules.specs.Runs.{all_with, run, marks_planned}
use Rattle.rules.specs.declared.answers.Report.{Report}
use Rattle.rules.specs.declared.answers.Row.{Row}
use Rattle.rules.specs.declared.answers.Stop.{Stop}
use Rattle.rules.specs.declared.answers.Stop.TheVariants.{Near, Spent, Deep, Full}
use Rattle.rules.specs.declared.fault.CallName.TheVariants.{Begin, Issue}
use Rattle.rules.specs.declared.fault.StationFault.{StationFault}
use Rattle.figures.specs.Figures.{pond}

abbrev sum : Reckoning
sum = running_sum 500

abbrev moment : Reckoning
moment = best_moment 500

-- a station over the pond with enough cells, from state 0, S 1
abbrev pub pond_station : View ℕ
pond_station = made (table pond) 0 1 67

-- what a call answers after others, all with the pond and one reckoning
abbrev pub told : Reckoning → List (Call ℕ) → (c : Call ℕ) → Result (Answer c) StationFault
told r calls c = answer (table pond) r c (run (all_with (table pond) r calls) pond_station)

abbrev report : Stop → ℕ → ℕ → ℕ → ℕ → ℕ → ℕ → Report
report stop now all nodes reach promise gap = record { stop = stop; expansions = now; search_expansions = all; nodes = nodes; reach = reach; promise = promise; gap = gap }

abbrev row : ℕ → ℕ → Row
row setting mark = record { setting = setting; mark = mark }

-- Pond, from state 0, S 1, g 500, nothing before.
pub record SearchFigures : Type 0 where
  -- one expansion of four: the marks 200 and 0
  pub sum_one : told sum (begin_call 0 ∷ []) (work_call 1 None) ≡ Ok (report Spent 1 1 3 0 200000 1000000)
  pub sum_four : told sum (begin_call 0 ∷ []) (work_call 4 None) ≡ Ok (report Spent 4 4 8 2 750000 250000)
  -- one and then three are four
  pub sum_one_and_three : told sum (begin_call 0 ∷ work_call 1 None ∷ []) (work_call 3 None) ≡ Ok (report Spent 3 4 8 2 750000 250000)
  pub moment_three : told moment (begin_call 0 ∷ []) (work_call 3 None) ≡ Ok (report Spent 3 3 7 1 500000 0)
  -- a wanted gap ends work before its number does, and a gap of 0 can be wanted
  pub sum_near : told sum (begin_call 0 ∷ []) (work_call 9 (Some 250000)) ≡ Ok (report Near 4 4 8 2 750000 250000)
  pub moment_near : told moment (begin_call 0 ∷ []) (work_call 9 (Some 0)) ≡ Ok (report Near 3 3 7 1 500000 0)
  -- near is checked before spent
  pub near_first : told sum (begin_call 0 ∷ work_call 4 None ∷ []) (work_call 0 (Some 250000)) ≡ Ok (report Near 0 4 8 2 750000 250000)

-- The plan of four expansions, taken: settings 1, 0, 0.
abbrev pub four_taken : List (Call ℕ)
four_taken = begin_call 0 ∷ work_call 4 None ∷ take_call ∷ []

pub record KeptFigures : Type 0 where
  pub taken : told sum (begin_call 0 ∷ work_call 4 None ∷ []) take_call ≡ Ok (record { replaced = true; promise = 750000; standing = 0; gap = 250000 })
  pub row_0 : told sum four_taken (row_call 0) ≡ Ok (Some (row 1 0))
  pub row_1 : told sum four_taken (row_call 1) ≡ Ok (Some (row 0 1000))
  pub row_2 : told sum four_taken (row_call 2) ≡ Ok (Some (row 0 1000))
  pub no_row_3 : told sum four_taken (row_call 3) ≡ Ok None
  -- begin keeping 1: two rows lie behind, and the search starts at state 1, behind setting 1
  pub two_behind : told sum four_taken (begin_call 1) ≡ Ok 2
  -- after one expansion take leaves the rows
  pub left : told sum (begin_call 0 ∷ work_call 4 None ∷ take_call ∷ begin_call 1 ∷ work_call 1 None ∷ []) take_call ≡ Ok (record { replaced = false; promise = 1000000; standing = 1500000; gap = 1000000 })
  -- after two it replaces them: equal worths do
  pub replaced : told sum (begin_call 0 ∷ work_call 4 None ∷ take_call ∷ begin_call 1 ∷ work_call 2 None ∷ []) take_call ≡ Ok (record { replaced = true; promise = 1500000; standing = 1500000; gap = 500000 })
  -- with none kept after an issue the search starts behind the setting issued: from state 1 behind 1, a change to 0 is the one allowed
  pub issues_first : told sum four_taken issue_call ≡ Ok (row 1 0)
  pub behind_issued : told sum (begin_call 0 ∷ work_call 4 None ∷ take_call ∷ issue_call ∷ begin_call 0 ∷ []) (work_call 2 None) ≡ Ok (report Spent 2 2 4 1 1500000 500000)
  -- a kept row is issued while the search is open, and the next is not
  pub kept_issued : told sum (begin_call 0 ∷ work_call 4 None ∷ take_call ∷ begin_call 1 ∷ []) issue_call ≡ Ok (row 1 0)
  pub none_kept : told sum (begin_call 0 ∷ work_call 4 None ∷ take_call ∷ begin_call 1 ∷ issue_call ∷ []) issue_call ≡ Err (refusal 18)
  -- observing the present state keeps the rows, another drops them
  pub same_keeps : marks_planned (run (all_with (table pond) sum (begin_call 0 ∷ work_call 4 None ∷ take_call ∷ observe_call 0 ∷ [])) pond_station) ≡ 0 ∷ 1000 ∷ 1000 ∷ []
  pub other_drops : marks_planned (run (all_with (table pond) sum (begin_call 0 ∷ work_call 4 None ∷ take_call ∷ observe_call 1 ∷ [])) pond_station) ≡ []

-- A table of one state and one setting, whose step earns 7.
abbrev pub still_bytes : List ℕ
still_bytes = 0 ∷ 0 ∷ 0 ∷ 0 ∷ 0 ∷ 0 ∷ 7 ∷ 0 ∷ []

abbrev pub still : File
still = record { bytes = still_bytes; states = 1; settings = 1 }

abbrev deep_calls : List (Call ℕ)
deep_calls = begin_call 0 ∷ work_call 99 None ∷ take_call ∷ []

abbrev twice_deep : View ℕ
twice_deep = run (all_with (table still) moment (begin_call 0 ∷ work_call 99 None ∷ take_call ∷ begin_call 32 ∷ work_call 99 None ∷ take_call ∷ [])) (made (table still) 0 0 99)

abbrev cells_of : View ℕ → ℕ
cells_of (Closed c) = 0
cells_of (Live st) = st.cells

pub record LimitFigures : Type 0 where
  pub still_reads : read still_bytes ≡ Ok still
  -- with K 1 and S 0 a search goes down one path: the leaf of depth 32 is not expanded
  pub deep : answer (table still) moment (work_call 99 None) (run (all_with (table still) moment (begin_call 0 ∷ [])) (made (table still) 0 0 99)) ≡ Ok (report Deep 32 32 33 31 7000 0)
  -- 32 rows are kept and 32 more planned; 32 can be kept again, and 33 not
  pub sixty_four_rows : answer (table still) moment (row_call 63) twice_deep ≡ Ok (Some (row 0 7))
  pub no_more_rows : answer (table still) moment (row_call 64) twice_deep ≡ Ok None
  pub keeps_32 : answer (table still) moment (begin_call 32) twice_deep ≡ Ok 32
  pub keeps_no_33 : answer (table still) moment (begin_call 33) twice_deep ≡ Err (refusal 16)
  -- with K 2 a making wants four cells; three of them are for nodes, which is room for one expansion
  pub three_cells : made (table pond) 0 1 3 ≡ Closed (cause 13)
  pub four_cells : answer (table pond) sum (work_call 9 None) (run (all_with (table pond) sum (begin_call 0 ∷ [])) (made (table pond) 0 1 4)) ≡ Ok (report Full 1 1 3 0 200000 1000000)
  -- five leave one node cell free, which is less than K
  pub five_cells : answer (table pond) sum (work_call 9 None) (run (all_with (table pond) sum (begin_call 0 ∷ [])) (made (table pond) 0 1 5)) ≡ Ok (report Full 1 1 3 0 200000 1000000)
  pub most_cells : cells_of (made (table pond) 0 1 70000) ≡ 65536
  pub cells_less_one : cells_of (made (table pond) 0 1 65536) ≡ 65535
  -- a limit of 32 passes and 33 does not; the state is checked first, the cells last
  pub limit_32 : cells_of (made (table pond) 0 32 4) ≡ 3
  pub limit_33 : made (table pond) 0 33 3 ≡ Closed (cause 12)
  pub unknown_state : made (table pond) 2 33 3 ≡ Closed (cause 11)

pub record RefusalFigures : Type 0 where
  -- a shut station refuses every call, with its cause
  pub shut : answer (table pond) sum (row_call 0) (Closed (cause 12)) ≡ Err (shut_by (cause 12))
  pub search_open : told sum (begin_call 0 ∷ []) (begin_call 9) ≡ Err (refusal 14)
  pub none_open_work : told sum [] (work_call 1 None) ≡ Err (refusal 15)
  pub none_open_take : told sum [] take_call ≡ Err (refusal 15)
  pub none_open_abandon : told sum (begin_call 0 ∷ abandon_call ∷ []) abandon_call ≡ Err (refusal 15)
  pub keep_above_rows : told sum four_taken (begin_call 4) ≡ Err (refusal 16)
  pub nothing_expanded : told sum (begin_call 0 ∷ []) take_call ≡ Err (refusal 17)
  pub nothing_to_issue : told sum [] issue_call ≡ Err (refusal 18)
  pub unknown_observed : told sum four_taken (observe_call 2) ≡ Err (refusal 11)
  -- a model of another K, and only begin, work and issue ask for K
  pub other_k_begin : answer (table still) sum (begin_call 0) pond_station ≡ Err (step_refused Begin (step_at 0 0 (model_refusal 2 0)))
  pub other_k_issue : answer (table still) sum issue_call (run (all_with (table pond) sum four_taken) pond_station) ≡ Err (step_refused Issue (step_at 0 0 (model_refusal 2 0)))
  pub other_k_observe : answer (table still) sum (observe_call 0) pond_station ≡ Ok tt

-- the pond without state 1: setting 1 leads back to 0
abbrev pub shallow_bytes : List ℕ
shallow_bytes = 0 ∷ 0 ∷ 0 ∷ 0 ∷ 0 ∷ 0 ∷ 0xC8 ∷ 0 ∷ 0 ∷ 0 ∷ 1 ∷ 0 ∷ 0 ∷ 0 ∷ 0 ∷ 0 ∷ []

-- all worked figures of searches and stations
pub record StationFigures : Type 0 where
  pub search_figures : SearchFigures
  pub kept_figures : KeptFigures
  pub limit_figures : LimitFigures
  pub refusal_figures : RefusalFigures
