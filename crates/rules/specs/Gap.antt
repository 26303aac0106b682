-- What a search promises, and that no allowed plan beats the gap.
use Rattle.std.specs.Prelude.{◌≡◌, ℕ, ◌+◌, ◌*◌, ◌^◌, ◌≤◌, true, List, ◌++◌, length, Some, None}
use Rattle.model.specs.Meaning.{Meaning}
use Rattle.reckoning.specs.Grains.{whole}
use Rattle.reckoning.specs.Meaning.{Meaning as Reckoning}
use Rattle.reckoning.specs.Worths.{exact_worth, width}
use Rattle.rules.specs.Sequences.{Allowed, Below, marks_along, end_along}
use Rattle.rules.specs.Leaves.{plan, promise, gap, reach}
use Rattle.rules.specs.Station.{Search, Station, Live, made}
use Rattle.rules.specs.Calls.{Call, kept_settings, start_at}
use Rattle.rules.specs.Runs.{all_with, run, marks_issued, first_gap, marks_planned, NeverMoved, WheneverOpen}

-- Of an open search:
module _ {S : Type 0} (m : Meaning S) (r : Reckoning) where
  -- no allowed sequence from its start, of any length, has an exact worth above the promise and the gap
  abbrev pub NoSequenceAbovePromiseAndGap : Station S → Search S → Type 0
  NoSequenceAbovePromiseAndGap st q =
      (path : List ℕ) → Allowed m.settings q.start path →
      exact_worth r (marks_along m q.start.state path) ≤ (promise q.tree + gap q.tree) * whole ^ length path

  -- the plan is allowed, and its marks are the model's
  pub record PlanAllowed (st : Station S) (q : Search S) : Type 0 where
    pub allowed : Allowed m.settings q.start (plan q.start q.tree).settings
    pub marks_are : (plan q.start q.tree).marks ≡ marks_along m q.start.state (plan q.start q.tree).settings

  -- the exact worth of the plan is at least the promise
  abbrev pub PlanWorthAtLeastPromise : Station S → Search S → Type 0
  PlanWorthAtLeastPromise st q =
      let marks = (plan q.start q.tree).marks in
      promise q.tree * whole ^ length marks ≤ exact_worth r marks

  -- the gap is at most the width at the reach
  abbrev pub GapWithinWidthAtReach : Station S → Search S → Type 0
  GapWithinWidthAtReach st q = gap q.tree ≤ width r (reach q.tree)

  -- it starts where the kept rows lead from the present state, behind the last of them, under the station's limit
  abbrev pub StartsAtPredictedEnd : Station S → Search S → Type 0
  StartsAtPredictedEnd st q = q.start ≡ start_at q.kept st (end_along m st.present (kept_settings q.kept st))

  -- Something is so of every search, with this model and this reckoning in every call:
  pub record InEverySearch (P : Meaning S → Reckoning → Station S → Search S → Type 0) : Type 0 where
    -- from any station without an open search whose present state is known and whose last setting is below K or none,
    -- whatever its rows, limit and cells, under any calls, granted or refused
    pub from_any_idle_station : (st : Station S) → st.search ≡ None → m.known st.present ≡ true → Below st.last st.settings →
        (calls : List (Call S)) → WheneverOpen (P m r) (run (all_with m r calls) (Live st))
    -- from any making, under any calls
    pub from_any_making : (s : S) (limit cells : ℕ) (calls : List (Call S)) → WheneverOpen (P m r) (run (all_with m r calls) (made m s limit cells))

  -- the exact worth of `other` is above that of `ours` by at most g grains; both are fractions
  abbrev pub BeatsByAtMost : ℕ → List ℕ → List ℕ → Type 0
  BeatsByAtMost g other ours =
      exact_worth r other * whole ^ length ours ≤ (exact_worth r ours + g * whole ^ length ours) * whole ^ length other

  -- From the first granted take since the making, as long as no observe finds another state: no sequence allowed at the
  -- making beats what was issued, followed by what is planned, by more than that take's gap.
  abbrev pub FirstGapCoversIssuedAndPlanned : Type 0
  FirstGapCoversIssuedAndPlanned =
      (s : S) (limit cells : ℕ) (calls : List (Call S)) →
      let turns = all_with m r calls in
      let station = made m s limit cells in
      NeverMoved turns station →
      (g : ℕ) → first_gap turns station ≡ Some g →
      (path : List ℕ) → Allowed m.settings (record { state = s; before = None; limit = limit }) path →
      BeatsByAtMost g (marks_along m s path) (marks_issued turns station ++ marks_planned (run turns station))
