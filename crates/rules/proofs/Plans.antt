-- From the first granted take on, what was issued followed by what is planned stays within that take's gap.
use Rattle.std.proofs.Common.{◌≡◌, ℕ, ◌+◌, ◌*◌, ◌^◌, ◌≤◌, ltb, List, [], ◌∷◌, ◌++◌, length, take, drop, Some, None, Ok, Err, Option, Result, sym, refl, ap, ◌∙◌, subst, append_assoc, append-nil, le_trans, le_refl, mul-le-mul_right, arith, take-append-drop}
use Rattle.std.proofs.Math.Seq.{take-nil, drop-nil}
use Rattle.std.proofs.lemmas.Bool.{leb-true, leb-false, cond_both}
use Rattle.model.specs.Meaning.{Meaning, Laws}
use Rattle.reckoning.specs.Grains.{whole}
use Rattle.reckoning.specs.Meaning.{Meaning as Reckoning, Laws as ReckoningLaws}
use Rattle.reckoning.specs.Worths.{low_worth, exact_worth, AreMarks}
use Rattle.reckoning.proofs.WorthBounds.{low_at_most_exact}
use Rattle.rules.specs.Sequences.{Start, Allowed, last_setting, marks_along, end_along}
use Rattle.rules.specs.Trees.{or_else}
use Rattle.rules.specs.Leaves.{plan, promise, gap}
use Rattle.rules.specs.Station.{Search, Station, View, Closed, Live, settings_of, marks_of, rows_of, ready, made}
use Rattle.rules.specs.Calls.{Outcome, Call, begin_call, work_call, take_call, abandon_call, issue_call, observe_call, row_call, Answer, outcome, answer, after, kept_settings, with_search, standing, replaces, planned_rows, rows_taken, take_leaves, issue_leaves}
use Rattle.rules.specs.Runs.{all_with, run, mark_given, gap_given, marks_issued, first_gap, marks_planned, ObservesNothingElse, NeverMoved, OnOpen}
use Rattle.rules.specs.Gap.{BeatsByAtMost, FirstGapCoversIssuedAndPlanned}
use Rattle.rules.specs.declared.answers.Report.{Report}
use Rattle.rules.specs.declared.answers.Row.{Row}
use Rattle.rules.specs.declared.fault.StationFault.{StationFault}
use Rattle.rules.proofs.Worths.{both_marks, low_by_tail}
use Rattle.rules.proofs.Sequences.{known_along, length_marks, step_granted}
use Rattle.rules.proofs.Trees.{Promises}
use Rattle.rules.proofs.Rows.{Along, along_take, along_append, along_path, along_below, along_marks, marks_of_path, marks_of_both}
use Rattle.rules.proofs.CallCases.{made_cases, begun_cases, worked_cases, taken_cases, abandoned_cases, issued_cases}
use Rattle.rules.proofs.Searches.{SearchKept, Kept, call_kept, promised, idle_kept}

-- where the first search since a making starts
abbrev making_start : {S : Type 0} → S → ℕ → Start S
making_start s limit = record { state = s; before = None; limit = limit }

-- before the first granted take nothing has happened but searches from the making
record Untouched {S : Type 0} (s : S) (st : Station S) (done : List ℕ) : Type 0 where
  no_marks : done ≡ []
  no_rows : st.rows ≡ []
  present_is : st.present ≡ s
  last_is : st.last ≡ None

-- from then on a worth, which with the gap bounds every allowed sequence, is reached by what was issued and is planned
record Reached {S : Type 0} (m : Meaning S) (r : Reckoning) (s : S) (limit g : ℕ) (done : List ℕ) (rows : List Row) : Type 0 where
  marks_done : AreMarks done
  worth : ℕ
  bounds : (path : List ℕ) → Allowed m.settings (making_start s limit) path → exact_worth r (marks_along m s path) ≤ (worth + g) * whole ^ length path
  is_reached : worth ≤ low_worth r (done ++ marks_of rows)

abbrev Plans : {S : Type 0} → Meaning S → Reckoning → S → ℕ → Option ℕ → Station S → List ℕ → Type 0
Plans m r s limit None st done = Untouched s st done
Plans m r s limit (Some g) st done = Reached m r s limit g done st.rows

-- a station since a making from s: what was issued, and the gap of the first granted take
record Since {S : Type 0} (m : Meaning S) (r : Reckoning) (s : S) (limit : ℕ) (st : Station S) (done : List ℕ) (first : Option ℕ) : Type 0 where
  kept : Kept m r st
  limit_is : st.limit ≡ limit
  along : Along m st.present st.rows
  plans : Plans m r s limit first st done

or_else_none : {A : Type 0} (o : Option A) → or_else o None ≡ o
or_else_none None = refl
or_else_none (Some x) = refl

or_else_assoc : {A : Type 0} (a b c : Option A) → or_else (or_else a b) c ≡ or_else a (or_else b c)
or_else_assoc None b c = refl
or_else_assoc (Some x) b c = refl

compared : (x y p g a b : ℕ) → x ≤ (p + g) * a → p * b ≤ y → x * b ≤ (y + g * b) * a
compared x y p g a b h k = omega (arith, mul-le-mul_right b h, mul-le-mul_right a k)

module _ {S : Type 0} (m : Meaning S) (r : Reckoning) (law : Laws S m) (laws : ReckoningLaws r) (s : S) (limit : ℕ) where
  -- a call that issues nothing and takes nothing
  nothing_more : (st : Station S) (done : List ℕ) (first : Option ℕ) → Since m r s limit st done first → Since m r s limit st (done ++ []) (or_else first None)
  nothing_more st done first k =
      subst (λ (l : List ℕ). Since m r s limit st l (or_else first None)) (sym (append-nil done))
      (subst (λ (o : Option ℕ). Since m r s limit st done o) (sym (or_else_none first)) k)

  -- a change of the search alone
  searching : (st : Station S) (done : List ℕ) (first : Option ℕ) → Since m r s limit st done first → (o : Option (Search S)) → Kept m r (with_search st o) →
      Since m r s limit (with_search st o) (done ++ []) (or_else first None)
  searching st done first k o kept =
      nothing_more (with_search st o) done first (record { kept = kept; limit_is = k.limit_is; along = k.along; plans = still first k.plans })
    where
      still : (f : Option ℕ) → Plans m r s limit f st done → Plans m r s limit f (with_search st o) done
      still None u = record { no_marks = u.no_marks; no_rows = u.no_rows; present_is = u.present_is; last_is = u.last_is }
      still (Some g) u = u

  -- what a call leaves, with the mark that it issued and the gap that it took
  abbrev SinceAfter : List ℕ → Option ℕ → (c : Call S) → Outcome (Answer c) S → Type 0
  SinceAfter done first c out = Since m r s limit out.1 (done ++ mark_given c out.0) (or_else first (gap_given c out.0))

  module _ (st : Station S) (done : List ℕ) (first : Option ℕ) (k : Since m r s limit st done first) where
    begin_since : (keep : ℕ) → SinceAfter done first (begin_call keep) (outcome m r (begin_call keep) st)
    begin_since keep =
        let kept = call_kept m r law laws (begin_call keep) st k.kept in
        begun_cases m r st keep (λ out. Kept m r out.1 → SinceAfter done first (begin_call keep) out)
        (λ e h. nothing_more st done first k)
        (λ few within same end walked h. searching st done first k _ h)
        kept

    work_since : (number : ℕ) (wanted : Option ℕ) → SinceAfter done first (work_call number wanted) (outcome m r (work_call number wanted) st)
    work_since number wanted =
        let kept = call_kept m r law laws (work_call number wanted) st k.kept in
        worked_cases m r st number wanted (λ out. Kept m r out.1 → SinceAfter done first (work_call number wanted) out)
        (λ e h. nothing_more st done first k)
        (λ q e same answer h. by_answer _ answer (searching st done first k _ h))
        kept
      where
        by_answer : (x : Station S) (a : Result Report StationFault) → Since m r s limit x (done ++ []) (or_else first None) → SinceAfter done first (work_call number wanted) (a, x)
        by_answer x (Ok a) h = h
        by_answer x (Err e) h = h

    abandon_since : SinceAfter done first abandon_call (outcome m r abandon_call st)
    abandon_since =
        let kept = call_kept m r law laws abandon_call st k.kept in
        abandoned_cases m r st (λ out. Kept m r out.1 → SinceAfter done first (abandon_call) out)
        (λ e h. nothing_more st done first k)
        (λ h. searching st done first k None h)
        kept

    issue_since : SinceAfter done first issue_call (outcome m r issue_call st)
    issue_since =
        let kept = call_kept m r law laws issue_call st k.kept in
        issued_cases m r st (λ out. Kept m r out.1 → SinceAfter done first (issue_call) out)
        (λ e h. nothing_more st done first k)
        (λ w rest rows some same p stepped h.
        let g = step_granted (m.known st.present) (ltb w.setting m.settings) (m.mark st.present w.setting, m.next st.present w.setting) p _ _ stepped in
        let next : m.next st.present w.setting ≡ p.1 = ap (λ (x : ℕ × S). x.1) g.1 in
        let along : Along m st.present (w ∷ rest) = subst (Along m st.present) rows k.along in
        subst (λ (o : Option ℕ). Since m r s limit (issue_leaves st w rest p.1) (done ++ (w.mark ∷ [])) o) (sym (or_else_none first))
        (record {
          kept = h;
          limit_is = k.limit_is;
          along = subst (λ (x : S). Along m x rest) next along.2;
          plans = still w rest rows along p.1 first k.plans;
        }))
        kept
      where
        still : (w : Row) (rest : List Row) → st.rows ≡ w ∷ rest → Along m st.present (w ∷ rest) → (t : S) → (f : Option ℕ) → Plans m r s limit f st done →
            Plans m r s limit f (issue_leaves st w rest t) (done ++ (w.mark ∷ []))
        still w rest rows along t None u = let no_rows = u.no_rows in cc
        still w rest rows along t (Some g) u =
            let are = along_marks m law st.present (w ∷ rest) k.kept.known along in
            let e : done ++ marks_of st.rows ≡ (done ++ (w.mark ∷ [])) ++ marks_of rest =
            ap (λ (l : List Row). done ++ marks_of l) rows ∙ sym (append_assoc done (w.mark ∷ []) (marks_of rest)) in
            record {
              marks_done = both_marks done (w.mark ∷ []) u.marks_done (are.0, tt);
              worth = u.worth;
              bounds = u.bounds;
              is_reached = subst (λ (l : List ℕ). u.worth ≤ low_worth r l) e u.is_reached;
            }

    -- Take: the open search, and the rows that it leaves
    module _ (q : Search S) (f : SearchKept m r st q) where
      promises : Promises m r q.start q.tree
      promises = promised m r law laws st q f

      kept_end : S
      kept_end = end_along m st.present (kept_settings q.kept st)

      kept_along : Along m st.present (take q.kept st.rows)
      kept_along = along_take m q.kept st.present st.rows k.along

      planned_along : Along m kept_end (planned_rows q)
      unfolding kept_end
      planned_along =
          let p = plan q.start q.tree in
          subst (λ (x : S). Along m x (rows_of p.settings p.marks)) (ap (λ (x : Start S). x.state) f.starts)
          (subst (λ (l : List ℕ). Along m q.start.state (rows_of p.settings l)) (sym promises.plan_marks)
          (along_path m q.start.state p.settings promises.plan_allowed.below_k))

      planned_marks : marks_of (planned_rows q) ≡ (plan q.start q.tree).marks
      planned_marks =
          let p = plan q.start q.tree in
          ap (λ (l : List ℕ). marks_of (rows_of p.settings l)) promises.plan_marks ∙ marks_of_path m q.start.state p.settings ∙ sym promises.plan_marks

      planned_worth : low_worth r (marks_of (planned_rows q)) ≡ promise q.tree
      planned_worth = ap (low_worth r) planned_marks ∙ promises.plan_low

      planned_are_marks : AreMarks (marks_of (planned_rows q))
      unfolding kept_end
      planned_are_marks =
          along_marks m law kept_end (planned_rows q)
          (known_along m law st.present (kept_settings q.kept st) k.kept.known (along_below m st.present (take q.kept st.rows) kept_along)) planned_along

      taken_along : Along m st.present (rows_taken r st q)
      unfolding kept_end
      taken_along =
          cond_both (replaces r st q) (take q.kept st.rows ++ planned_rows q) st.rows (Along m st.present)
          (λ e. along_append m st.present (take q.kept st.rows) (planned_rows q) kept_along planned_along)
          (λ e. k.along)

      -- the low worth of what was issued and is planned never falls
      never_falls : AreMarks done → low_worth r (done ++ marks_of st.rows) ≤ low_worth r (done ++ marks_of (rows_taken r st q))
      never_falls are =
          cond_both (replaces r st q) (take q.kept st.rows ++ planned_rows q) st.rows
          (λ (l : List Row). low_worth r (done ++ marks_of st.rows) ≤ low_worth r (done ++ marks_of l))
          (λ e.
          let front = marks_of (take q.kept st.rows) in
          let behind = marks_of (drop q.kept st.rows) in
          let new = marks_of (planned_rows q) in
          let e₁ : (done ++ front) ++ behind ≡ done ++ marks_of st.rows =
          append_assoc done front behind ∙ ap (λ (l : List ℕ). done ++ l) (sym (marks_of_both (take q.kept st.rows) (drop q.kept st.rows))) ∙ ap (λ (l : List Row). done ++ marks_of l) (take-append-drop q.kept st.rows) in
          let e₂ : (done ++ front) ++ new ≡ done ++ marks_of (take q.kept st.rows ++ planned_rows q) =
          append_assoc done front new ∙ ap (λ (l : List ℕ). done ++ l) (sym (marks_of_both (take q.kept st.rows) (planned_rows q))) in
          let front_are = along_marks m law st.present (take q.kept st.rows) k.kept.known kept_along in
          let w : low_worth r behind ≤ low_worth r new = le_trans (leb-true (standing r st q) (promise q.tree) e) (omega (arith, planned_worth)) in
          let t : low_worth r ((done ++ front) ++ behind) ≤ low_worth r ((done ++ front) ++ new) =
          low_by_tail r laws (done ++ front) behind new (both_marks done front are front_are) planned_are_marks w in
          subst (λ (l : List ℕ). low_worth r (done ++ marks_of st.rows) ≤ low_worth r l) e₂ (subst (λ (l : List ℕ). low_worth r l ≤ low_worth r ((done ++ front) ++ new)) e₁ t))
          (λ e. le_refl (low_worth r (done ++ marks_of st.rows)))

      -- the first take puts the plan in place
      first_reached : done ≡ [] → st.rows ≡ [] → promise q.tree ≤ low_worth r (done ++ marks_of (rows_taken r st q))
      first_reached no_marks no_rows =
          cond_both (replaces r st q) (take q.kept st.rows ++ planned_rows q) st.rows
          (λ (l : List Row). promise q.tree ≤ low_worth r (done ++ marks_of l))
          (λ e.
          let e₁ : take q.kept st.rows ≡ [] = ap (take q.kept) no_rows ∙ take-nil q.kept in
          let e₂ : low_worth r (done ++ marks_of (take q.kept st.rows ++ planned_rows q)) ≡ low_worth r (marks_of (planned_rows q)) = λ i. low_worth r (no_marks i ++ marks_of (e₁ i ++ planned_rows q)) in
          omega (arith, e₂, planned_worth))
          (λ e.
          let l = leb-false (standing r st q) (promise q.tree) e in
          let e₁ : drop q.kept st.rows ≡ [] = ap (drop q.kept) no_rows ∙ drop-nil q.kept in
          let e₂ : standing r st q ≡ 0 = ap (λ (x : List Row). low_worth r (marks_of x)) e₁ in
          absurd (omega arith))

      -- a search before any row starts at the making
      started_at_making : st.rows ≡ [] → st.present ≡ s → st.last ≡ None → q.start ≡ making_start s limit
      started_at_making no_rows present_is last_is =
          let e : take q.kept st.rows ≡ [] = ap (take q.kept) no_rows ∙ take-nil q.kept in
          f.starts ∙ (λ i. record { state = end_along m (present_is i) (settings_of (e i)); before = last_setting (last_is i) (settings_of (e i)); limit = k.limit_is i })

      taken_plans : (g : Option ℕ) → Plans m r s limit g st done → Plans m r s limit (or_else g (Some (gap q.tree))) (take_leaves r st q) done
      taken_plans None u = record {
        marks_done = rw u.no_marks tt;
        worth = promise q.tree;
        bounds = subst (λ (z : Start S). (path : List ℕ) → Allowed m.settings z path → exact_worth r (marks_along m z.state path) ≤ (promise q.tree + gap q.tree) * whole ^ length path)
            (started_at_making u.no_rows u.present_is u.last_is) promises.none_above;
        is_reached = first_reached u.no_marks u.no_rows;
      }
      taken_plans (Some g) u = record {
        marks_done = u.marks_done;
        worth = u.worth;
        bounds = u.bounds;
        is_reached = le_trans u.is_reached (never_falls u.marks_done);
      }

    take_since : SinceAfter done first take_call (outcome m r take_call st)
    take_since =
        let kept = call_kept m r law laws take_call st k.kept in
        taken_cases m r st (λ out. Kept m r out.1 → SinceAfter done first (take_call) out)
        (λ e h. nothing_more st done first k)
        (λ q e h.
        let f : SearchKept m r st q = subst (OnOpen (SearchKept m r st)) e k.kept.search_kept in
        subst (λ (l : List ℕ). Since m r s limit (take_leaves r st q) l (or_else first (Some (gap q.tree)))) (sym (append-nil done))
        (record { kept = h; limit_is = k.limit_is; along = taken_along q f; plans = taken_plans q f first k.plans }))
        kept

  abbrev ViewSince : View S → List ℕ → Option ℕ → Type 0
  ViewSince (Closed cause) done first = first ≡ None
  ViewSince (Live st) done first = Since m r s limit st done first

  no_mark : (x : S) (a : Result (Answer (observe_call x)) StationFault) → mark_given (observe_call x) a ≡ []
  no_mark x (Ok a) = refl
  no_mark x (Err e) = refl

  no_gap : (x : S) (a : Result (Answer (observe_call x)) StationFault) → gap_given (observe_call x) a ≡ None
  no_gap x (Ok a) = refl
  no_gap x (Err e) = refl

  after_since : (c : Call S) (v : View S) (done : List ℕ) (first : Option ℕ) → ObservesNothingElse m r c v → ViewSince v done first →
      ViewSince (after m r c v) (done ++ mark_given c (answer m r c v)) (or_else first (gap_given c (answer m r c v)))
  after_since c (Closed cause) done first still e = or_else_none first ∙ e
  after_since (begin_call keep) (Live st) done first still k = begin_since st done first k keep
  after_since (work_call number wanted) (Live st) done first still k = work_since st done first k number wanted
  after_since take_call (Live st) done first still k = take_since st done first k
  after_since abandon_call (Live st) done first still k = abandon_since st done first k
  after_since issue_call (Live st) done first still k = issue_since st done first k
  after_since (observe_call x) (Live st) done first still k =
      let given = answer m r (observe_call x) (Live st) in
      let same : ViewSince (Live st) (done ++ mark_given (observe_call x) given) (or_else first (gap_given (observe_call x) given)) =
      subst (λ (l : List ℕ). Since m r s limit st (done ++ l) (or_else first (gap_given (observe_call x) given))) (sym (no_mark x given))
      (subst (λ (o : Option ℕ). Since m r s limit st (done ++ []) (or_else first o)) (sym (no_gap x given)) (nothing_more st done first k)) in
      subst (λ (v : View S). ViewSince v (done ++ mark_given (observe_call x) given) (or_else first (gap_given (observe_call x) given))) (sym still) same
  after_since (row_call number) (Live st) done first still k = nothing_more st done first k

  run_since : (calls : List (Call S)) (v : View S) (done : List ℕ) (first : Option ℕ) → NeverMoved (all_with m r calls) v → ViewSince v done first →
      ViewSince (run (all_with m r calls) v) (done ++ marks_issued (all_with m r calls) v) (or_else first (first_gap (all_with m r calls) v))
  run_since [] v done first still k =
      subst (λ (l : List ℕ). ViewSince v l (or_else first None)) (sym (append-nil done))
      (subst (λ (o : Option ℕ). ViewSince v done o) (sym (or_else_none first)) k)
  run_since (c ∷ calls) v done first still k =
      let given = answer m r c v in
      let next = after m r c v in
      let turns = all_with m r calls in
      subst (λ (l : List ℕ). ViewSince (run turns next) l (or_else first (or_else (gap_given c given) (first_gap turns next)))) (append_assoc done (mark_given c given) (marks_issued turns next))
      (subst (λ (o : Option ℕ). ViewSince (run turns next) ((done ++ mark_given c given) ++ marks_issued turns next) o) (or_else_assoc first (gap_given c given) (first_gap turns next))
      (run_since calls next (done ++ mark_given c given) (or_else first (gap_given c given)) still.1 (after_since c v done first still.0 k)))

  -- what a station since a making has come to
  covered : (v : View S) (done : List ℕ) (g : ℕ) → ViewSince v done (Some g) → (path : List ℕ) → Allowed m.settings (making_start s limit) path →
      BeatsByAtMost m r g (marks_along m s path) (done ++ marks_planned v)
  covered (Closed cause) done g k path ok = cc
  covered (Live st) done g k path ok =
      let u = k.plans in
      let ours = done ++ marks_of st.rows in
      let are : AreMarks ours = both_marks done (marks_of st.rows) u.marks_done (along_marks m law st.present st.rows k.kept.known k.along) in
      compared (exact_worth r (marks_along m s path)) (exact_worth r ours) u.worth g (whole ^ length (marks_along m s path)) (whole ^ length ours)
      (rw (length_marks m s path) (u.bounds path ok))
      (le_trans (mul-le-mul_right (whole ^ length ours) u.is_reached) (low_at_most_exact r laws ours are))

  made_since : (cells : ℕ) → ViewSince (made m s limit cells) [] None
  made_since cells =
      made_cases m s limit cells (λ v. ViewSince v [] None) (λ c. refl)
      (λ known low enough. record {
        kept = idle_kept m r law laws (ready m s limit cells) refl known tt;
        limit_is = refl;
        along = tt;
        plans = record { no_marks = refl; no_rows = refl; present_is = refl; last_is = refl };
      })

pub first_gap_covers : {S : Type 0} (m : Meaning S) (r : Reckoning) → Laws S m → ReckoningLaws r → FirstGapCoversIssuedAndPlanned m r
first_gap_covers m r law laws s limit cells calls still g taken path ok =
    let turns = all_with m r calls in
    let station = made m s limit cells in
    let since = run_since m r law laws s limit calls station [] None still (made_since m r law laws s limit cells) in
    covered m r law laws s limit (run turns station) (marks_issued turns station) g
    (subst (λ (o : Option ℕ). ViewSince m r law laws s limit (run turns station) (marks_issued turns station) o) taken since) path ok
