-- A refused call changes nothing, except that work keeps earlier expansions.
use Rattle.std.proofs.Common.{◌≡◌, ℕ, zero, suc, ◌⊎◌, List, Some, None, Ok, Err, Option, Result, refl, ap, inl, inr}
use Rattle.model.specs.Meaning.{Meaning}
use Rattle.reckoning.specs.Meaning.{Meaning as Reckoning}
use Rattle.rules.specs.Sequences.{Start}
use Rattle.rules.specs.Trees.{Node}
use Rattle.rules.specs.Leaves.{expand_next, expanded_by}
use Rattle.rules.specs.Work.{ending, ended_or, work, Worked}
use Rattle.rules.specs.Station.{Station, View, Closed, Live}
use Rattle.rules.specs.Calls.{Outcome, Call, begin_call, work_call, take_call, abandon_call, issue_call, observe_call, row_call, outcome, work_leaves}
use Rattle.rules.specs.Refused.{SomeExpansions, LeftByRefusal, RefusalsChangeNothing}
use Rattle.rules.specs.declared.answers.Stop.{Stop}
use Rattle.rules.specs.declared.answers.Stop.TheVariants.{Spent}
use Rattle.rules.specs.declared.fault.StationFault.{StationFault}
use Rattle.rules.specs.declared.fault.StepFault.{StepFault}
use Rattle.rules.proofs.CallCases.{begun_cases, worked_cases, taken_cases, abandoned_cases, issued_cases, observed_cases}

granted_not_refused : {A C : Type 0} (a : A) (e : StationFault) → ◌≡◌ {A = Result A StationFault} (Ok a) (Err e) → C
granted_not_refused a e h = cc

module _ {S : Type 0} (m : Meaning S) (r : Reckoning) where
  -- work leaves the tree after some expansions
  work_expands : (start : Start S) (cells : ℕ) (wanted : Option ℕ) (n : ℕ) (tree : List (Node S)) → (k : ℕ) × ((work m r start cells wanted n tree).tree ≡ expanded_by m r start k tree)
  work_expands start cells wanted zero tree = by_end (ending m start cells wanted 0 tree)
    where
      by_end : (o : Option (Result Stop StepFault)) → (k : ℕ) × ((ended_or o tree (record { end = Ok Spent; tree = tree })).tree ≡ expanded_by m r start k tree)
      by_end None = (0, refl)
      by_end (Some e) = (0, refl)
  work_expands start cells wanted (suc n) tree =
      by_end (ending m start cells wanted (suc n) tree) (work m r start cells wanted n (expand_next m r start tree)) (work_expands start cells wanted n (expand_next m r start tree))
    where
      by_end : (o : Option (Result Stop StepFault)) (w : Worked S) → (k : ℕ) × (w.tree ≡ expanded_by m r start k (expand_next m r start tree)) → (k : ℕ) × ((ended_or o tree w).tree ≡ expanded_by m r start k tree)
      by_end None w h = (suc h.0, h.1)
      by_end (Some e) w h = (0, refl)

  module _ (st : Station S) (e : StationFault) where
    -- an outcome that is refused leaves the station as it is
    abbrev Unchanged : {A : Type 0} → Outcome A S → Type 0
    Unchanged out = out.0 ≡ Err e → Live out.1 ≡ Live st

    work_refused : (number : ℕ) (wanted : Option ℕ) → (outcome m r (work_call number wanted) st).0 ≡ Err e →
        (Live (outcome m r (work_call number wanted) st).1 ≡ Live st) ⊎ SomeExpansions m r (Live st) (Live (outcome m r (work_call number wanted) st).1)
    work_refused number wanted =
        worked_cases m r st number wanted (λ out. out.0 ≡ Err e → (Live out.1 ≡ Live st) ⊎ SomeExpansions m r (Live st) (Live out.1))
        (λ f h. inl refl)
        (λ q is same given h.
        let x = work_expands q.start st.cells wanted number q.tree in
        inr (record { station = st; opened = q; made = x.0; is_station = refl; is_open = is; is_left = ap (λ (t : List (Node S)). Live (work_leaves st q t)) x.1 }))

    refused_unchanged : (c : Call S) → (outcome m r c st).0 ≡ Err e → LeftByRefusal m r c (Live st) (Live (outcome m r c st).1)
    refused_unchanged (begin_call keep) = begun_cases m r st keep Unchanged (λ f h. refl) (λ few within same end walked h. granted_not_refused _ e h)
    refused_unchanged (work_call number wanted) = work_refused number wanted
    refused_unchanged take_call = taken_cases m r st Unchanged (λ f h. refl) (λ q is h. granted_not_refused _ e h)
    refused_unchanged abandon_call = abandoned_cases m r st Unchanged (λ f h. refl) (λ h. granted_not_refused _ e h)
    refused_unchanged issue_call = issued_cases m r st Unchanged (λ f h. refl) (λ w rest rows some same p stepped h. granted_not_refused _ e h)
    refused_unchanged (observe_call s) = observed_cases m r st s Unchanged (λ f h. refl) (λ h. refl) (λ known h. granted_not_refused _ e h)
    refused_unchanged (row_call number) = λ h. granted_not_refused _ e h

  closed_unchanged : (c : Call S) (v : View S) → LeftByRefusal m r c v v
  closed_unchanged (begin_call keep) v = refl
  closed_unchanged (work_call number wanted) v = inl refl
  closed_unchanged take_call v = refl
  closed_unchanged abandon_call v = refl
  closed_unchanged issue_call v = refl
  closed_unchanged (observe_call s) v = refl
  closed_unchanged (row_call number) v = refl

pub refusals_change_nothing : (S : Type 0) → RefusalsChangeNothing S
refusals_change_nothing S m r c (Closed cause) e h = closed_unchanged m r c (Closed cause)
refusals_change_nothing S m r c (Live st) e h = refused_unchanged m r st e c h
