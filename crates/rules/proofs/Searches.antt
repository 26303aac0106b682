-- Every search promises what it says, from any idle station, under any calls with one model and one reckoning.
use Rattle.std.proofs.Common.{◌≡◌, ℕ, zero, suc, ◌-◌, ◌≤◌, true, false, ltb, List, [], ◌∷◌, length, take, Some, None, Ok, Option, Result, sym, refl, ap, ◌∙◌, subst, arith}
use Rattle.std.proofs.lemmas.Bool.{ltb-true, eqb-false}
use Rattle.model.specs.Meaning.{Meaning, Laws}
use Rattle.reckoning.specs.Meaning.{Meaning as Reckoning, Laws as ReckoningLaws}
use Rattle.rules.specs.Sequences.{Start, Below, last_setting, end_along}
use Rattle.rules.specs.Trees.{Node}
use Rattle.rules.specs.Leaves.{expand_next}
use Rattle.rules.specs.Work.{ending, ended_or, work, Worked}
use Rattle.rules.specs.Station.{Search, Station, View, Closed, Live, settings_of, ready, made}
use Rattle.rules.specs.Calls.{Call, begin_call, work_call, take_call, abandon_call, issue_call, observe_call, row_call, outcome, after, kept_settings, start_at, none_kept, one_less_kept, issue_leaves}
use Rattle.rules.specs.Runs.{all_with, run, OnOpen, WheneverOpen}
use Rattle.rules.specs.Gap.{InEverySearch, StartsAtPredictedEnd}
use Rattle.rules.specs.declared.answers.Row.{Row}
use Rattle.rules.specs.declared.answers.Stop.{Stop}
use Rattle.rules.specs.declared.answers.Stop.TheVariants.{Spent}
use Rattle.rules.specs.declared.fault.StepFault.{StepFault}
use Rattle.rules.proofs.Sequences.{known_along, last_below, step_granted, walk_granted}
use Rattle.rules.proofs.Trees.{Sound, TreeKept, Promises, next_kept, first_kept, tree_promises}
use Rattle.rules.proofs.Rows.{end_issued, last_issued}
use Rattle.rules.proofs.CallCases.{made_cases, begun_cases, worked_cases, taken_cases, abandoned_cases, issued_cases, observed_cases}

-- an open search of a station
pub record SearchKept {S : Type 0} (m : Meaning S) (r : Reckoning) (st : Station S) (q : Search S) : Type 0 where
  pub kept_within : q.kept ≤ length st.rows
  pub starts : StartsAtPredictedEnd m r st q
  pub sound : Sound m q.start
  pub tree_kept : TreeKept m r q.start q.tree

-- a station whose present state is known and whose last setting is below K or none
pub record Kept {S : Type 0} (m : Meaning S) (r : Reckoning) (st : Station S) : Type 0 where
  pub known : m.known st.present ≡ true
  pub last_below_k : Below st.last st.settings
  pub search_kept : OnOpen (SearchKept m r st) st.search

module _ {S : Type 0} (m : Meaning S) (r : Reckoning) (law : Laws S m) (laws : ReckoningLaws r) where
  -- work makes expansions of the leaf that is next, and nothing else
  work_kept : (start : Start S) → Sound m start → (cells : ℕ) (wanted : Option ℕ) (n : ℕ) (tree : List (Node S)) → TreeKept m r start tree →
      TreeKept m r start (work m r start cells wanted n tree).tree
  work_kept start sound cells wanted zero tree kept = by_end (ending m start cells wanted 0 tree)
    where
      by_end : (o : Option (Result Stop StepFault)) → TreeKept m r start (ended_or o tree (record { end = Ok Spent; tree = tree })).tree
      by_end None = kept
      by_end (Some e) = kept
  work_kept start sound cells wanted (suc n) tree kept =
      by_end (ending m start cells wanted (suc n) tree) (work m r start cells wanted n (expand_next m r start tree))
      (work_kept start sound cells wanted n (expand_next m r start tree) (next_kept m r start law laws sound tree kept))
    where
      by_end : (o : Option (Result Stop StepFault)) (w : Worked S) → TreeKept m r start w.tree → TreeKept m r start (ended_or o tree w).tree
      by_end None w h = h
      by_end (Some e) w h = kept

  module _ (st : Station S) (k : Kept m r st) where
    begin_kept : (keep : ℕ) → Kept m r (outcome m r (begin_call keep) st).1
    begin_kept keep =
        begun_cases m r st keep (λ out. Kept m r out.1) (λ e. k)
        (λ few within same end walked.
        let path = kept_settings keep st in
        let w = walk_granted m 0 st.present path end walked in
        let sound : Sound m (start_at keep st end) = record {
          known = subst (λ (s : S). m.known s ≡ true) (sym w.1) (known_along m law st.present path k.known w.0);
          before_below = last_below m.settings st.last path (subst (Below st.last) (sym same) k.last_below_k) w.0;
        } in
        record {
          known = k.known;
          last_below_k = k.last_below_k;
          search_kept = record { kept_within = within; starts = ap (start_at keep st) w.1; sound = sound; tree_kept = first_kept m r (start_at keep st end) law laws sound };
        })

    work_call_kept : (number : ℕ) (wanted : Option ℕ) → Kept m r (outcome m r (work_call number wanted) st).1
    work_call_kept number wanted =
        worked_cases m r st number wanted (λ out. Kept m r out.1) (λ e. k)
        (λ q e same answer.
        let f : SearchKept m r st q = subst (OnOpen (SearchKept m r st)) e k.search_kept in
        record {
          known = k.known;
          last_below_k = k.last_below_k;
          search_kept = record { kept_within = f.kept_within; starts = f.starts; sound = f.sound; tree_kept = work_kept q.start f.sound st.cells wanted number q.tree f.tree_kept };
        })

    take_kept : Kept m r (outcome m r take_call st).1
    take_kept = taken_cases m r st (λ out. Kept m r out.1) (λ e. k) (λ q e. record { known = k.known; last_below_k = k.last_below_k; search_kept = tt })

    abandon_kept : Kept m r (outcome m r abandon_call st).1
    abandon_kept = abandoned_cases m r st (λ out. Kept m r out.1) (λ e. k) (record { known = k.known; last_below_k = k.last_below_k; search_kept = tt })

    issue_kept : Kept m r (outcome m r issue_call st).1
    issue_kept =
        issued_cases m r st (λ out. Kept m r out.1) (λ e. k)
        (λ w rest rows some same p stepped.
        let g = step_granted (m.known st.present) (ltb w.setting m.settings) (m.mark st.present w.setting, m.next st.present w.setting) p _ _ stepped in
        let below = ltb-true w.setting m.settings g.0 in
        let next : m.next st.present w.setting ≡ p.1 = ap (λ (x : ℕ × S). x.1) g.1 in
        record {
          known = subst (λ (s : S). m.known s ≡ true) next (law.next_known st.present w.setting k.known below);
          last_below_k = omega arith;
          search_kept = one_less w rest rows p.1 next st.search some k.search_kept;
        })
      where
        one_less : (w : Row) (rest : List Row) → st.rows ≡ w ∷ rest → (s : S) → m.next st.present w.setting ≡ s → (o : Option (Search S)) → none_kept o ≡ false →
            OnOpen (SearchKept m r st) o → OnOpen (SearchKept m r (issue_leaves st w rest s)) (one_less_kept o)
        one_less w rest rows s next None some f = tt
        one_less w rest rows s next (Some q) some f =
            let z : q.kept ≡ 0 → ⊥ = eqb-false q.kept 0 some in
            let state_same : end_along m st.present (kept_settings q.kept st) ≡ end_along m s (settings_of (take (q.kept - 1) rest)) =
            ap (λ (l : List Row). end_along m st.present (settings_of (take q.kept l))) rows ∙ end_issued m st.present w rest q.kept z
            ∙ ap (λ (x : S). end_along m x (settings_of (take (q.kept - 1) rest))) next in
            let before_same : last_setting st.last (kept_settings q.kept st) ≡ last_setting (Some w.setting) (settings_of (take (q.kept - 1) rest)) =
            ap (λ (l : List Row). last_setting st.last (settings_of (take q.kept l))) rows ∙ last_issued st.last w rest q.kept z in
            record {
              kept_within = let l : length st.rows ≡ suc (length rest) = ap length rows in let b = f.kept_within in omega arith;
              starts = f.starts ∙ (λ i. record { state = state_same i; before = before_same i; limit = st.limit });
              sound = f.sound;
              tree_kept = f.tree_kept;
            }

    observe_kept : (s : S) → Kept m r (outcome m r (observe_call s) st).1
    observe_kept s =
        observed_cases m r st s (λ out. Kept m r out.1) (λ e. k) k
        (λ known. record { known = known; last_below_k = k.last_below_k; search_kept = tt })

  pub call_kept : (c : Call S) (st : Station S) → Kept m r st → Kept m r (outcome m r c st).1
  call_kept (begin_call keep) st k = begin_kept st k keep
  call_kept (work_call number wanted) st k = work_call_kept st k number wanted
  call_kept take_call st k = take_kept st k
  call_kept abandon_call st k = abandon_kept st k
  call_kept issue_call st k = issue_kept st k
  call_kept (observe_call s) st k = observe_kept st k s
  call_kept (row_call number) st k = k

  abbrev ViewKept : View S → Type 0
  ViewKept (Closed cause) = Unit {0}
  ViewKept (Live st) = Kept m r st

  after_kept : (c : Call S) (v : View S) → ViewKept v → ViewKept (after m r c v)
  after_kept c (Closed cause) k = tt
  after_kept c (Live st) k = call_kept c st k

  run_kept : (calls : List (Call S)) (v : View S) → ViewKept v → ViewKept (run (all_with m r calls) v)
  run_kept [] v k = k
  run_kept (c ∷ calls) v k = run_kept calls (after m r c v) (after_kept c v k)

  -- of the open search of a station, where one is open
  pub promised : (st : Station S) (q : Search S) → SearchKept m r st q → Promises m r q.start q.tree
  promised st q f = tree_promises m r q.start law laws f.sound q.tree f.tree_kept

  whenever_open : (P : Station S → Search S → Type 0) → ((st : Station S) (q : Search S) → SearchKept m r st q → P st q) → (v : View S) → ViewKept v → WheneverOpen P v
  whenever_open P f (Closed cause) k = tt
  whenever_open P f (Live st) k = by_search st.search k.search_kept
    where
      by_search : (o : Option (Search S)) → OnOpen (SearchKept m r st) o → OnOpen (P st) o
      by_search None h = tt
      by_search (Some q) h = f st q h

  -- a station without an open search
  pub idle_kept : (st : Station S) → st.search ≡ None → m.known st.present ≡ true → Below st.last st.settings → Kept m r st
  idle_kept st idle known last = record { known = known; last_below_k = last; search_kept = subst (OnOpen (SearchKept m r st)) (sym idle) tt }

  made_kept : (s : S) (limit cells : ℕ) → ViewKept (made m s limit cells)
  made_kept s limit cells = made_cases m s limit cells ViewKept (λ c. tt) (λ known low enough. idle_kept (ready m s limit cells) refl known tt)

  pub in_every_search : (P : Meaning S → Reckoning → Station S → Search S → Type 0) → ((st : Station S) (q : Search S) → SearchKept m r st q → P m r st q) → InEverySearch m r P
  in_every_search P f = record {
    from_any_idle_station = λ st idle known last calls. whenever_open (P m r) f (run (all_with m r calls) (Live st)) (run_kept calls (Live st) (idle_kept st idle known last));
    from_any_making = λ s limit cells calls. whenever_open (P m r) f (run (all_with m r calls) (made m s limit cells)) (run_kept calls (made m s limit cells) (made_kept s limit cells));
  }
