-- The making and each call by cases: refused, and then nothing changes, or granted, and then its checks were passed.
use Rattle.std.proofs.Common.{◌≡◌, ℕ, ◌+◌, ◌-◌, ◌≤◌, Bool, true, false, cond, ◌||◌, eqb, ltb, List, [], ◌∷◌, length, Some, None, Ok, Err, Option, Result, refl}
use Rattle.std.proofs.lemmas.Bool.{eqb-true, ltb-false, or_parts, cond_both}
use Rattle.model.specs.Meaning.{Meaning, step}
use Rattle.model.specs.Walk.{walk}
use Rattle.model.specs.declared.fault.ModelFault.{ModelFault}
use Rattle.model.specs.declared.walking.WalkFault.{WalkFault}
use Rattle.reckoning.specs.Meaning.{Meaning as Reckoning}
use Rattle.rules.specs.Limits.{most_kept, highest_limit}
use Rattle.rules.specs.Faults.{refusal}
use Rattle.rules.specs.Leaves.{expansions}
use Rattle.rules.specs.Work.{work}
use Rattle.rules.specs.Station.{Search, Station, View, Closed, Live, is_open, ready, made}
use Rattle.rules.specs.Calls.{Outcome, unless, with_search, same_settings, kept_settings, begin_leaves, opened, begun, work_leaves, worked_in, worked, take_answer, take_leaves, taken_from, taken, abandoned, none_kept, issue_leaves, row_issued, issued_from, issued, moved_to, observed}
use Rattle.rules.specs.declared.answers.Report.{Report}
use Rattle.rules.specs.declared.answers.Row.{Row}
use Rattle.rules.specs.declared.answers.Taken.{Taken}
use Rattle.rules.specs.declared.fault.Cause.{Cause}
use Rattle.rules.specs.declared.fault.CallName.{CallName}
use Rattle.rules.specs.declared.fault.CallName.TheVariants.{Begin, Work, Issue}
use Rattle.rules.specs.declared.fault.StationFault.{StationFault}

unless_cases : {A S : Type 0} (P : Outcome A S → Type 0) (o : Option StationFault) (st : Station S) (out : Outcome A S) →
    ((e : StationFault) → P (Err e, st)) → (o ≡ None → P out) → P (unless o st out)
unless_cases P None st out refused granted = granted refl
unless_cases P (Some e) st out refused granted = refused e

not_refused : {A : Type 0} (b : Bool) (e : A) → cond b (Some e) None ≡ None → b ≡ false
not_refused true e h = cc
not_refused false e h = refl

passed : {A : Type 0} (b : Bool) (e : A) → cond b None (Some e) ≡ None → b ≡ true
passed true e h = refl
passed false e h = cc

-- a making closes its station, or its state is known, its limit in range and its cells enough
pub made_cases : {S : Type 0} (m : Meaning S) (s : S) (limit cells : ℕ) (P : View S → Type 0) → ((c : Cause) → P (Closed c)) →
    (m.known s ≡ true → limit ≤ highest_limit → m.settings + 2 ≤ cells → P (Live (ready m s limit cells))) → P (made m s limit cells)
made_cases m s limit cells P shut live =
    cond_both (m.known s) _ _ P
    (λ known. cond_both (ltb highest_limit limit) _ _ P (λ e. shut _)
    (λ low. cond_both (ltb cells (m.settings + 2)) _ _ P (λ e. shut _)
    (λ enough. live known (ltb-false highest_limit limit low) (ltb-false cells (m.settings + 2) enough))))
    (λ e. shut _)

module _ {S : Type 0} (m : Meaning S) (r : Reckoning) (st : Station S) where
  settings_same : (call : CallName) → same_settings m st call ≡ None → m.settings ≡ st.settings
  settings_same call h = eqb-true m.settings st.settings (passed (eqb m.settings st.settings) _ h)

  pub begun_cases : (keep : ℕ) (P : Outcome ℕ S → Type 0) → ((e : StationFault) → P (Err e, st)) →
      (keep ≤ most_kept → keep ≤ length st.rows → m.settings ≡ st.settings → (end : S) → walk m st.present (kept_settings keep st) ≡ Ok end →
      P (Ok (length st.rows - keep), begin_leaves r keep st end)) →
      P (begun m r keep st)
  begun_cases keep P refused granted =
      unless_cases P (cond (is_open st.search) (Some (refusal 14)) None) st _ refused (λ e₁.
      unless_cases P (cond (ltb most_kept keep || ltb (length st.rows) keep) (Some (refusal 16)) None) st _ refused (λ e₂.
      unless_cases P (same_settings m st Begin) st _ refused (λ e₃.
      let o = or_parts (ltb most_kept keep) (ltb (length st.rows) keep) (not_refused (ltb most_kept keep || ltb (length st.rows) keep) _ e₂) in
      walked (walk m st.present (kept_settings keep st)) refl (ltb-false most_kept keep o.0) (ltb-false (length st.rows) keep o.1) (settings_same Begin e₃))))
    where
      walked : (w : Result S WalkFault) → walk m st.present (kept_settings keep st) ≡ w → keep ≤ most_kept → keep ≤ length st.rows → m.settings ≡ st.settings → P (opened r keep st w)
      walked (Ok end) e few within same = granted few within same end e
      walked (Err f) e few within same = refused _

  pub worked_cases : (number : ℕ) (wanted : Option ℕ) (P : Outcome Report S → Type 0) → ((e : StationFault) → P (Err e, st)) →
      ((q : Search S) → st.search ≡ Some q → m.settings ≡ st.settings → (answer : Result Report StationFault) →
      P (answer, work_leaves st q (work m r q.start st.cells wanted number q.tree).tree)) →
      P (worked m r number wanted st)
  worked_cases number wanted P refused granted = by_search st.search refl
    where
      by_search : (o : Option (Search S)) → st.search ≡ o → P (worked_in m r number wanted st o)
      by_search None e = refused _
      by_search (Some q) e = unless_cases P (same_settings m st Work) st _ refused (λ h. granted q e (settings_same Work h) _)

  pub taken_cases : (P : Outcome Taken S → Type 0) → ((e : StationFault) → P (Err e, st)) →
      ((q : Search S) → st.search ≡ Some q → P (Ok (take_answer r st q), take_leaves r st q)) →
      P (taken r st)
  taken_cases P refused granted = by_search st.search refl
    where
      by_search : (o : Option (Search S)) → st.search ≡ o → P (taken_from r st o)
      by_search None e = refused _
      by_search (Some q) e = unless_cases P (cond (eqb (expansions q.tree) 0) (Some (refusal 17)) None) st _ refused (λ h. granted q e)

  pub abandoned_cases : (P : Outcome (Unit {0}) S → Type 0) → ((e : StationFault) → P (Err e, st)) → P (Ok tt, with_search st None) → P (abandoned st)
  abandoned_cases P refused granted = unless_cases P (cond (is_open st.search) None (Some (refusal 15))) st _ refused (λ h. granted)

  pub issued_cases : (P : Outcome Row S → Type 0) → ((e : StationFault) → P (Err e, st)) →
      ((w : Row) (rest : List Row) → st.rows ≡ w ∷ rest → none_kept st.search ≡ false → m.settings ≡ st.settings →
      (p : ℕ × S) → step m st.present w.setting ≡ Ok p → P (Ok w, issue_leaves st w rest p.1)) →
      P (issued m st)
  issued_cases P refused granted = by_rows st.rows refl
    where
      stepped : (w : Row) (rest : List Row) → st.rows ≡ w ∷ rest → none_kept st.search ≡ false → m.settings ≡ st.settings →
          (s : Result (ℕ × S) ModelFault) → step m st.present w.setting ≡ s → P (row_issued st w rest s)
      stepped w rest e some same (Ok p) h = granted w rest e some same p h
      stepped w rest e some same (Err f) h = refused _

      by_rows : (rows : List Row) → st.rows ≡ rows → P (issued_from m st rows)
      by_rows [] e = refused _
      by_rows (w ∷ rest) e =
          unless_cases P (cond (none_kept st.search) (Some (refusal 18)) None) st _ refused (λ e₁.
          unless_cases P (same_settings m st Issue) st _ refused (λ e₂.
          stepped w rest e (not_refused (none_kept st.search) _ e₁) (settings_same Issue e₂) (step m st.present w.setting) refl))

  pub observed_cases : (s : S) (P : Outcome (Unit {0}) S → Type 0) → ((e : StationFault) → P (Err e, st)) →
      P (Ok tt, st) → (m.known s ≡ true → P (Ok tt, moved_to s st)) → P (observed m s st)
  observed_cases s P refused same other =
      unless_cases P (cond (m.known s) None (Some (refusal 11))) st _ refused
      (λ h. cond_both (m.same st.present s) st (moved_to s st) (λ x. P (Ok tt, x)) (λ e. same) (λ e. other (passed (m.known s) _ h)))
