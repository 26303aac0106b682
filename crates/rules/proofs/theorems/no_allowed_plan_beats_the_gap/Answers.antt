use Rattle.rules.specs.Gap.{NoSequenceAbovePromiseAndGap, PlanAllowed, PlanWorthAtLeastPromise, GapWithinWidthAtReach, StartsAtPredictedEnd}
use Rattle.rules.proofs.Searches.{promised, in_every_search}
use Rattle.rules.proofs.Plans.{first_gap_covers}
use Rattle.rules.proofs.theorems.no_allowed_plan_beats_the_gap.Goals as goal

pub returns : goal.returns
returns g c =
    let m = g.M.Model.meaning c.args.model.now in
    let r = g.R.Reckoning.meaning c.args.reckoning.now in
    let law = g.met.M.Model.lawful c.args.model.now in
    let laws = g.met.R.Reckoning.lawful c.args.reckoning.now in
    record {
      no_sequence_above_promise_and_gap = in_every_search m r law laws NoSequenceAbovePromiseAndGap (λ st q f. (promised m r law laws st q f).none_above);
      plan_allowed = in_every_search m r law laws PlanAllowed (λ st q f. let p = promised m r law laws st q f in record { allowed = p.plan_allowed; marks_are = p.plan_marks });
      plan_worth_at_least_promise = in_every_search m r law laws PlanWorthAtLeastPromise (λ st q f. (promised m r law laws st q f).plan_worth);
      gap_within_width_at_reach = in_every_search m r law laws GapWithinWidthAtReach (λ st q f. (promised m r law laws st q f).gap_narrow);
      starts_at_predicted_end = in_every_search m r law laws StartsAtPredictedEnd (λ st q f. f.starts);
      first_gap_covers_issued_and_planned = first_gap_covers m r law laws;
    }
