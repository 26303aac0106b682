use Rattle.std.proofs.Common.{◌≡◌, Err, sym, ap, ◌∙◌}
use Rattle.std.proofs.lemmas.Result.{err_from_is_err_and}
use Rattle.model.specs.Walk.{walk}
use Rattle.model.proofs.Walks.{walk_refused, walk_ends, walk_known}
use Rattle.model.proofs.walking.walk.Goals as goal

pub returns-in_err-state : goal.returns-in_err-state
returns-in_err-state g c =
    let m = g.M.Model.meaning c.args.model.now in
    let ks = c.args.settings.now in
    let p = err_from_is_err_and c.from_residual.result c.from_residual.ensures.1 in
    let w = sym (walk_refused m c.loop-place.state ks c.loop-place.place _ c.loop-place-test.true (sym c.step_at.ensures ∙ c.in_err-state.was)) ∙ c.loop-place.invariant in
    let e : c.from_residual.result ≡ walk m c.args.start ks = p.1 ∙ ap Err p.2 ∙ w in
    record { value = e; known_walks_end_known = walk_known m (g.met.M.Model.lawful c.args.model.now) c.args.start ks _ e }

pub returns : goal.returns
returns g c =
    let m = g.M.Model.meaning c.args.model.now in
    let ks = c.args.settings.now in
    let e = sym (walk_ends m c.loop-place.state ks c.loop-place.place c.loop-place-test.false) ∙ c.loop-place.invariant in
    record { value = e; known_walks_end_known = walk_known m (g.met.M.Model.lawful c.args.model.now) c.args.start ks _ e }
