use Rattle.std.proofs.Common.{rules, ◌≡◌, Ok}
use Rattle.basin.specs.Making.{given_parameters, parameters, viewed, made}
use Rattle.basin.proofs.Makings.{accepted, refused}
use Rattle.basin.proofs.metres.Basin.new.Goals as goal

pub returns-in_err-check : goal.returns-in_err-check
returns-in_err-check c =
    let p = given_parameters c.args.measures c.args.settings.now in
    let e : viewed parameters c.from_residual.result ≡ made p = search rules in
    record { value = e; accepted_if_all_in_range = accepted p _ e; refused_at_first_out_of_range = refused p _ e }

pub returns-in_err-check_settings : goal.returns-in_err-check_settings
returns-in_err-check_settings c =
    let p = given_parameters c.args.measures c.args.settings.now in
    let e : viewed parameters c.from_residual-in_err-check_settings.result ≡ made p = search rules in
    record { value = e; accepted_if_all_in_range = accepted p _ e; refused_at_first_out_of_range = refused p _ e }

pub returns-clause-accepted_if_all_in_range : goal.returns-clause-accepted_if_all_in_range
returns-clause-accepted_if_all_in_range c =
    let p = given_parameters c.args.measures c.args.settings.now in
    let e : Ok p ≡ made p = search rules in
    accepted p _ e
