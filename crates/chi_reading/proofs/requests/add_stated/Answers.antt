-- the request is an operation, or it was refused
use Rattle.std.proofs.Common.{sym, ap, ◌∙◌}
use Rattle.chi_json.specs.Members.{or_else}
use Rattle.chi_reading.specs.declared.fault.TraceFault.TheVariants.{InRequest}
use Rattle.chi_reading.specs.Requests.{one_accepted, one_refused}
use Rattle.chi_reading.proofs.Joined.{accepted_by, refused_by}
use Rattle.chi_reading.proofs.requests.add_stated.Goals as goal

pub returns-in_ok-add_accepted-in-Accepted-clause-ok : goal.returns-in_ok-add_accepted-in-Accepted-clause-ok
returns-in_ok-add_accepted-in-Accepted-clause-ok c =
    let observed = ap (or_else (InRequest c.args.place)) (sym c.observed.ensures.observed) ∙ sym c.in_ok-operation-in-Accepted.ensures in
    (one_accepted _, accepted_by _ _ _ c.in-Accepted.reply _ c.in-Accepted.is observed, c.in_ok-add_accepted-in-Accepted.ensures)

pub returns-in_ok-add_refused-in-Refused-clause-ok : goal.returns-in_ok-add_refused-in-Refused-clause-ok
returns-in_ok-add_refused-in-Refused-clause-ok c =
    let refused = ap (or_else (InRequest c.args.place)) (sym c.refused.ensures) ∙ sym c.in_ok-refusal-in-Refused.ensures in
    (one_refused _, refused_by _ _ _ c.in-Refused.reason _ c.in-Refused.is refused, c.in_ok-add_refused-in-Refused.ensures)
