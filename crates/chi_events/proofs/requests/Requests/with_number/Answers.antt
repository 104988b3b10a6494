-- the request of a number is the one that is kept by it
use Rattle.std.proofs.Common.{ap, ◌∙◌}
use Rattle.chi_events.specs.Outstanding.{open_with}
use Rattle.chi_events.proofs.Numbers.{with_number}
use Rattle.chi_events.proofs.requests.Requests.with_number.Goals as goal

pub returns : goal.returns
returns c =
    let numbered = with_number c.args.id c.self.inside.by_number.entries c.self.invariant.numbered c.len-count.ensures.valid.0 in
    c.copied.ensures ∙ (c.peek.ensures ∙ (numbered ∙ ap (open_with c.args.id) c.self.view_is))
