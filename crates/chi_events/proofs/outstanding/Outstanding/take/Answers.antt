-- one event more is taken
use Rattle.std.proofs.Common.{◌≤◌, IfSome, All, IsPermutation, [], ◌∷◌, ◌++◌, option_to_list, sym, subst, arith}
use Rattle.chi_events.specs.Operations.{refusals_told}
use Rattle.chi_events.specs.Outstanding.{IsEndOf, IsEndOfAbout, OutstandingValue, StaysOrStarts, Tells, refusal_by}
use Rattle.chi_events.proofs.About.{ends_about}
use Rattle.chi_events.proofs.OneMore.{tells_more}
use Rattle.chi_events.proofs.Opens.{stays_more}
use Rattle.chi_events.proofs.Refusals.{refusals_more}
use Rattle.chi_events.proofs.outstanding.Outstanding.take.Goals as goal

pub invariant_of-self-2 : goal.invariant_of-self-2
invariant_of-self-2 c =
    let e = c.args.event.now in
    let s = c.self.inside in
    let later : s.time ≤ e.time = omega arith in
    (stays_more s.requests s.time e.time c.self.invariant later e.kind c.in_ok-ended.ended c.apply_event.new.requests c.in_ok-ended.ensures.taken.1).are_open

pub returns-clause-tells : goal.returns-clause-tells
returns-clause-tells c events before tells =
    let e = c.args.event.now in
    let s = c.self.inside in
    let o : OutstandingValue = record { requests = s.requests; time = s.time } in
    let later : s.time ≤ e.time = omega arith in
    tells_more events before o e.time (subst (Tells events before) (sym c.self.view_is) tells) later e.kind c.in_ok-ended.ended c.apply_event.new.requests
    c.event_fits.ensures c.in_ok-ended.ensures.taken.0 c.in_ok-ended.ensures.taken.1

pub returns-clause-ended : goal.returns-clause-ended
returns-clause-ended c =
    let e = c.args.event.now in
    let s = c.self.inside in
    let later : s.time ≤ e.time = omega arith in
    subst (λ (o : OutstandingValue). IfSome c.in_ok-ended.ended (IsEndOf o.requests e.time)) c.self.view_is
    (stays_more s.requests s.time e.time c.self.invariant later e.kind c.in_ok-ended.ended c.apply_event.new.requests c.in_ok-ended.ensures.taken.1).ended

pub returns-clause-requests : goal.returns-clause-requests
returns-clause-requests c =
    let e = c.args.event.now in
    let s = c.self.inside in
    let later : s.time ≤ e.time = omega arith in
    subst (λ (o : OutstandingValue). All (StaysOrStarts o.requests e) c.apply_event.new.requests) c.self.view_is
    (stays_more s.requests s.time e.time c.self.invariant later e.kind c.in_ok-ended.ended c.apply_event.new.requests c.in_ok-ended.ensures.taken.1).requests

pub returns-clause-about : goal.returns-clause-about
returns-clause-about c =
    let e = c.args.event.now in
    let s = c.self.inside in
    subst (λ (o : OutstandingValue). IfSome c.in_ok-ended.ended (IsEndOfAbout o.requests e.kind)) c.self.view_is
    (ends_about e.time s.requests c.apply_event.new.requests c.in_ok-ended.ended e.kind c.in_ok-ended.ensures.taken.1)

pub returns-clause-refusals : goal.returns-clause-refusals
returns-clause-refusals c events before tells =
    let e = c.args.event.now in
    let s = c.self.inside in
    let o : OutstandingValue = record { requests = s.requests; time = s.time } in
    subst (λ (o : OutstandingValue). IsPermutation (refusals_told (events ++ e ∷ [])) (refusals_told events ++ option_to_list (refusal_by o.requests e.kind))) c.self.view_is
    (refusals_more events before o (subst (Tells events before) (sym c.self.view_is) tells) e.time e.kind c.in_ok-ended.ended c.apply_event.new.requests c.in_ok-ended.ensures.taken.1)
