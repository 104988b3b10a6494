-- each kind of event takes the request that it is about further
use Rattle.std.proofs.Common.{[], None, refl, ap, ◌∙◌}
use Rattle.chi_events.specs.EventEffects.{with_data, with_reply}
use Rattle.chi_events.specs.Granules.{granule_of_request}
use Rattle.chi_events.specs.Outstanding.{data_fault, drop_fault, refused_fault, reply_fault}
use Rattle.chi_events.specs.declared.outstanding.Open.{Open}
use Rattle.chi_events.proofs.ByKind.{changes, fits_there, of_kind, still_there, taken_further}
use Rattle.chi_events.proofs.apply_event.apply_event.Goals as goal

pub end_if_complete-requires : goal.end_if_complete-requires
end_if_complete-requires c =
    let is = c.in_ok-now-in-Data.ensures.taken.1 in
    fits_there c.in-Data.packet.id c.in_ok-request-in-Data.request c.in_ok-now-in-Data.now c.args.requests.now c.in_ok-request-in-Data.ensures.found (ap (λ (o : Open). o.id) is)
    (ap granule_of_request is) (ap (λ (o : Open). o.start) is)

pub returns-in_ok-now-in-Data-clause-taken : goal.returns-in_ok-now-in-Data-clause-taken
returns-in_ok-now-in-Data-clause-taken c =
    let requests = c.args.requests.now in
    let packet = c.in-Data.packet in
    let o = c.in_ok-request-in-Data.request in
    let found = c.in_ok-request-in-Data.ensures.found in
    let taken = c.in_ok-now-in-Data.ensures.taken in
    let there = still_there packet.id o c.in_ok-now-in-Data.now requests found (ap (λ (o : Open). o.id) taken.1) in
    of_kind requests c.args.time _ _ _ _ c.in-Data.is
    (taken_further (data_fault packet) packet.id (with_data packet) c.args.time requests c.end_if_complete.result c.end_if_complete.new.requests o c.in_ok-now-in-Data.now found taken
    (c.end_if_complete.ensures.left o there) c.end_if_complete.ensures.ended)

pub end_if_complete-requires-in-Reply : goal.end_if_complete-requires-in-Reply
end_if_complete-requires-in-Reply c =
    let is = c.in_ok-now-in-Reply.ensures.taken.1 in
    fits_there c.in-Reply.sent.id c.in_ok-request-in-Reply.request c.in_ok-now-in-Reply.now c.args.requests.now c.in_ok-request-in-Reply.ensures.found (ap (λ (o : Open). o.id) is)
    (ap granule_of_request is) (ap (λ (o : Open). o.start) is)

pub returns-in_ok-now-in-Reply-clause-taken : goal.returns-in_ok-now-in-Reply-clause-taken
returns-in_ok-now-in-Reply-clause-taken c =
    let requests = c.args.requests.now in
    let sent = c.in-Reply.sent in
    let o = c.in_ok-request-in-Reply.request in
    let found = c.in_ok-request-in-Reply.ensures.found in
    let taken = c.in_ok-now-in-Reply.ensures.taken in
    let there = still_there sent.id o c.in_ok-now-in-Reply.now requests found (ap (λ (o : Open). o.id) taken.1) in
    of_kind requests c.args.time _ _ _ _ c.in-Reply.is
    (taken_further (reply_fault sent) sent.id (with_reply sent) c.args.time requests c.end_if_complete-in-Reply.result c.end_if_complete-in-Reply.new.requests o c.in_ok-now-in-Reply.now found taken
    (c.end_if_complete-in-Reply.ensures.left o there) c.end_if_complete-in-Reply.ensures.ended)

pub returns-in_ok-outstanding_with-in-Dropped-clause-taken : goal.returns-in_ok-outstanding_with-in-Dropped-clause-taken
returns-in_ok-outstanding_with-in-Dropped-clause-taken c =
    let requests = c.args.requests.now in
    let o = c.in_ok-outstanding_with-in-Dropped.field-0 in
    let found = c.in_ok-outstanding_with-in-Dropped.ensures.found in
    of_kind requests c.args.time _ _ _ _ c.in-Dropped.is
    (ap drop_fault found, changes c.in-Dropped.id (λ o. []) (λ o. None) requests None c.remove.new.self o found (c.remove.ensures o found) refl)

pub returns-in_ok-refusable-in-Refused-clause-taken : goal.returns-in_ok-refusable-in-Refused-clause-taken
returns-in_ok-refusable-in-Refused-clause-taken c =
    let requests = c.args.requests.now in
    let o = c.in_ok-request-in-Refused.request in
    let found = c.in_ok-request-in-Refused.ensures.found in
    of_kind requests c.args.time _ _ _ _ c.in-Refused.is (
      ap (refused_fault c.in-Refused.reason) found ∙ c.in_ok-refusable-in-Refused.ensures.fits,
      changes c.in-Refused.id (λ o. []) (λ o. None) requests None c.remove-in-Refused.new.self o found (c.remove-in-Refused.ensures o found) refl,
    )
