-- one request more
use Rattle.std.proofs.Common.{rules, ◌<◌, ◌∙◌, sym, ap, subst, All}
use Rattle.chi_stimulus.specs.Generated.{AreDecided, requesters_of}
use Rattle.chi_stimulus.specs.Object.{IsSmall}
use Rattle.chi_stimulus.specs.Plan.{refusal_at}
use Rattle.chi_stimulus.proofs.Pushed.{all_more, decided_more}
use Rattle.chi_stimulus.proofs.generate.requests.Goals as goal

pub places-preserved : goal.places-preserved
places-preserved g c =
    let before = c.places.invariant in
    let next = c.next_request-request.ensures in
    let pushed = sym c.in_ok-push.ensures.items in
    record {
      count = search rules;
      decided = subst (AreDecided c.args.stimulus.now.region c.args.stimulus.now.refused) pushed (decided_more c.args.stimulus.now.region c.args.stimulus.now.refused _ _ before.decided (next.decided ∙ ap (refusal_at _) (sym before.count)));
      sources = subst (All (λ q. q.src < requesters_of c.args.stimulus.now)) pushed (all_more (λ q. q.src < requesters_of c.args.stimulus.now) _ _ before.sources next.source);
      small = subst (All IsSmall) pushed (all_more IsSmall _ _ before.small next.small);
    }
