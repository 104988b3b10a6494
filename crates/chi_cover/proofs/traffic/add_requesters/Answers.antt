-- one requester more
use Rattle.std.proofs.Common.{◌≡◌, ◌<◌, Bool, false, ap, get_or, sym, subst, ◌∙◌, arith}
use Rattle.std.proofs.lemmas.List.{get_or_default}
use Rattle.chi_trace.specs.declared.operation.Operation.{Operation}
use Rattle.chi_trace.specs.Explains.{at, nothing}
use Rattle.chi_cover.specs.declared.bin.Bin.TheVariants.{Requester}
use Rattle.chi_cover.specs.Added.{AreAdded}
use Rattle.chi_cover.specs.Bins.{yes_and_no}
use Rattle.chi_cover.specs.Traffic.{has_requester}
use Rattle.chi_cover.proofs.Sums.{more_no, more_yes}
use Rattle.chi_cover.proofs.traffic.add_requesters.Goals.{then-has_requester, else-has_requester}
use Rattle.chi_cover.proofs.traffic.add_requesters.Goals as goal

pub loop-same-preserved : goal.loop-same-preserved
loop-same-preserved c =
    let ops = c.args.ops.now in
    let place = c.args.place in
    let i = c.loop-same.same-index in
    let p : Bool → Bool = has_requester ops c.args.places.now (at ops place).src in
    let found : c.has_requester.result ≡ p (get_or yes_and_no i false) =
    c.has_requester.ensures ∙ ap (λ (o : Operation). has_requester ops c.args.places.now o.src (get_or yes_and_no i false)) (get_or_default ops place c.index-ops-place.result nothing c.requires.place) in
    let below : i < 2 = omega arith in
    elim c.if-has_requester.branch [
      | then-has_requester w ↦
          subst (AreAdded _ c.args.counts.now) (sym w.counts-is)
          (more_yes Requester p yes_and_no i _ below (sym found ∙ w.if-has_requester.true) c.loop-same.invariant w.add_bin.ensures)
      | else-has_requester w ↦
          subst (AreAdded _ c.args.counts.now) (sym w.counts-is)
          (more_no Requester p yes_and_no i _ below (sym found ∙ w.if-has_requester.false) c.loop-same.invariant)
    ]
