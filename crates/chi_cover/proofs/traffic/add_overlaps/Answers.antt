-- one transaction more
use Rattle.std.proofs.Common.{◌≡◌, ◌<◌, Bool, sym, subst, ap, ◌∙◌, arith}
use Rattle.std.proofs.lemmas.List.{get_or_default}
use Rattle.chi_trace.specs.declared.operation.Operation.{Operation}
use Rattle.chi_trace.specs.Explains.{at, nothing}
use Rattle.chi_cover.specs.declared.bin.Bin.{Bin}
use Rattle.chi_cover.specs.declared.bin.Bin.TheVariants.{Overlap}
use Rattle.chi_cover.specs.declared.bin.Transaction.{Transaction}
use Rattle.chi_cover.specs.Added.{AreAdded}
use Rattle.chi_cover.specs.Bins.{all_transactions}
use Rattle.chi_cover.specs.Traffic.{has_transaction, transaction_of}
use Rattle.chi_cover.proofs.Sums.{more_no, more_yes}
use Rattle.chi_cover.proofs.traffic.add_overlaps.Goals.{then-has_transaction, else-has_transaction}
use Rattle.chi_cover.proofs.traffic.add_overlaps.Goals as goal

pub loop-earlier-preserved : goal.loop-earlier-preserved
loop-earlier-preserved c =
    let ops = c.args.ops.now in
    let place = c.args.place in
    let i = c.loop-earlier.earlier-index in
    let f : Transaction → Bin = λ t. Overlap t (transaction_of (at ops place).access.kind) in
    let p : Transaction → Bool = has_transaction ops c.args.places.now in
    let later : c.transaction_of-later.result ≡ transaction_of (at ops place).access.kind =
    c.transaction_of-later.ensures ∙ ap transaction_of (c.kind.ensures.value ∙ ap (λ (o : Operation). o.access.kind) (get_or_default ops place c.index-ops-place.result nothing c.requires.place)) in
    let below : i < 6 = omega arith in
    elim c.if-has_transaction.branch [
      | then-has_transaction w ↦
          subst (AreAdded _ c.args.counts.now) (sym w.counts-is)
          (more_yes f p all_transactions i _ below (sym c.has_transaction.ensures ∙ w.if-has_transaction.true) c.loop-earlier.invariant (rw later at w.add_bin.ensures))
      | else-has_transaction w ↦
          subst (AreAdded _ c.args.counts.now) (sym w.counts-is)
          (more_no f p all_transactions i _ below (sym c.has_transaction.ensures ∙ w.if-has_transaction.false) c.loop-earlier.invariant)
    ]
