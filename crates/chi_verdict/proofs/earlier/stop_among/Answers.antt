-- the granule's operations are explained by themselves where they are among the others
use Rattle.std.proofs.Common.{ℕ, IfSome, filter, sym, subst}
use Rattle.std.specs.Prelude.{IsPermutation}
use Rattle.std.proofs.lemmas.Option.{IfSome_then}
use Rattle.std.proofs.lemmas.Result.{IfOk-weaker}
use Rattle.chi_trace.specs.AtPlaces.{is_in}
use Rattle.chi_trace.specs.Explains.{IsTrace}
use Rattle.chi_trace.specs.Words.{word_or_zero}
use Rattle.chi_judge.specs.Reaches.{IsExplained}
use Rattle.chi_verdict.proofs.Apart.{alike, own_alike}
use Rattle.chi_verdict.proofs.earlier.stop_among.Goals as goal

pub own_stop-requires : goal.own_stop-requires
own_stop-requires g c = subst IsTrace (sym c.deref.ensures.value) c.in_ok-own.ensures.traced

pub returns-clause-unexplained : goal.returns-clause-unexplained
returns-clause-unexplained g c =
    let n = c.args.granule in
    let word = word_or_zero c.args.opening.now n in
    let own = c.deref.result.now in
    let moved = subst (IsPermutation (filter (is_in n) c.args.sorted.now)) (sym c.deref.ensures.value) c.in_ok-own.ensures.moved in
    let Alone = λ (time : ℕ). IsExplained time own n word → ⊥ in
    let Among = λ (time : ℕ). IsExplained time c.args.sorted.now n word → ⊥ in
    IfOk-weaker c.own_stop.result (λ found. IfSome found Alone) (λ found. IfSome found Among)
    (λ found is. IfSome_then found is
    (λ time none explained. none (alike c.granules_stand_alone.ensures time c.args.sorted.now own n word (own_alike c.args.sorted.now own n moved) explained)))
    c.own_stop.ensures.unexplained
