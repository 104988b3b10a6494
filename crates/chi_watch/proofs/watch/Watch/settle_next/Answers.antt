-- the granule that was noted first is settled, where it is quiet
use Rattle.std.proofs.Common.{◌≡◌, ℕ, ◌==◌, false, ap, sym, subst, ◌∙◌}
use Rattle.std.proofs.lemmas.Result.{IfOk-weaker}
use Rattle.std.specs.List.{list_any}
use Rattle.chi_events.specs.Granules.{granule_of_request}
use Rattle.chi_watch.specs.Changes.{GranuleIsSettled}
use Rattle.chi_watch.specs.Watches.{WatchValue, Watches, granule}
use Rattle.chi_watch.proofs.SettledOn.{watches_settled}
use Rattle.chi_watch.proofs.watch.Watch.settle_next.Goals as goal

pub returns-clause-watches : goal.returns-clause-watches
returns-clause-watches g c =
    let v : WatchValue = record { outstanding = c.self.inside.outstanding; granules = c.self.inside.granules.entries; ended = c.self.inside.ended; shown = c.self.inside.shown } in
    let same : v ≡ c.args.self.now = c.self.view_is ∙ c.in-Some.ensures.same in
    let at : c.args.time ≡ v.outstanding.time = c.requires.at ∙ ap (λ (w : WatchValue). w.outstanding.time) (sym same) in
    let entries = c.settle_granule.new.granules.entries in
    let quiet : list_any (λ p. granule_of_request p == c.in-Some.granule) v.outstanding.requests ≡ false =
    subst (λ (w : WatchValue). list_any (λ p. granule_of_request p == c.in-Some.granule) w.outstanding.requests ≡ false) (sym c.self.view_is) (sym c.is_open.ensures ∙ c.if-is_open.false) in
    IfOk-weaker c.settle_granule.result _ _
    (λ done settled events ended was. watches_settled v c.in-Some.granule entries quiet
    (subst (λ (t : ℕ). GranuleIsSettled c.in-Some.granule t (granule v) (granule (record v { granules = entries }))) at settled) events ended (subst (Watches events ended) (sym same) was))
    c.settle_granule.ensures.settled
