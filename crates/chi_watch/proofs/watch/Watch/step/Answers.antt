-- one event more is taken
use Rattle.std.proofs.Common.{◌≡◌, ◌≤◌, None, nat_lt, sym, subst}
use Rattle.std.proofs.lemmas.Bool.{ltb-false}
use Rattle.std.specs.BTreeMap.{get}
use Rattle.std.specs.Ordering.{nat_cmp}
use Rattle.chi_events.specs.declared.fault.EventFault.TheVariants as event_fault
use Rattle.chi_events.specs.Outstanding.{kind_fault}
use Rattle.chi_watch.specs.Watches.{WatchValue, Watches, granule_fault}
use Rattle.chi_watch.proofs.Taken.{none_of, taken}
use Rattle.chi_watch.proofs.watch.Watch.step.Goals as goal

pub returns-clause-taken : goal.returns-clause-taken
returns-clause-taken g c events ended before =
    let e = c.args.event.now in
    let w : WatchValue = record { outstanding = c.self.inside.outstanding; granules = c.self.inside.granules.entries; ended = c.self.inside.ended; shown = c.self.inside.shown } in
    let was : Watches events ended w = subst (Watches events ended) (sym c.self.view_is) before in
    let fits : granule_fault w e.time e.kind ≡ None = subst (λ (v : WatchValue). granule_fault v e.time e.kind ≡ None) (sym c.self.view_is) c.in_ok-admits.ensures.fits in
    let later : w.outstanding.time ≤ e.time =
    ltb-false e.time w.outstanding.time (none_of (nat_lt e.time w.outstanding.time) event_fault.TimeFalls (kind_fault w.outstanding.requests e.kind) c.in_ok-ended.ensures.taken) in
    taken events ended w e c.take.new.self c.in_ok-ended.ended (get nat_cmp c.close_ended.new.granules) c.update_granules.new.granules.entries c.one_more-self-inside.result fits c.in_ok-ended.ensures.time later
    c.in_ok-ended.ensures.requests c.in_ok-ended.ensures.ended c.in_ok-ended.ensures.about c.in_ok-close_ended.ensures.closed c.in_ok-update_granules.ensures (c.in_ok-ended.ensures.tells events ended was.tells) c.one_more-self-inside.ensures was
