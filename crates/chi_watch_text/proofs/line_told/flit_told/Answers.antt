-- the flit that the port took stands before the others
use Rattle.std.proofs.Common.{ap, sym, ◌∙◌, List, Ok, map}
use Rattle.chi_events.specs.declared.event.EventKind.{EventKind}
use Rattle.chi_watch_text.specs.LineTold.{taken_told, with_flit}
use Rattle.chi_watch_text.proofs.line_told.flit_told.Goals as goal

pub returns-in_ok-at_time-in-Ok-clause-told : goal.returns-in_ok-at_time-in-Ok-clause-told
returns-in_ok-at_time-in-Ok-clause-told c = λ seen has.
    let f = c.args.flit.now in (
      with_flit seen f,
      ap (taken_told seen f) (c.in-Ok.ensures.fits seen.flits has.flits)
          ∙ ap (λ (kinds : List EventKind). Ok (record { events = map (λ k. record { time = f.time; kind = k }) kinds; seen = with_flit seen f }))
          (sym (c.deref.ensures.value ∙ c.in-Ok.ensures.told seen.flits has.flits))
          ∙ ap (λ l. Ok (record { events = l; seen = with_flit seen f })) (sym c.in_ok-at_time-in-Ok.ensures),
      record { flits = c.in-Ok.ensures.seen seen.flits has.flits; points = has.points },
    )
