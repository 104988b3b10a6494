-- the line tells its events
use Rattle.std.proofs.Common.{ap, subst, sym, ◌∙◌}
use Rattle.chi_watch_text.specs.ErrorEffects.{Awaits, told_by_effect, with_events}
use Rattle.chi_watch_text.specs.LineTold.{line_told}
use Rattle.chi_watch_text.specs.declared.line_format.ErrorEffect.{ErrorEffect}
use Rattle.chi_watch_text.proofs.Readings.{line_taken_as}
use Rattle.chi_watch_text.proofs.reading.Reading.take_line.Goals as goal

pub returns-clause-told : goal.returns-clause-told
returns-clause-told c read keeps =
    let format = c.args.self.now.format in
    let line = c.args.self.now.line.items in
    let events = c.in_ok-events.events.items in
    let told = c.in_ok-self.field-0.items in
    let effect_is = c.effect_of-effect.ensures in
    let (seen, is, follows) = c.in_ok-events.ensures.told read.seen keeps.seen in
    let (told_is, awaits) = c.in_ok-self.ensures read.events (subst (λ (e : ErrorEffect). Awaits e read.events c.args.self.now.awaited) (sym effect_is) keeps.awaits) in
    line_taken_as format c.args.number line read seen events told c.line_told.new.port c.told_by_effect.new.awaited
    (ap (line_told format read.seen c.args.number) (sym c.deref.ensures.value) ∙ is)
    (told_is ∙ ap (λ (e : ErrorEffect). told_by_effect e read.events events) effect_is) follows
    (subst (λ (e : ErrorEffect). Awaits e (with_events read.events events) c.told_by_effect.new.awaited) effect_is awaits)
