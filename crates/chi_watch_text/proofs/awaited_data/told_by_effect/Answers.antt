-- where an error says that its request took no effect
use Rattle.std.proofs.Common.{◌≡◌, subst, List}
use Rattle.std.proofs.lemmas.Result.{IfOk-weaker}
use Rattle.chi_events.specs.declared.event.Event.{Event}
use Rattle.chi_watch_text.specs.ErrorEffects.{Awaits, told_without_effect, with_events}
use Rattle.chi_watch_text.specs.declared.line_format.ErrorEffect.TheVariants as effect
use Rattle.chi_watch_text.proofs.ErrorsTold.{by_effect}
use Rattle.chi_watch_text.proofs.awaited_data.told_by_effect.Goals as goal

pub returns-in-None : goal.returns-in-None
returns-in-None c =
    IfOk-weaker c.told.result _ _
    (λ told tells.
    by_effect c.args.effect c.args.events.items told.items c.args.awaited.now c.told.new.self c.in-None.is
    (subst (λ (l : List Event). (older : List Event) → Awaits effect.None older c.args.awaited.now → (told.items ≡ told_without_effect older l) × Awaits effect.None (with_events older l) c.told.new.self) c.deref.ensures.value tells))
    c.told.ensures
