-- a line that states no flit
use Rattle.std.specs.Prelude.{IfOk}
use Rattle.std.proofs.Common.{◌≡◌, None, sym, ◌∙◌, subst}
use Rattle.chi_watch_text.specs.LineTold.{stated_in, told_among}
use Rattle.chi_watch_text.specs.Reading.{TellsBy}
use Rattle.chi_watch_text.proofs.line_told.told_among.Goals as goal

pub returns-in-None-clause-told : goal.returns-in-None-clause-told
returns-in-None-clause-told c =
    let none : None ≡ stated_in c.args.number c.args.line.now = sym c.in-None.is ∙ c.in_ok-stated_in.ensures in
    subst
    (λ stated. IfOk c.other_told.result (λ events. TellsBy (λ seen. told_among seen c.args.number c.args.line.now stated) c.args.port.now events.items c.args.port.now))
    none c.other_told.ensures.told
