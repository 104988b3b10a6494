-- data tell the old bytes, so an operation that leaves one word leaves each
use Rattle.std.proofs.Common.{Some, sym, ap, ◌∙◌, eqb-true}
use Rattle.chi_search.proofs.Idle.{idle_data}
use Rattle.chi_search.proofs.at_word.is_idle.Goals as goal

pub returns-in-CompData : goal.returns-in-CompData
returns-in-CompData c stays =
    idle_data c.args.op.now c.args.word c.in-CompData.field-0 c.addr-addr.ensures.lawful c.ranges.word.fits (c.in-Some.is ∙ ap Some c.in-CompData.is)
    c.requires.fits (sym (eqb-true c.args.word c.args.after stays ∙ c.requires.after))
