-- it leaves the same bit of 0 and of the greatest word just where it writes
use Rattle.chi_search.proofs.Effects.{blind}
use Rattle.chi_search.proofs.effect.blind_effect.Goals as goal

pub returns : goal.returns
returns c =
    blind c.args.op.now c.in_ok-least.least c.in_ok-greatest.greatest c.addr-addr.ensures.lawful c.requires.blind
    c.in_ok-least.ensures.after c.in_ok-greatest.ensures.after
