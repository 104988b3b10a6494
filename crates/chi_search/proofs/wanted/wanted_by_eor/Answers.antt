-- an exclusive or, done twice, changes nothing
use Rattle.chi_search.proofs.Wanting.{by_eor}
use Rattle.chi_search.proofs.wanted.wanted_by_eor.Goals as goal

pub returns-clause-wants : goal.returns-clause-wants
returns-clause-wants c =
    by_eor c.args.op.now c.args.word c.args.bits c.in_ok-found.found c.addr-addr.ensures.lawful c.requires.eor c.ranges.word.fits c.ranges.bits.fits
    c.in_ok-found.ensures.after _
