-- writes that agree commute
use Rattle.std.proofs.Common.{sym, ◌∙◌, arith}
use Rattle.chi_search.proofs.Writes.{agreeing_writes}
use Rattle.chi_search.proofs.commuting.are_agreeing_writes.Goals as goal

pub returns-then-granule : goal.returns-then-granule
returns-then-granule c is =
    agreeing_writes c.args.op.now c.args.other.now c.kind.ensures.lawful c.kind-2.ensures.lawful (sym c.kind.ensures.value ∙ c.in-Write-Write.is-0)
    (sym c.kind-2.ensures.value ∙ c.in-Write-Write.is-1) (omega arith) (c.agree.ensures is)
