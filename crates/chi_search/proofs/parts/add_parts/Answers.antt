-- one part more
use Rattle.std.proofs.Common.{All, subst, sym}
use Rattle.std.proofs.lemmas.List.Elements.{All-push}
use Rattle.chi_search.specs.Parts.{IsPartOf}
use Rattle.chi_search.proofs.parts.add_parts.Goals as goal

pub loop-byte-preserved : goal.loop-byte-preserved
loop-byte-preserved c =
    subst (All (IsPartOf c.args.ops.now c.args.final_word)) (sym c.in_ok-push.ensures.items)
    (All-push (IsPartOf c.args.ops.now c.args.final_word) c.loop-byte.parts.items c.part_from.result c.loop-byte.invariant (c.part_from.ensures c.args.ops.now c.args.final_word))
