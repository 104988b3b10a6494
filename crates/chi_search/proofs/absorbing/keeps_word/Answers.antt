-- one that keeps all bits keeps the word
use Rattle.std.proofs.Common.{subst}
use Rattle.std.proofs.lemmas.List.{get_or_default}
use Rattle.chi_fields.specs.Access.{IsLawful}
use Rattle.chi_trace.specs.declared.operation.Operation.{Operation}
use Rattle.chi_trace.specs.Explains.{at, nothing}
use Rattle.chi_search.proofs.Idle.{idle_kept}
use Rattle.chi_search.proofs.absorbing.keeps_word.Goals as goal

pub returns-then-place-effects : goal.returns-then-place-effects
returns-then-place-effects c is =
    idle_kept (at c.args.ops.now c.args.place)
    (subst (λ (op : Operation). IsLawful op.access) (get_or_default c.args.ops.now c.args.place c.index-ops-place.result nothing c.requires.place)
    c.addr-addr.ensures.lawful)
    (c.is_kept.ensures is (at c.args.ops.now c.args.place) (c.requires.effects c.args.place c.if-place-effects.true))
