-- one text more
use Rattle.std.proofs.Common.{◌≡◌, ◌++◌, ℕ, length, sym, ap, subst, ◌∙◌, append-nil, arith}
use Rattle.chi_page.specs.Listed.{comma, listed}
use Rattle.chi_page.specs.Granules.{requests_json}
use Rattle.std.specs.Prelude.{decimal}
use Rattle.std.proofs.lemmas.List.{get_or_default}
use Rattle.chi_trace.specs.Explains.{at, nothing}
use Rattle.chi_trace.specs.declared.operation.Operation.{Operation}
use Rattle.chi_page.proofs.Joined.{listed_more}
use Rattle.chi_page.proofs.lists.add_requests.Goals as goal

pub loop-number-init : goal.loop-number-init
unfolding listed
loop-number-init c = sym (append-nil c.args.to.now.items)

pub loop-number-preserved : goal.loop-number-preserved
loop-number-preserved c =
    listed_more comma (λ n. decimal (at c.args.ops.now n).number) c.args.to.now.items c.loop-number.number c.loop-number.to.items _ _
    c.loop-number.invariant c.in_ok-add_between.ensures
    (subst (λ (n : ℕ). c.add_request.new.to.items ≡ c.add_between.new.to.items ++ decimal n)
    (ap (λ (o : Operation). o.number) (c.index-ops-number.is ∙ get_or_default c.args.ops.now c.loop-number.number c.index-ops-number.result nothing (omega arith))) c.in_ok-add_request.ensures)

pub returns : goal.returns
unfolding requests_json
returns c =
    let all : c.loop-number.number ≡ length c.args.ops.now = omega arith in
    c.loop-number.invariant ∙ ap (λ (n : ℕ). c.args.to.now.items ++ listed comma (λ n. decimal (at c.args.ops.now n).number) n) all
