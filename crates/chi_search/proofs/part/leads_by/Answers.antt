-- what settling leads to goes on where the others are settled too, and a word with these bits leads on where they do
use Rattle.std.proofs.Common.{ap, subst, sym, ◌∙◌}
use Rattle.std.specs.Int.{bit_at}
use Rattle.chi_search.specs.Outcomes.{HasBits}
use Rattle.chi_search.specs.Positions.{position_of}
use Rattle.chi_search.proofs.Within.{joined}
use Rattle.chi_search.proofs.WithinMoves.{agree_and, is_not}
use Rattle.chi_search.proofs.part.leads_by.Goals as goal

pub returns-clause-dead : goal.returns-clause-dead
returns-clause-dead c none final_word all u has goes =
    let mask = c.args.part.now.mask in
    let bits = subst (HasBits mask u) c.in-Some.is has in
    let agree = joined mask u c.in-Some.word c.settle.new.to.word bits
    (λ k one. agree_and mask c.in-Some.word k one ∙ ap (λ n. bit_at n k) (sym c.in_ok-settle.ensures.word)) in
    all (position_of c.absorb.new.state) (c.has.ensures (is_not c.has.result none))
    (c.in_ok-absorb.ensures.goes_on final_word (goes (position_of c.settle.new.to) c.in_ok-settle.ensures.left agree))
