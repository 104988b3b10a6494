-- the search from the first state of one word
use Rattle.std.proofs.Common.{ℕ, List, [], ◌∷◌, length}
use Rattle.std.proofs.lemmas.Result.{IfOk-weaker}
use Rattle.chi_trace.specs.Explains.{is_place}
use Rattle.chi_trace.specs.Granules.{Finishes}
use Rattle.chi_search.specs.Found.{IfNothing, IfOrder}
use Rattle.chi_search.specs.Paths.{AllDead}
use Rattle.chi_search.specs.Positions.{Position, is_left}
use Rattle.chi_search.specs.StateSets.{Has}
use Rattle.chi_search.proofs.FirstAndLast.{first_ready}
use Rattle.chi_search.proofs.OneStart.{none_from_one, order_from_one}
use Rattle.chi_search.proofs.order.order_of.Goals as goal

pub order_from-requires-clause-ready : goal.order_from-requires-clause-ready
order_from-requires-clause-ready g c = first_ready c.args.ops.now (c.args.word ∷ []) c.in_ok-from.from c.in_ok-from.ensures

pub returns-clause-order : goal.returns-clause-order
returns-clause-order g c =
    let ops = c.args.ops.now in
    let layer = c.in_ok-from.from in
    IfOk-weaker c.order_from.result
    (λ found. IfOrder found (λ x. (p : Position) × Has layer p × Finishes ops (is_left (length ops) p) p.word c.args.final_word x))
    (λ found. IfOrder found (Finishes ops (is_place ops) c.args.word c.args.final_word))
    (order_from_one ops c.args.word layer c.args.final_word c.in_ok-from.ensures) c.order_from.ensures.order

pub returns-clause-nothing : goal.returns-clause-nothing
returns-clause-nothing g c =
    let ops = c.args.ops.now in
    let layer = c.in_ok-from.from in
    IfOk-weaker c.order_from.result (λ found. IfNothing found (AllDead ops c.args.final_word layer))
    (λ found. IfNothing found ((order : List ℕ) → Finishes ops (is_place ops) c.args.word c.args.final_word order → ⊥))
    (none_from_one ops c.args.word layer c.args.final_word c.in_ok-from.ensures) c.order_from.ensures.nothing
