-- The seat without the number, and the seat of it, are of the opening.
use Rattle.std.proofs.Common.{rules, ℕ, List, ◌∙◌}
use Rattle.crossbeam_utils.specs.Seq.{cell_view}
use Rattle.chi_history.specs.declared.opening.Opening.{Opening}
use Rattle.chi_rule.specs.declared.view.View.{View}
use Rattle.chi_rule.proofs.SeatLemmas.{seat_alone, seat_rest}
use Rattle.chi_lockstore.proofs.home.LockStoreHome.split.Goals as goal

pub returns-clause-own : goal.returns-clause-own
returns-clause-own g c =
    let o : Opening = c.args.self.now.values in
    let v : View = cell_view c.args.seat.now.pass in
    let numbers : List ℕ = c.args.seat.now.numbers in (
      (
        c.give-pass.ensures.own.0.0 ∙ c.requires.own.0,
        seat_rest o numbers c.remove.new.self v c.args.src (cell_view c.give-pass.new.pass) c.requires.own.1 c.remove.ensures c.give-pass.ensures.rest,
      ),
      (
        c.give-pass.ensures.own.1 ∙ c.requires.own.0,
        seat_alone o numbers c.only-alone.result v c.args.src (cell_view c.give-pass.result) c.requires.own.1 c.requires.holds c.only-alone.ensures c.give-pass.ensures.alone,
      ),
    )

pub returns-clause-rest : goal.returns-clause-rest
returns-clause-rest g c = search rules steps 3000000
