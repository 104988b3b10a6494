-- The seat without the number, and the seat of the number alone.
use Rattle.std.proofs.Common.{rules, ◌∙◌, ℕ, List}
use Rattle.chi_history.specs.declared.opening.Opening.{Opening}
use Rattle.chi_rule.specs.declared.view.View.{View}
use Rattle.chi_rule.proofs.SeatLemmas.{seat_alone, seat_rest}
use Rattle.chi_bookstore.proofs.home.BookStoreHome.split.Goals as goal

pub returns-clause-own : goal.returns-clause-own
returns-clause-own g c =
    let o : Opening = c.args.self.now.values in
    let own = c.requires.own in
    let src : ℕ = c.args.src in
    let v : View = c.args.seat.now.table_seat.me.0 in
    let numbers : List ℕ = c.args.seat.now.numbers in (
      record {
        table = c.give-table_seat.ensures.own.0 ∙ own.table;
        slots = (λ i. (c.give-table_seat.ensures.rest i).1) ∙ own.slots;
        opening = seat_rest o numbers c.remove.new.self v src c.give-table_seat.new.seat.me.0 own.opening c.remove.ensures (λ i. (c.give-table_seat.ensures.rest i).0);
      },
      record {
        table = c.give-table_seat.ensures.own.1 ∙ own.table;
        slots = λ i. (c.give-table_seat.ensures.alone i).1;
        opening = seat_alone o numbers c.only-alone.result v src c.give-table_seat.result.me.0 own.opening c.requires.holds c.only-alone.ensures (λ i. (c.give-table_seat.ensures.alone i).0);
      },
    )

pub returns-clause-rest : goal.returns-clause-rest
returns-clause-rest g c = search rules steps 500000
