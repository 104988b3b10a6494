-- Two seats become one, and the load after it shows what both had seen.
use Rattle.std.proofs.Common.{rules, ap}
use Rattle.chi_rule.specs.declared.view.View.{View}
use Rattle.chi_bookstore.proofs.Book.{book_settles, book_unites}
use Rattle.chi_bookstore.proofs.steps.take_in.Goals as goal

pub join_seat-requires : goal.join_seat-requires
join_seat-requires g c =
    let v : View = c.args.seat.now.me.0 in
    let o = c.args.table.now.shared.key in
    (c.requires.own.0, c.requires.other_own.0, c.requires.other_own.1, c.requires.some, book_unites o c.args.seat.now.id v c.args.other.id c.args.other.me.0 (ap (λ (z : View). z.live) c.requires.seat))

pub load-requires : goal.load-requires
load-requires g c =
    let t = c.args.table.now.shared in
    (search rules, c.requires.some, book_settles t.key t.table_id.slots c.join_seat.new.seat.id c.join_seat.new.seat.me (λ i. (c.join_seat.ensures.2 i).0.live))

pub returns-clause-settled : goal.returns-clause-settled
returns-clause-settled g c = search rules steps 3000000
