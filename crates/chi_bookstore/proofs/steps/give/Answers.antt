-- One number gets a seat of its own.
use Rattle.std.proofs.Common.{ap, subst, ℕ}
use Rattle.atomic_table.specs.Table.{Splits}
use Rattle.chi_rule.specs.declared.view.View.{View}
use Rattle.chi_rule.specs.Views.{alone, rest_of}
use Rattle.chi_bookstore.proofs.Book.{Rule, book_splits}
use Rattle.chi_bookstore.proofs.steps.give.Goals as goal

pub split_seat-requires : goal.split_seat-requires
split_seat-requires g c =
    let v : View = c.args.seat.now.me.0 in
    let o = c.args.table.now.shared.key in (
      c.requires.own,
      c.requires.some,
      subst (λ (n : ℕ). Splits (Rule o) c.args.seat.now.id v (rest_of n v) (alone n v)) c.requires.asked
          (book_splits o c.args.seat.now.id v c.args._src (ap (λ (z : View). z.live) c.requires.seat) c.requires.holds),
    )
