-- where an order goes on by an operation, one goes on by an equal one before it
use Rattle.std.proofs.Common.{◌≡◌, ℕ, ◌<◌, ◌≤◌, ◌^◌, List, length, Option, sym, subst}
use Rattle.chi_trace.specs.declared.operation.Operation.{Operation}
use Rattle.chi_trace.specs.Explains.{at}
use Rattle.chi_trace.specs.Granules.{next}
use Rattle.chi_search.specs.Equal.{AreEqual}
use Rattle.chi_search.specs.Moves.{ByTaking, CanCome, Ends, Takes}
use Rattle.chi_search.specs.Positions.{Position, Settles, is_left}
use Rattle.chi_search.specs.Searchable.{AreSorted}
use Rattle.chi_search.proofs.Exchange.{exchange}
use Rattle.chi_search.proofs.Moves.{by_first, first_ends, from_taken}
use Rattle.chi_search.proofs.OneMore.{one_more}
use Rattle.chi_search.proofs.Settling.{left_is}

pub by_equal : (ops : List Operation) (final_word : Option ℕ) (p : Position) (x y : ℕ) → AreSorted ops → y ≤ x → AreEqual (at ops x) (at ops y)
    → CanCome ops p y
    → ByTaking ops final_word p x → ByTaking ops final_word p y
by_equal ops final_word p x y sorted before equal comes taking = by_order (taking.3 q.0 takes)
  where
    comes_x : CanCome ops p x
    comes_x = taking.0

    inside : (x < length ops) × (p.first ≤ x)
    inside = left_is (length ops) p x comes_x.0

    q : (q : Position) × (Settles p x q) × (q.word ≡ next (at ops x) p.word)
    q = one_more p x (next (at ops x) p.word) inside.1

    takes : Takes ops p x q.0
    takes = record { fits = taking.1; word = q.2; left = q.1 }

    by_order : Ends ops final_word q.0 → ByTaking ops final_word p y
    by_order (order, c) =
        by_first ops final_word p y _ comes (exchange ops (is_left (length ops) p) p.word final_word x y (at ops p.first).end order (record {
          equal = equal;
          x_starts = comes_x.1;
          y_starts = comes.1;
          ends = first_ends ops p y sorted comes.0;
          later = sorted.0 y x before inside.0;
        }) comes_x.0 comes.0 (λ j left. first_ends ops p j sorted left)
        (from_taken ops final_word p q.0 x order sorted comes_x takes (subst (λ w. w < 2 ^ 64) (sym q.2) taking.2) c))
