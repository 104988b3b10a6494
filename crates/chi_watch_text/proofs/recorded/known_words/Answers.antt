-- they stand in order, and are found
use Rattle.std.specs.Prelude.{is_none}
use Rattle.std.proofs.Common.{ℕ, Bool, List, subst, sym, ap, ◌∙◌}
use Rattle.chi_trace.specs.declared.words.GranuleWord.{GranuleWord}
use Rattle.chi_trace.specs.Words.{AreInOrder, find_word}
use Rattle.chi_watch.specs.Watches.{unknown_in}
use Rattle.chi_watch_text.proofs.KnownWords.{found_known, in_order}
use Rattle.chi_watch_text.proofs.recorded.known_words.Goals as goal

pub unreachable-requires : goal.unreachable-requires
unreachable-requires c =
    let known : ℕ → Bool = λ g. is_none (unknown_in c.args.watch.now g) in
    let order : AreInOrder c.args.words.now = c.as_slice.ensures.in_order in
    c.new.ensures.none c.in-None.is (subst AreInOrder (sym (rw c.as_slice.ensures.words at c.in_ok-known.ensures)) (in_order known c.args.words.now order))

pub returns : goal.returns
returns c g =
    let known : ℕ → Bool = λ g. is_none (unknown_in c.args.watch.now g) in
    ap (λ (l : List GranuleWord). find_word l g) (c.in-Some.ensures.some ∙ rw c.as_slice.ensures.words at c.in_ok-known.ensures) ∙ found_known known c.args.words.now g
