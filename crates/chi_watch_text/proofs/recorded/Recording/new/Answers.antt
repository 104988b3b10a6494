-- nothing was told
use Rattle.std.proofs.Common.{List, [], refl, sym, subst}
use Rattle.chi_trace.specs.Words.{find_word}
use Rattle.chi_trace.specs.declared.operation.Operation.{Operation}
use Rattle.chi_watch.specs.Watches.{Watches}
use Rattle.chi_watch.specs.WordsTold.{words_told}
use Rattle.chi_watch_text.proofs.recorded.Recording.new.Goals as goal

pub returns : goal.returns
unfolding find_word words_told
returns c = record {
  watches = subst (λ (ops : List Operation). Watches [] ops c.in_ok-new.field-0) (sym c.new-2.ensures.items) c.in_ok-new.ensures.watches;
  writes = c.new-3.ensures.items;
  opening = λ g. rw c.new-4.ensures.empty refl;
  final_words = λ g. rw c.new-5.ensures.empty refl;
}
