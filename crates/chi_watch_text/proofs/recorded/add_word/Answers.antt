-- the granule had a word, or has one now
use Rattle.std.proofs.Common.{rules, sym, ◌∙◌}
use Rattle.std.specs.BTreeMap.{get}
use Rattle.std.specs.Ordering.{nat_cmp}
use Rattle.chi_watch.specs.WordsTold.{granule_word}
use Rattle.chi_watch_text.proofs.Recordings.{word_kept, word_noted}
use Rattle.chi_watch_text.proofs.recorded.add_word.Goals as goal

pub returns-then-contains_key : goal.returns-then-contains_key
returns-then-contains_key c before has = word_kept before (granule_word c.args.told.now) (get nat_cmp c.args.words.now) (sym c.contains_key.ensures ∙ c.if-contains_key.true) has

pub returns : goal.returns
returns c before has =
    word_noted before (granule_word c.args.told.now) (get nat_cmp c.args.words.now) (get nat_cmp c.insert.new.self) (sym c.contains_key.ensures ∙ c.if-contains_key.false) (search rules) (λ g apart. search rules) has
