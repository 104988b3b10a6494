-- one event more was recorded
use Rattle.std.proofs.Common.{◌≡◌, ◌++◌, Bool, List, subst}
use Rattle.std.specs.BTreeMap.{get}
use Rattle.std.specs.Ordering.{nat_cmp}
use Rattle.chi_trace.specs.declared.words.GranuleWord.{GranuleWord}
use Rattle.chi_watch_text.specs.Recorded.{HasWords, opening_told, write_told}
use Rattle.chi_watch_text.proofs.Recordings.{recorded_more}
use Rattle.chi_watch_text.proofs.recorded.Recording.record.Goals as goal

pub returns-clause-recorded : goal.returns-clause-recorded
returns-clause-recorded c =
    let e = c.args.event.now in
    let is = c.is_told_again-is_again.ensures in
    recorded_more c.args.event.now c.in_ok-ended.ended c.args.self.now
    (record { watch = c.record_event.new.watch; ended = c.add_some.new.items; writes = c.add_words.new.writes; opening = c.add_words.new.opening; final_words = c.add_words.new.final_words })
    c.in_ok-ended.ensures.taken c.in_ok-ended.ensures.fits c.in_ok-add_some.ensures
    (subst (λ (b : Bool). c.add_words.new.writes.items ≡ c.args.self.now.writes.items ++ write_told b e.time e.kind) is c.in_ok-add_words.ensures.writes)
    (subst (λ (b : Bool). (before : List GranuleWord) → HasWords before (get nat_cmp c.args.self.now.opening) → HasWords (before ++ opening_told b e.kind) (get nat_cmp c.add_words.new.opening)) is c.in_ok-add_words.ensures.opening)
    c.in_ok-add_words.ensures.final_words
