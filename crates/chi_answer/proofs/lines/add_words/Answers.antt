-- all words, or 16 of them and how many more there are
use Rattle.std.proofs.Common.{◌<◌, append_assoc, arith, length}
use Rattle.std.proofs.lemmas.Bool.{le-ltb, lt-ltb}
use Rattle.chi_answer.specs.Lines.{word_lines}
use Rattle.chi_answer.proofs.lines.add_words.Goals as goal

pub returns-then-words-le16 : goal.returns-then-words-le16
unfolding word_lines
returns-then-words-le16 c = rw (le-ltb 16 (length c.args.words.now) c.if-words-le16.true) (c.add_each.ensures)

pub returns : goal.returns
unfolding word_lines
returns c =
    let more : 16 < length c.args.words.now = omega (arith, c.if-words-le16.false) in
    rw (lt-ltb 16 (length c.args.words.now) more) (simp (c.in_ok-add_each.ensures, append_assoc) at c.add_more.ensures)
