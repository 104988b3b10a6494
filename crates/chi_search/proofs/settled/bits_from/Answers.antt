-- why the 64 bits from a bit of a word on are those
use Rattle.std.proofs.Common.{◌≡◌, ◌+◌, ◌%◌, arith, slice_index, rules}
use Rattle.chi_search.specs.Positions.{words_of}
use Rattle.chi_search.proofs.Bits.{joined, joined_last}
use Rattle.chi_search.proofs.settled.bits_from.Goals as goal

pub returns-in-Some : goal.returns-in-Some
returns-in-Some c =
    let words = words_of c.args.settled.now in
    let next : c.in-Some.next.now ≡ slice_index words (c.args.word + 1) = search rules in
    joined words c.word_of-low.result c.in-Some.next.now c.args.word (c.args.by % 64) (search rules) c.word_of-low.ensures next (omega arith) (omega arith)

pub returns-in-None : goal.returns-in-None
returns-in-None c =
    let words = words_of c.args.settled.now in
    joined_last words c.word_of-low.result c.args.word (c.args.by % 64) (search rules) c.word_of-low.ensures (search rules) (omega arith)
