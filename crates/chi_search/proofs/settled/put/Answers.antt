-- why the set has one number more
use Rattle.std.proofs.Common.{◌≡◌, ℕ, ◌*◌, ◌%◌, ◌/◌, ◌^◌, ◌-◌, ◌||◌, ◌==◌, ap, sym, ◌∙◌, arith, rules, set, slice_index}
use Rattle.std.specs.Int.RustNames.{bit_or}
use Rattle.std.proofs.lemmas.List.{get_or_read}
use Rattle.chi_search.specs.Positions.{has_bit, words_of}
use Rattle.chi_search.proofs.Bits.{get_next, has_put, same_bits, set_next}
use Rattle.chi_search.proofs.settled.put.Goals as goal

pub returns-then-number-lt64 : goal.returns-then-number-lt64
returns-then-number-lt64 c = has_put (words_of c.args.settled.now) c.args.number 0 c.args.number (omega arith) (omega arith) (omega arith)

pub returns : goal.returns
returns c =
    let number = c.args.number in
    let near = c.loop-settled.settled.near in
    let items = c.loop-settled.settled.beyond.items in
    let words = words_of c.loop-settled.settled in
    let bit = 1 * 2 ^ (number % 64) % 2 ^ 64 in
    let read : c.index_mut.result.now ≡ slice_index items (number / 64 - 1) = get_or_read items (number / 64 - 1) c.index_mut.result.now (search rules) c.index_mut.ensures.value 0 in
    let old : slice_index words (number / 64) ≡ c.index_mut.result.now = get_next near items (number / 64) (omega arith) ∙ sym read in
    let put : (k : ℕ) → has_bit (set words (number / 64) (bit_or (slice_index words (number / 64)) bit)) k ≡ (has_bit words k || (k == number)) =
    has_put words number (number / 64) (number % 64) (omega arith) (omega arith) (omega arith) in
    λ (k : ℕ). ap (λ ws. has_bit ws k) (sym (set_next near items (number / 64) (bit_or c.index_mut.result.now bit) (omega arith)) ∙ ap (λ w. set words (number / 64) (bit_or w bit)) (sym old))
    ∙ put k ∙ ap (λ b. b || (k == number)) (same_bits words (words_of c.args.settled.now) c.loop-settled.invariant k)
