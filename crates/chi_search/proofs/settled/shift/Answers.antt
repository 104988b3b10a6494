-- why the second set has the numbers of the first, each less by so many
use Rattle.std.proofs.Common.{◌≡◌, ℕ, ◌+◌, ◌*◌, ◌<◌, List, [], ◌∷◌, ◌++◌, length, ap, arith, rules, subst, sym, ◌∙◌}
use Rattle.chi_search.specs.Positions.{has_bit, words_of}
use Rattle.chi_search.proofs.Bits.{AreFrom, are_from_push, shifted}
use Rattle.chi_search.proofs.settled.shift.Goals as goal

pub loop-word-preserved : goal.loop-word-preserved
loop-word-preserved c =
    let words = words_of c.args.settled.now in
    let old = words_of c.loop-word.to in
    let made : (k : ℕ) → k < 64 → has_bit (c.bits_from.result ∷ []) k ≡ has_bit words (64 * length old + c.args.by + k) =
    λ k within. c.bits_from.ensures k within ∙ ap (has_bit words) (omega arith) in
    let longer : (c.loop-word.to.near ∷ c.push.new.self.items) ≡ old ++ c.bits_from.result ∷ [] = ap (λ (xs : List ℕ). c.loop-word.to.near ∷ xs) (search rules) in
    record {
      count = search rules;
      are = subst (AreFrom words c.args.by) (sym longer) (are_from_push words c.args.by old c.bits_from.result c.loop-word.invariant.are made);
    }

pub returns : goal.returns
returns c = shifted (words_of c.args.settled.now) c.args.by (words_of c.loop-word.to) c.loop-word.invariant.are (search rules)
