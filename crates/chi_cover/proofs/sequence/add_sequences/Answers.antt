-- what stood at the keys are the places of the operations before it
use Rattle.std.proofs.Common.{◌≡◌, ◌≤◌, nat_eq, length, Some, subst, ap, ◌∙◌, arith}
use Rattle.std.specs.HashMap.{Updates}
use Rattle.chi_trace.specs.Explains.{at}
use Rattle.chi_trace.specs.Granules.{granule_of}
use Rattle.chi_cover.specs.Added.{AreAdded}
use Rattle.chi_cover.specs.Operations.{those}
use Rattle.chi_cover.specs.Sequences.{before, last_with, line_of, line_sequence_from, sequence_from}
use Rattle.chi_cover.proofs.Last.{among_first, last_put}
use Rattle.chi_cover.proofs.Sums.{added_then}
use Rattle.chi_cover.proofs.Traced.{read_at}
use Rattle.chi_cover.proofs.sequence.add_sequences.Goals as goal

pub add_sequence-requires-clause-before : goal.add_sequence-requires-clause-before
add_sequence-requires-clause-before c =
    let ops = c.args.ops.now in
    let key = c.granule.result in
    let inside : c.args.place ≤ length ops = omega (arith, c.requires.place) in
    among_first granule_of ops key c.args.place (length ops) c.in_ok-on_granule.on_granule inside (c.in_ok-on_granule.ensures.old ∙ c.requires.last.granules key)

pub add_line_sequence-requires-clause-before : goal.add_line_sequence-requires-clause-before
add_line_sequence-requires-clause-before c =
    let ops = c.args.ops.now in
    let key = c.line_of.result in
    let inside : c.args.place ≤ length ops = omega (arith, c.requires.place) in
    among_first line_of ops key c.args.place (length ops) c.in_ok-on_line.on_line inside (c.in_ok-on_line.ensures.old ∙ c.requires.last.lines key)

pub returns-clause-added : goal.returns-clause-added
returns-clause-added c =
    let ops = c.args.ops.now in
    let place = c.args.place in
    let read = read_at ops place c.index-ops-place.result c.requires.place c.index-ops-place.is in
    let granule : c.granule.result ≡ granule_of (at ops place) = c.granule.ensures ∙ ap granule_of read in
    let line : c.line_of.result ≡ line_of (at ops place) = c.line_of.ensures ∙ ap line_of read in
    let on_granule : c.in_ok-on_granule.on_granule ≡ before granule_of ops place =
    c.in_ok-on_granule.ensures.old ∙ (c.requires.last.granules c.granule.result ∙ ap (λ k. last_with granule_of k ops place) granule) in
    let on_line : c.in_ok-on_line.on_line ≡ before line_of ops place =
    c.in_ok-on_line.ensures.old ∙ (c.requires.last.lines c.line_of.result ∙ ap (λ k. last_with line_of k ops place) line) in
    added_then (subst (λ b. AreAdded (those (sequence_from ops place b)) c.args.counts.now c.add_sequence.new.counts) on_granule c.add_sequence.ensures)
    (subst (λ b. AreAdded (those (line_sequence_from ops place b)) c.add_sequence.new.counts c.add_line_sequence.new.counts) on_line c.add_line_sequence.ensures)

pub returns-clause-last : goal.returns-clause-last
returns-clause-last c =
    let ops = c.args.ops.now in
    let place = c.args.place in
    let last = c.args.last.now in
    let read = read_at ops place c.index-ops-place.result c.requires.place c.index-ops-place.is in
    let granule : c.granule.result ≡ granule_of (at ops place) = c.granule.ensures ∙ ap granule_of read in
    let line : c.line_of.result ≡ line_of (at ops place) = c.line_of.ensures ∙ ap line_of read in
    record {
      granules = last_put granule_of ops place last.granules c.insert.new.self c.requires.last.granules
          (subst (λ k. Updates nat_eq last.granules c.insert.new.self k (Some place)) granule c.in_ok-on_granule.ensures.updates);
      lines = last_put line_of ops place last.lines c.insert-2.new.self c.requires.last.lines
          (subst (λ k. Updates nat_eq last.lines c.insert-2.new.self k (Some place)) line c.in_ok-on_line.ensures.updates);
    }
