-- one operation's line more
use Rattle.std.proofs.Common.{◌+◌, List, ◌++◌, drop, ap, ◌∙◌}
use Rattle.std.proofs.lemmas.List.{take_rest}
use Rattle.chi_trace.specs.declared.operation.Operation.{Operation}
use Rattle.chi_excerpt.specs.declared.wrong_bytes.ReturnedByte.{ReturnedByte}
use Rattle.chi_excerpt.specs.Writers.{last_written, writer_line, writer_lines}
use Rattle.chi_excerpt.proofs.WriterLemmas.{all_lines, line_more}
use Rattle.chi_excerpt.proofs.writers.add_each_writer.Goals as goal

pub loop-place-preserved : goal.loop-place-preserved
loop-place-preserved c =
    let label = c.args.label.now in
    let bytes = c.args.bytes.now in
    let order = c.args.order.now in
    let i = c.loop-place.place in
    let op = c.index-order-place.result in
    let before = c.loop-place.to.items in
    line_more label bytes order i op (c.args.to.now.items ++ writer_lines label bytes order) before c.add_writer.new.to.items c.loop-place-test.true c.loop-place.invariant
    (c.in_ok-add_writer.ensures ∙ (ap (λ (last : List ReturnedByte). before ++ writer_line label op.number last) (c.deref.ensures.value ∙ (c.in_ok-last.ensures ∙ ap (last_written bytes op) (take_rest order (i + 1))))
    ∙ ap (λ (o : Operation). before ++ writer_line label o.number (last_written bytes o (drop (i + 1) order))) c.index-order-place.is))

pub returns : goal.returns
returns c =
    all_lines c.args.label.now c.args.bytes.now c.args.order.now c.loop-place.place (c.args.to.now.items ++ writer_lines c.args.label.now c.args.bytes.now c.args.order.now)
    c.loop-place.to.items c.loop-place-test.false c.loop-place.invariant
