-- one request more
use Rattle.std.proofs.Common.{ap, ◌∙◌, option_to_list, ◌++◌}
use Rattle.chi_events.specs.Outstanding.{open_operation}
use Rattle.chi_watch_text.proofs.AllRead.{open_more}
use Rattle.chi_watch_text.proofs.operations.add_open.Goals as goal

pub loop-request-preserved : goal.loop-request-preserved
loop-request-preserved c =
    open_more c.args.requests.now c.loop-request.request-index c.request-item.result c.args.ops.now.items c.loop-request.ops.items c.add_some.new.items.items c.loop-request-test.true
    (ap open_operation c.request-item.is) c.loop-request.invariant (c.in_ok-add_some.ensures ∙ ap (λ o. c.loop-request.ops.items ++ option_to_list o) c.operation.ensures)
