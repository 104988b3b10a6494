-- those that are still unexplained are found where the line that is refused is of a later time
use Rattle.chi_watch_text.proofs.RefusedLater.{found_then}
use Rattle.chi_watch_text.proofs.watching.refused.Goals as goal

pub returns-in-Ok-clause-found : goal.returns-in-Ok-clause-found
returns-in-Ok-clause-found g c =
    found_then c.is_refused_later-is_past.result c.args.watch.now c.args.found.now.items c.judge_quiet.new.found.items c.args.quiet.now.items c.judge_quiet.new.quiet.items c.args.reading.now c.args.fault c.args.time
    c.in-Ok.ensures.waits c.in-Ok.ensures.each c.is_refused_later-is_past.ensures

pub returns-in-Err-clause-found : goal.returns-in-Err-clause-found
returns-in-Err-clause-found g c =
    found_then c.is_refused_later-is_past.result c.args.watch.now c.args.found.now.items c.judge_quiet.new.found.items c.args.quiet.now.items c.judge_quiet.new.quiet.items c.args.reading.now c.args.fault c.args.time
    c.in-Err.ensures.waits c.in-Err.ensures.each c.is_refused_later-is_past.ensures
