-- those that were looked at are listed
use Rattle.std.proofs.Common.{◌≡◌, List, map, take}
use Rattle.chi_flits.specs.Effects.{HasSeen}
use Rattle.chi_flits.specs.declared.flit.Flit.{Flit}
use Rattle.chi_watch_text.specs.Waiting.{waiting_of}
use Rattle.chi_watch_text.proofs.waiting.first_waiting.Given as goal

abbrev pub invariant-loop-request : goal.invariant-loop-request
invariant-loop-request l = (flits : List Flit) → HasSeen flits l.fn.port → l.listed.items ≡ map (waiting_of flits) (take l.request-index l.request-items)
