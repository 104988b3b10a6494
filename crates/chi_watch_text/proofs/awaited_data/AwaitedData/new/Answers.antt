-- of no request data are awaited
use Rattle.std.proofs.Common.{refl}
use Rattle.chi_watch_text.proofs.ErrorsTold.{none_awaited}
use Rattle.chi_watch_text.proofs.awaited_data.AwaitedData.new.Goals as goal

pub returns : goal.returns
returns c effect = none_awaited effect (record { requests = c.new.result }) (λ id. rw c.new.ensures.empty refl)
