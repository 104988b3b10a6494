-- the request that holds a TxnID
use Rattle.chi_flits.specs.declared.held.Held.{Held}
use Rattle.chi_flits.specs.declared.transaction.Transaction.{Transaction}
use Rattle.chi_flits.specs.Requests.{is_told}

abbrev pub held_of : Transaction → Held
held_of t = record { place = t.place; is_told = is_told t.request; is_dropped = t.is_dropped }
