-- the requests that are outstanding at the end, and what each waits for
use Rattle.std.specs.Prelude.{Bool, if◌then◌else◌, List, map, take}
use Rattle.chi_events.specs.declared.outstanding.Open.{Open}
use Rattle.chi_flits.specs.Answers.{key}
use Rattle.chi_flits.specs.Outstanding.{waits_for_dbid}
use Rattle.chi_flits.specs.declared.flit.Flit.{Flit}
use Rattle.chi_watch_text.specs.declared.waiting.Waiting.{Waiting}
use Rattle.chi_watch_text.specs.declared.waiting.WaitsFor.{WaitsFor}
use Rattle.chi_watch_text.specs.declared.waiting.WaitsFor.TheVariants.{Data, Dbid, Reply}

-- the home is still to give a DBID for the data of an outstanding request
abbrev pub lacks : List Flit → Open → Bool
lacks flits o = waits_for_dbid (key o.fields.src o.fields.txn) o.id flits

-- its reply, once its data have come; or its data, or the DBID by which they come
abbrev pub waits_for : Bool → Open → WaitsFor
waits_for lacks_dbid o = if o.is_whole then Reply else if lacks_dbid then Dbid else Data

abbrev pub waiting_of : List Flit → Open → Waiting
waiting_of flits o = record { fields = o.fields; since = o.start; waits_for = waits_for (lacks flits o) o }

-- the first 16 of them, after the flits of which the newest stands first
abbrev pub first_waiting : List Flit → List Open → List Waiting
first_waiting flits requests = map (waiting_of flits) (take 16 requests)
