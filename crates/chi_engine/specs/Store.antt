-- the store of the options, and how it is opened for a script
use Rattle.std.specs.Prelude.{◌≡◌, ℕ, List}
use Rattle.chi_bookstore.specs.BookFaults.{IsAttemptCount}
use Rattle.chi_lockstore.specs.LockFaults.{IsWithinLine}
use Rattle.chi_history.specs.declared.entry.Entry.{Entry}
use Rattle.chi_history.specs.declared.opening.Opening.{Opening}
use Rattle.chi_history.specs.NumberSets.{Held}
use Rattle.chi_history.specs.Openings.{IsFirst, opened}
use Rattle.chi_script.specs.Script.{ScriptValue}
use Rattle.chi_engine.specs.declared.options.Store.{Store}
use Rattle.chi_engine.specs.declared.options.Store.TheVariants.{Lock, Book}

-- how many requesters a home is opened for
abbrev pub requester_count : ℕ
requester_count = 8

-- the store opens with its tries
abbrev pub Opens : Store → Type 0
Opens Lock = Unit {0}
Opens (Book attempts) = IsAttemptCount attempts

-- the store opens on a region of so many granules
abbrev pub OpensOn : Store → ℕ → Type 0
OpensOn Lock granules = IsWithinLine granules
OpensOn (Book attempts) granules = Unit {0}

-- how many lost tries a request may have
abbrev pub limit_of : Store → ℕ
limit_of Lock = 0
limit_of (Book attempts) = attempts

-- it is opened on the script's region, with the script's image
abbrev pub opening_of : ScriptValue → Opening
opening_of s = opened s.region requester_count s.image

-- it was just opened for the script: the seat holds every number, and has seen nothing
pub record IsFresh (o : Opening) (s : ScriptValue) (held : Held) (seen : List Entry) : Type 0 where
  pub opening : o ≡ opening_of s
  pub first : IsFirst o held seen
