-- what is answered where the arguments name no task
use Rattle.std.specs.Prelude.{◌≡◌, ℕ, ◌⊎◌, List, Option}
use Rattle.std.specs.Io.KnownBytes.{Keeps}
use Rattle.clap.specs.declared.error.kind.ErrorKind.{ErrorKind}
use Rattle.clap.specs.declared.error.kind.ErrorKind.TheVariants as error_kind

-- the status where the arguments name no task: 4 out of memory, 0 for the help, or 5 where it could not be
-- written, and 2 for arguments that are refused
abbrev pub IsStatusOfArguments : ErrorKind → ℕ → Type 0
IsStatusOfArguments error_kind.OutOfMemory n = n ≡ 4
IsStatusOfArguments error_kind.DisplayHelp n = (n ≡ 0) ⊎ (n ≡ 5)
IsStatusOfArguments error_kind.DisplayVersion n = (n ≡ 0) ⊎ (n ≡ 5)
IsStatusOfArguments _ n = n ≡ 2

-- where the answer goes nothing but help is written
abbrev pub KeepsButForHelp : ErrorKind → Option (List ℕ) → Option (List ℕ) → Type 0
KeepsButForHelp error_kind.DisplayHelp old new = Unit {0}
KeepsButForHelp error_kind.DisplayVersion old new = Unit {0}
KeepsButForHelp _ old new = Keeps old new

-- The arguments name no task, for a kind of fault in them. The status is that of the kind, and where the answer goes only
-- help is written.
abbrev pub ReportsArguments : (ErrorKind → Type 0) → Option (List ℕ) → Option (List ℕ) → ℕ → Type 0
ReportsArguments IsFault old new status = (kind : ErrorKind) × IsFault kind × IsStatusOfArguments kind status × KeepsButForHelp kind old new
