-- requests that are executed one after another
use Rattle.std.specs.Prelude.{◌≡◌, List, ◌++◌, Result}
use Rattle.chi_fields.specs.declared.request.Request.{Request}
use Rattle.chi_history.specs.declared.entry.Entry.{Entry}
use Rattle.chi_history.specs.declared.line.Line.{Line}
use Rattle.chi_history.specs.declared.opening.Opening.{Opening}
use Rattle.chi_history.specs.History.{end}
use Rattle.chi_history.specs.Lines.{entries, serial}
use Rattle.chi_requester.specs.declared.fault.WorkFault.{WorkFault}
use Rattle.chi_requester.specs.Work.{AreLeft}

-- The requests executed are all of them after Ok, and a proper prefix of them after Memory. The lines appended
-- are theirs, one after another from the memory at the end of what was seen, and the history went on by just
-- the entries of these lines.
pub record IsSerialRun (result : Result (Unit {0}) WorkFault) (o : Opening) (all : List Request) (seen seen' : List Entry) (lines lines' : List Line) : Type 0 where
  pub executed : List Request
  pub left : List Request
  pub parts : executed ++ left ≡ all
  pub are_left : AreLeft result left
  pub told : lines' ≡ lines ++ serial o.region executed (end o seen)
  pub grown : seen' ≡ seen ++ entries (serial o.region executed (end o seen))
