-- the lines before the index
use Rattle.std.proofs.Common.{◌≡◌, map, take}
use Rattle.serde_json.specs.View.{view}
use Rattle.chi_engine.specs.TranscriptJson.{line_objects}
use Rattle.chi_engine.proofs.transcript_json.line_objects.Given as goal

abbrev pub invariant-loop-line : goal.invariant-loop-line
invariant-loop-line l = map view l.values.items ≡ line_objects (take l.line-index l.lines)
