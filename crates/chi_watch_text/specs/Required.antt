-- what is required of events, and what of it does not hold
use Rattle.std.specs.Prelude.{nat_lt, ◌==◌, Bool, not, ◌&&◌, if◌then◌else◌}
use Rattle.chi_watch_text.specs.declared.required.Required.{Required}
use Rattle.chi_watch_text.specs.declared.watched.Watched.{Watched}

-- The end is missing where the last line does not tell it, operations where fewer ended, quiet where a request is outstanding, and
-- judging where a granule is not judged.
abbrev pub missing_of : Required → Watched → Required
missing_of r w = record {
  end = r.end && not w.is_ended;
  operations = if nat_lt w.counts.ended r.operations then r.operations else 0;
  quiet = r.quiet && nat_lt 0 w.counts.outstanding;
  judged = r.judged && nat_lt 0 w.unjudged;
}

abbrev pub is_nothing : Required → Bool
is_nothing r = not r.end && r.operations == 0 && not r.quiet && not r.judged
