-- how much was told, and whether all is explained, as JSON
use Rattle.std.specs.Prelude.{ℕ, nat_lt, Bool, if◌then◌else◌, List, [], ◌++◌, codes, decimal, length, slice_get, Option, None, Some}
use Rattle.chi_page.specs.Granules.{finding_json}
use Rattle.chi_page.specs.Listed.{comma, listed}
use Rattle.chi_page.specs.Objects.{request_members}
use Rattle.chi_watch.specs.declared.counts.Counts.{Counts}
use Rattle.chi_watch_text.specs.FoundGranule.{verdict_of}
use Rattle.chi_watch_text.specs.Texts.{waits_text}
use Rattle.chi_watch_text.specs.declared.required.Required.{Required}
use Rattle.chi_watch_text.specs.declared.waiting.Waiting.{Waiting}
use Rattle.chi_watch_text.specs.declared.watched.Watched.{Watched}

-- an outstanding request: its fields, since when it is outstanding, and what it waits for
unfoldable pub waiting_json : Waiting → List ℕ
waiting_json w =
    codes "{" ++ (request_members w.fields ++ (codes ",\"start\":\"" ++ (decimal w.since ++ (codes "\",\"waits_for\":\"" ++ (waits_text w.waits_for ++ codes "\"}")))))

-- the one at a place of a list
abbrev pub waiting_at : Option Waiting → List ℕ
waiting_at None = []
waiting_at (Some w) = waiting_json w

-- all of them
unfoldable pub waiting_list : List Waiting → List ℕ
waiting_list waiting = listed comma (λ n. waiting_at (slice_get waiting n)) (length waiting)

-- how many operations ended, how many requests are outstanding, and the first of these
unfoldable pub counts_members : Counts → List Waiting → List ℕ
counts_members counts waiting =
    codes ",\"operations\":\"" ++ (decimal counts.ended ++ (codes "\",\"outstanding\":\"" ++ (decimal counts.outstanding ++ (codes "\",\"waiting\":[" ++ (waiting_list waiting ++ codes "]")))))

-- of how many granules was told, and how many are not judged
unfoldable pub granules_members : Counts → ℕ → List ℕ
granules_members counts unjudged =
    codes ",\"granules\":\"" ++ (decimal counts.granules ++ (codes "\",\"not_judged\":\"" ++ (decimal unjudged ++ codes "\"")))

-- whether something is so
unfoldable pub truth_json : Bool → List ℕ
truth_json is = if is then codes "true" else codes "false"

-- what is required and does not hold
unfoldable pub missing_json : Required → List ℕ
missing_json missing =
    codes "{\"end\":" ++ (truth_json missing.end ++ (codes ",\"operations\":" ++ (truth_json (nat_lt 0 missing.operations)
    ++ (codes ",\"quiet\":" ++ (truth_json missing.quiet ++ (codes ",\"judged\":" ++ (truth_json missing.judged ++ codes "}")))))))

-- all of it, on one line
unfoldable pub summary_json : Watched → Required → List ℕ
summary_json w missing =
    codes "{\"answer\":" ++ (finding_json (verdict_of w) ++ (counts_members w.counts w.waiting.items ++ (granules_members w.counts w.unjudged
    ++ (codes ",\"missing\":" ++ (missing_json missing ++ codes "}\n")))))
