-- the page of a trace
use Rattle.std.specs.Prelude.{ℕ, List, ◌++◌, codes, Option, None, Some}
use Rattle.chi_verdict.specs.declared.first.Blame.{Blame}
use Rattle.chi_reading.specs.TraceText.{RecordedValue}
use Rattle.chi_page.specs.declared.drawn.Drawn.{Drawn}
use Rattle.chi_page.specs.Answers.{stop_members}
use Rattle.chi_page.specs.Granules.{granule_json, granules_json}
use Rattle.chi_page.specs.Objects.{replies_json}
use Rattle.chi_page.specs.Operations.{operations_json}

-- where the trace stops being explained: the granule, what an answer has of that time, and which responses would be legal
unfoldable pub blame_json : Blame → List ℕ
blame_json blame =
    codes "{\"granule\":" ++ (granule_json blame.granule ++ (stop_members blame.stop ++ (codes ",\"legal\":" ++ (replies_json blame.stop.legal.items ++ codes "}"))))

-- the same, or null where it does not
unfoldable pub blamed_json : Option Blame → List ℕ
blamed_json None = codes "null"
blamed_json (Some blame) = blame_json blame

-- the data of the page
unfoldable pub data_json : RecordedValue → List Drawn → Option Blame → List ℕ
data_json r granules blame =
    codes "{\"blame\":" ++ (blamed_json blame ++ (codes ",\n\"granules\":[" ++ (granules_json r granules
    ++ (codes "],\n\"operations\":[" ++ (operations_json r ++ codes "]}\n")))))

-- what stands before the data, with the style
unfoldable pub front_text : List ℕ → List ℕ
front_text style =
    codes "<!DOCTYPE html>\n<html lang=\"en\">\n<head>\n<meta charset=\"utf-8\">\n<title>chicheck explain</title>\n<style>" ++ (style
    ++ codes "</style>\n</head>\n<body>\n<noscript>This page needs JavaScript.</noscript>\n<script type=\"application/json\" id=\"trace\">\n")

-- what stands after them: the script, in parts
unfoldable pub back_text : List ℕ → List ℕ → List ℕ → List ℕ → List ℕ → List ℕ
back_text layout drawing moving details page =
    codes "</script>\n<script>" ++ (layout ++ (drawing ++ (moving ++ (details ++ (page ++ codes "</script>\n</body>\n</html>\n")))))

-- the page
unfoldable pub page_text : List ℕ → List ℕ → List ℕ → List ℕ
page_text front json back = front ++ (json ++ back)
