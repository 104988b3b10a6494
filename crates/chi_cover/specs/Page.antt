-- the page of a coverage
use Rattle.std.specs.Prelude.{ℕ, List, ◌++◌, codes}

-- what stands before the data, with the style
unfoldable pub front_text : List ℕ → List ℕ
front_text style =
    codes "<!DOCTYPE html>\n<html lang=\"en\">\n<head>\n<meta charset=\"utf-8\">\n<title>chicheck cover</title>\n<style>" ++ (style
    ++ codes "</style>\n</head>\n<body>\n<noscript>This page needs JavaScript.</noscript>\n<script type=\"application/json\" id=\"coverage\">\n")

-- what stands after them: the script
unfoldable pub back_text : List ℕ → List ℕ
back_text script = codes "</script>\n<script>" ++ (script ++ codes "</script>\n</body>\n</html>\n")

-- the page
unfoldable pub page_text : List ℕ → List ℕ → List ℕ → List ℕ
page_text front json back = front ++ (json ++ back)
