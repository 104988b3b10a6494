-- granules that are past, where those of a trace and those with a word at its end are gone over in their order
use Rattle.std.specs.Prelude.{ℕ, ◌<◌, List, All, drop}
use Rattle.chi_verdict.specs.declared.grouping.Placed.{Placed}
use Rattle.chi_trace.specs.declared.words.GranuleWord.{GranuleWord}

-- the walk has passed a granule: each operation and each word that is still to come is of a later one
abbrev pub IsPast : List Placed → ℕ → List GranuleWord → ℕ → ℕ → Type 0
IsPast places from final_words told g = All (λ p. g < p.granule) (drop from places) × All (λ w. g < w.granule) (drop told final_words)
