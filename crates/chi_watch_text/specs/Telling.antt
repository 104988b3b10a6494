-- granules that are told as soon as they are found
use Rattle.std.specs.Prelude.{◌≡◌, ℕ, ◌++◌, List, Option, flat_map}
use Rattle.std.specs.Io.KnownBytes.{Appends}
use Rattle.chi_script.specs.WriterBytes.{AppendsFront}
use Rattle.chi_watch_text.specs.declared.watched.FoundGranule.{FoundGranule}

-- the granules that were found more were told, each by its text
abbrev pub AreAllTold : (FoundGranule → List ℕ) → List FoundGranule → List FoundGranule → Option (List ℕ) → Option (List ℕ) → Type 0
AreAllTold text before after old new = (more : List FoundGranule) × (after ≡ before ++ more) × Appends old new (flat_map text more)

-- or a prefix of what is told of them
abbrev pub AreSomeTold : (FoundGranule → List ℕ) → List FoundGranule → List FoundGranule → Option (List ℕ) → Option (List ℕ) → Type 0
AreSomeTold text before after old new = (more : List FoundGranule) × (after ≡ before ++ more) × AppendsFront old new (flat_map text more)
