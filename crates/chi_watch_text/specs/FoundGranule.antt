-- granules that are found by lines
use Rattle.std.specs.Prelude.{ℕ, ◌==◌, ◌++◌, Bool, not, filter, List, [], ◌∷◌, Option, None, Some}
use Rattle.std.specs.List.{list_any}
use Rattle.chi_watch.specs.declared.ending.Ending.{Ending}
use Rattle.chi_watch.specs.declared.ending.FoundAtEnd.{FoundAtEnd}
use Rattle.chi_watch.specs.declared.undecided.UndecidedAtEnd.{UndecidedAtEnd}
use Rattle.chi_watch_text.specs.declared.quiet.Quiet.{Quiet}
use Rattle.chi_watch_text.specs.declared.watched.FoundGranule.{FoundGranule}
use Rattle.chi_watch_text.specs.declared.watched.Watched.{Watched}
use Rattle.chi_judge.specs.declared.standing.Standing.{Standing}
use Rattle.chi_judge.specs.declared.standing.Standing.TheVariants.{Explained, Unexplained, Undecided}

-- the granule was found
abbrev pub is_found : ℕ → List FoundGranule → Bool
is_found g found = list_any (λ f. f.granule == g) found

-- the granules that became quiet at a time, with the one that did so by this line, if one did, in the place of what was there of it
abbrev pub with_quiet : Option ℕ → ℕ → List Quiet → List Quiet
with_quiet None line quiet = quiet
with_quiet (Some g) line quiet = filter (λ q. not (q.granule == g)) quiet ++ record { granule = g; line = line } ∷ []

-- Some of one kind come before none of another.
abbrev pub listed_verdict : List FoundAtEnd → List UndecidedAtEnd → Standing
listed_verdict (f ∷ unexplained) undecided = Unexplained
listed_verdict [] (u ∷ undecided) = Undecided
listed_verdict [] [] = Explained

abbrev pub ending_verdict : Option Ending → Standing
ending_verdict None = Explained
ending_verdict (Some ending) = listed_verdict ending.unexplained.items ending.undecided.items

abbrev pub found_verdict : List FoundGranule → Option Ending → Standing
found_verdict (f ∷ found) ending = Unexplained
found_verdict [] ending = ending_verdict ending

-- what was found or is said at the end
abbrev pub verdict_of : Watched → Standing
verdict_of w = found_verdict w.found.items w.ending
