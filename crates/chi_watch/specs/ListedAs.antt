-- granules that are listed at the end
use Rattle.std.specs.Prelude.{◌≡◌, ℕ, ◌++◌, [], ◌∷◌}
use Rattle.chi_watch.specs.declared.judge_all.Listed.{Listed}
use Rattle.chi_judge.specs.declared.standing.Standing.{Standing}
use Rattle.chi_judge.specs.declared.standing.Standing.TheVariants.{Explained, Unexplained, Undecided}

-- the granule is listed by its standing, where it is not explained
abbrev pub IsListedAs : Standing → ℕ → Listed → Listed → Type 0
IsListedAs Explained g old new = (new.unexplained.items ≡ old.unexplained.items) × (new.undecided.items ≡ old.undecided.items)
IsListedAs Unexplained g old new = (new.unexplained.items ≡ old.unexplained.items ++ g ∷ []) × (new.undecided.items ≡ old.undecided.items)
IsListedAs Undecided g old new = (new.unexplained.items ≡ old.unexplained.items) × (new.undecided.items ≡ old.undecided.items ++ g ∷ [])
