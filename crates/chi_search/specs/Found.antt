-- what is said of each answer
use Rattle.std.specs.Prelude.{ℕ, List}
use Rattle.chi_search.specs.declared.order.Found.{Found}
use Rattle.chi_search.specs.declared.order.Found.TheVariants.{Order, Nothing, Undecided}
use Rattle.chi_search.specs.declared.words.Words.{Words}
use Rattle.chi_search.specs.declared.words.Words.TheVariants.{Each, Unknown}

abbrev pub IfOrder : Found → (List ℕ → Type 0) → Type 0
IfOrder (Order places) P = P places.items
IfOrder Nothing P = Unit {0}
IfOrder Undecided P = Unit {0}

abbrev pub IfNothing : Found → Type 0 → Type 0
IfNothing (Order places) A = Unit {0}
IfNothing Nothing A = A
IfNothing Undecided A = Unit {0}

abbrev pub IfUndecided : Found → Type 0 → Type 0
IfUndecided (Order places) A = Unit {0}
IfUndecided Nothing A = Unit {0}
IfUndecided Undecided A = A

abbrev pub IfWords : Words → (List ℕ → Type 0) → Type 0
IfWords (Each words) P = P words.items
IfWords Unknown P = Unit {0}

abbrev pub IfUnknown : Words → Type 0 → Type 0
IfUnknown (Each words) A = Unit {0}
IfUnknown Unknown A = A
