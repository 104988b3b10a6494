-- the lines that were taken, where they are kept
use Rattle.std.specs.Prelude.{◌≡◌, ℕ, List, ◌++◌, Option, None, Some, IfSome, IsSomeAnd, Vec}
use Rattle.std.specs.declared.alloc.Global.{Global}

-- where they are kept the text is these, and the rest follows
abbrev pub AreKept : List ℕ → Option (Vec ℕ Global) → List ℕ → Type 0
AreKept text kept rest = IfSome kept (λ k. text ≡ k.items ++ rest)

-- the same of a text that may not be known
abbrev pub AreKeptOf : Option (List ℕ) → Option (Vec ℕ Global) → Option (List ℕ) → Type 0
AreKeptOf None kept now = Unit {0}
AreKeptOf (Some text) kept None = ⊥
AreKeptOf (Some text) kept (Some rest) = AreKept text kept rest

-- a line more is kept, where lines are
abbrev pub KeepsLine : Option (Vec ℕ Global) → List ℕ → Option (Vec ℕ Global) → Type 0
KeepsLine None line new = new ≡ None
KeepsLine (Some old) line new = IsSomeAnd new (λ k. k.items ≡ old.items ++ line)
