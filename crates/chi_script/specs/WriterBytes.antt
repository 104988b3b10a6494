-- what writing calls do to the bytes that a writer holds, where those are known
use Rattle.std.specs.Prelude.{◌≡◌, ℕ, List, ◌++◌, Option, Result, MatchResult}
use Rattle.std.specs.Io.KnownBytes.{Appends}

-- the writer took a prefix of the text
pub record AppendsFront (old new : Option (List ℕ)) (text : List ℕ) : Type 0 where
  pub front : List ℕ
  pub rest : List ℕ
  pub whole : front ++ rest ≡ text
  pub taken : Appends old new front

-- after Ok the writer took exactly the text, and after a fault exactly a prefix of it
abbrev pub Puts : {E : Type 0} → Option (List ℕ) → Option (List ℕ) → Result (Unit {0}) E → List ℕ → Type 0
Puts old new r text = MatchResult r (λ _. Appends old new text) (λ _. AppendsFront old new text)

-- what the writer took, followed by what the page holds now, is what the page held, followed by the text
pub record Moves (old : Option (List ℕ)) (held : List ℕ) (new : Option (List ℕ)) (kept text : List ℕ) : Type 0 where
  pub front : List ℕ
  pub whole : front ++ kept ≡ held ++ text
  pub taken : Appends old new front

-- after Ok the text is in the writer and the page, and after a fault the writer took a prefix of what the page
-- held, followed by the text
abbrev pub Writes : {E : Type 0} → Option (List ℕ) → List ℕ → Option (List ℕ) → List ℕ → Result (Unit {0}) E → List ℕ → Type 0
Writes old held new kept r text = MatchResult r (λ _. Moves old held new kept text) (λ _. AppendsFront old new (held ++ text))
