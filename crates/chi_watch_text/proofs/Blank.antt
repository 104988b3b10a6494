-- text of nothing but white space, line by line
use Rattle.std.proofs.Common.{◌≡◌, ℕ, ◌<◌, ◌==◌, ◌&&◌, Bool, true, false, List, [], ◌∷◌, ◌++◌, Option, Some, None, IfSome, if◌then◌else◌, length, refl, sym, ap, ap₂, subst, ◌∙◌, arith}
use Rattle.std.specs.Io.BufRead.{drop_through, take_through}
use Rattle.std.proofs.lemmas.List.Folds.{list_all-append}
use Rattle.chi_watch_text.specs.Lines.{is_blank, is_space}

-- a text is its first line and the rest
whole : (text : List ℕ) → text ≡ take_through 10 text ++ drop_through 10 text
whole [] = refl
whole (b ∷ rest) = by_test (b == 10) (whole rest)
  where
    by_test : (t : Bool) → rest ≡ take_through 10 rest ++ drop_through 10 rest → b ∷ rest ≡ (if t then b ∷ [] else b ∷ take_through 10 rest) ++ (if t then rest else drop_through 10 rest)
    by_test true is = refl
    by_test false is = ap (λ (l : List ℕ). b ∷ l) is

-- where both are blank the text is
blank_more : (text : List ℕ) → is_blank (take_through 10 text) ≡ true → is_blank (drop_through 10 text) ≡ true → is_blank text ≡ true
blank_more text line rest = ap is_blank (whole text) ∙ (list_all-append is_space (take_through 10 text) (drop_through 10 text) ∙ ap₂ (λ a b. a && b) line rest)

-- the line was read of the one text, and the other is left
abbrev pub IsLineOf : Option (List ℕ) → List ℕ → Option (List ℕ) → Type 0
IsLineOf now line later = IfSome now (λ text. (line ≡ take_through 10 text) × (later ≡ Some (drop_through 10 text)))

pub blank_line : (now later : Option (List ℕ)) (line : List ℕ) → IsLineOf now line later → is_blank line ≡ true → IfSome later (λ rest. is_blank rest ≡ true) → IfSome now (λ text. is_blank text ≡ true)
blank_line None later line read blank rest = tt
blank_line (Some text) later line (same, left) blank rest =
    blank_more text (ap is_blank (sym same) ∙ blank) (subst (λ (o : Option (List ℕ)). IfSome o (λ bytes. is_blank bytes ≡ true)) left rest)

-- a text whose next line is empty is at its end
pub none_left : (now later : Option (List ℕ)) (line : List ℕ) → line ≡ [] → IsLineOf now line later → IfSome now (λ text. is_blank text ≡ true)
none_left None later line none is = tt
none_left (Some []) later line none is = refl
none_left (Some (b ∷ rest)) later line none (same, left) = absurd (omega (arith, is_long b rest, ap length (sym same ∙ none)))
  where
    is_long : (b : ℕ) (rest : List ℕ) → 0 < length (take_through 10 (b ∷ rest))
    is_long b rest = by_test (b == 10) (take_through 10 rest)
      where
        by_test : (t : Bool) (more : List ℕ) → 0 < length (if t then b ∷ [] else b ∷ more)
        by_test true more = omega arith
        by_test false more = omega arith

-- where the one text is blank the other was, of which it is left
abbrev pub IsBlankIf : Option (List ℕ) → Option (List ℕ) → Type 0
IsBlankIf None now = Unit {0}
IsBlankIf (Some text) None = ⊥
IsBlankIf (Some text) (Some rest) = is_blank rest ≡ true → is_blank text ≡ true

pub blank_itself : (now : Option (List ℕ)) → IsBlankIf now now
blank_itself None = tt
blank_itself (Some text) = λ blank. blank

pub blank_after : (start now later : Option (List ℕ)) (line : List ℕ) → IsBlankIf start now → IsLineOf now line later → is_blank line ≡ true → IsBlankIf start later
blank_after None now later line so read blank = tt
blank_after (Some text) None later line so read blank = absurd so
blank_after (Some text) (Some rest) later line so (same, left) blank =
    subst (IsBlankIf (Some text)) (sym left) (λ more. so (blank_more rest (ap is_blank (sym same) ∙ blank) more))

pub blank_then : (start now : Option (List ℕ)) → IsBlankIf start now → IfSome now (λ text. is_blank text ≡ true) → IfSome start (λ text. is_blank text ≡ true)
blank_then None now so blank = tt
blank_then (Some text) None so blank = absurd so
blank_then (Some text) (Some rest) so blank = so blank
