-- the lines that are kept are those that were taken
use Rattle.std.proofs.Common.{◌≡◌, ◌∙◌, ℕ, ◌==◌, ◌<◌, Bool, cond, true, false, List, [], ◌∷◌, ◌++◌, length, Option, None, Some, IfSome, is_some, Vec, refl, sym, ap, subst, append_assoc, length-append, arith}
use Rattle.std.specs.Io.BufRead.{drop_through, take_through}
use Rattle.std.specs.declared.alloc.Global.{Global}
use Rattle.std.proofs.lemmas.List.{append_cancel_right, nil_from_length}
use Rattle.chi_watch_text.specs.Kept.{AreKept, AreKeptOf, KeepsLine}
use Rattle.chi_watch_text.specs.Lines.{AreLines}
use Rattle.chi_watch_text.specs.Reading.{BeginsWith}

-- a line and what follows it are the text
pub line_then_rest : (text : List ℕ) → take_through 10 text ++ drop_through 10 text ≡ text
line_then_rest [] = refl
line_then_rest (b ∷ text) = by_test (b == 10) (line_then_rest text)
  where
    by_test : (is : Bool) → take_through 10 text ++ drop_through 10 text ≡ text → cond is (b ∷ []) (b ∷ take_through 10 text) ++ cond is text (drop_through 10 text) ≡ b ∷ text
    by_test true later = refl
    by_test false later = ap (λ l. b ∷ l) later

line_some : (text : List ℕ) → 0 < length text → 0 < length (take_through 10 text)
line_some [] some = some
line_some (b ∷ text) some = by_test (b == 10)
  where
    by_test : (is : Bool) → 0 < length (cond is (b ∷ []) (b ∷ take_through 10 text))
    by_test true = omega arith
    by_test false = omega arith

-- no line was taken
pub none_kept : (start : Option (List ℕ)) (kept : Option (Vec ℕ Global)) → IfSome kept (λ k. k.items ≡ []) → AreKeptOf start kept start
none_kept None kept none = tt
none_kept (Some text) None none = tt
none_kept (Some text) (Some k) none = ap (λ l. l ++ text) (sym none)

-- or some more
lines_added : (text lines now later : List ℕ) (old new : Option (Vec ℕ Global)) → AreKept text old now → KeepsLine old lines new → now ≡ lines ++ later → AreKept text new later
lines_added text lines now later None new are keeps is = subst (λ (o : Option (Vec ℕ Global)). AreKept text o later) (sym keeps) tt
lines_added text lines now later (Some old) None are keeps is = absurd keeps
lines_added text lines now later (Some old) (Some new) are keeps is =
    are ∙ (ap (λ l. old.items ++ l) is ∙ (sym (append_assoc old.items lines later) ∙ ap (λ l. l ++ later) (sym keeps)))

pub lines_kept_more : (start now later : Option (List ℕ)) (old new : Option (Vec ℕ Global)) (lines : List ℕ) → AreKeptOf start old now → KeepsLine old lines new → BeginsWith now lines later
    → AreKeptOf start new later
lines_kept_more None now later old new lines are keeps begins = tt
lines_kept_more (Some text) None later old new lines are keeps begins = absurd are
lines_kept_more (Some text) (Some rest) None old new lines are keeps begins = absurd begins
lines_kept_more (Some text) (Some rest) (Some left) old new lines are keeps begins = lines_added text lines rest left old new are keeps begins

-- lines are kept as before
pub keeps_still : (old new : Option (Vec ℕ Global)) (line : List ℕ) → KeepsLine old line new → is_some new ≡ is_some old
keeps_still None new line keeps = ap is_some keeps
keeps_still (Some old) None line keeps = absurd keeps
keeps_still (Some old) (Some new) line keeps = refl

-- the first line is the same where the text is cut after some lines
first_line_kept : (text mid rest : List ℕ) → drop_through 10 text ≡ mid ++ rest
    → (take_through 10 (take_through 10 text ++ mid) ≡ take_through 10 text) × (drop_through 10 (take_through 10 text ++ mid) ≡ mid)
first_line_kept [] mid rest is =
    let none : mid ≡ [] = nil_from_length mid (let all : 0 ≡ length (mid ++ rest) = ap length is in omega (arith, all, length-append mid rest)) in
    (ap (take_through 10) none, ap (drop_through 10) none ∙ sym none)
first_line_kept (b ∷ text) mid rest is = by_test (b == 10) refl is (first_line_kept text mid rest)
  where
    by_test : (is_end : Bool) → (b == 10) ≡ is_end → cond is_end text (drop_through 10 text) ≡ mid ++ rest
        → (drop_through 10 text ≡ mid ++ rest → (take_through 10 (take_through 10 text ++ mid) ≡ take_through 10 text) × (drop_through 10 (take_through 10 text ++ mid) ≡ mid))
        → (take_through 10 (cond is_end (b ∷ []) (b ∷ take_through 10 text) ++ mid) ≡ cond is_end (b ∷ []) (b ∷ take_through 10 text))
        × (drop_through 10 (cond is_end (b ∷ []) (b ∷ take_through 10 text) ++ mid) ≡ mid)
    by_test true test cut more = (ap (λ c. cond c (b ∷ []) (b ∷ take_through 10 mid)) test, ap (λ c. cond c mid (drop_through 10 mid)) test)
    by_test false test cut more =
        let later = more cut in (
          ap (λ c. cond c (b ∷ []) (b ∷ take_through 10 (take_through 10 text ++ mid))) test ∙ ap (λ l. b ∷ l) later.0,
          ap (λ c. cond c (take_through 10 text ++ mid) (drop_through 10 (take_through 10 text ++ mid))) test ∙ later.1,
        )

-- what follows some lines ends the text
lines_then_rest : (text : List ℕ) (lines : List (List ℕ)) (rest : List ℕ) → AreLines text lines rest → (front : List ℕ) × (text ≡ front ++ rest)
unfolding AreLines
lines_then_rest text [] rest are = ([], are)
lines_then_rest text (line ∷ lines) rest (some, is, are) =
    let later = lines_then_rest (drop_through 10 text) lines rest are in
    (take_through 10 text ++ later.0, sym (line_then_rest text) ∙ (ap (λ l. take_through 10 text ++ l) later.1 ∙ sym (append_assoc (take_through 10 text) later.0 rest)))

-- the lines that were taken are those of what is kept, and no other is
pub lines_kept : (text : List ℕ) (lines : List (List ℕ)) (rest kept : List ℕ) → AreLines text lines rest → text ≡ kept ++ rest → AreLines kept lines []
unfolding AreLines
lines_kept text [] rest kept are is = append_cancel_right kept [] rest (sym is ∙ are)
lines_kept text (line ∷ lines) rest kept (some, line_is, are) is =
    let later = lines_then_rest (drop_through 10 text) lines rest are in
    let mid = later.0 in
    let kept_is : kept ≡ take_through 10 text ++ mid =
    append_cancel_right kept (take_through 10 text ++ mid) rest
    (sym is ∙ (sym (line_then_rest text) ∙ (ap (λ l. take_through 10 text ++ l) later.1 ∙ sym (append_assoc (take_through 10 text) mid rest)))) in
    let first = first_line_kept text mid rest later.1 in
    let has_some : 0 < length kept = omega (arith, ap length kept_is, length-append (take_through 10 text) mid, line_some text some) in (
      has_some,
      line_is ∙ (sym first.0 ∙ ap (take_through 10) (sym kept_is)),
      subst (λ (l : List ℕ). AreLines l lines []) (sym (ap (drop_through 10) kept_is ∙ first.1)) (lines_kept (drop_through 10 text) lines rest mid are later.1),
    )
