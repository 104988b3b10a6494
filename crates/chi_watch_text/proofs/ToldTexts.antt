-- what was told of granules, one after the other
use Rattle.std.proofs.Common.{◌≡◌, ℕ, List, [], ◌∷◌, ◌++◌, Option, Result, Ok, Err, IfErr, flat_map, append_assoc, append-nil, sym, ap, subst, ◌∙◌}
use Rattle.std.specs.Io.KnownBytes.{Appends}
use Rattle.std.proofs.lemmas.List.Concat.{flat_map-append}
use Rattle.chi_script.specs.WriterBytes.{AppendsFront}
use Rattle.chi_script.proofs.WriterBytesLemmas.{none_taken, taken_then}
use Rattle.chi_watch_text.specs.Telling.{AreAllTold, AreSomeTold}
use Rattle.chi_watch_text.specs.declared.watched.FoundGranule.{FoundGranule}

-- a text, and then a prefix of another
pub front_then : (a b c : Option (List ℕ)) (s t : List ℕ) → Appends a b s → AppendsFront b c t → AppendsFront a c (s ++ t)
front_then a b c s t appends front = record {
  front = s ++ front.front;
  rest = front.rest;
  whole = append_assoc s front.front front.rest ∙ ap (λ l. s ++ l) front.whole;
  taken = taken_then a b c s front.front appends front.taken;
}

pub whole_front : (a b : Option (List ℕ)) (text : List ℕ) → Appends a b text → AppendsFront a b text
whole_front a b text appends = record { front = text; rest = []; whole = append-nil text; taken = appends }

-- each granule is told by its text
module _ (text : FoundGranule → List ℕ) where
  -- no granule was found
  pub none_told : (found : List FoundGranule) (a : Option (List ℕ)) → AreAllTold text found found a a
  none_told found a = ([], sym (append-nil found), none_taken a)

  -- all that were told are some of them
  pub all_some : (before after : List FoundGranule) (a b : Option (List ℕ)) → AreAllTold text before after a b → AreSomeTold text before after a b
  all_some before after a b (more, is, appends) = (more, is, whole_front a b (flat_map text more) appends)

  -- one granule was found, and told
  module _ (before after : List FoundGranule) (f : FoundGranule) (pushed : after ≡ before ++ f ∷ []) (a b : Option (List ℕ)) where
    one_text : flat_map text (f ∷ []) ≡ text f
    one_text = append-nil (text f)

    pub one_told : Appends a b (text f) → AreAllTold text before after a b
    one_told appends = (f ∷ [], pushed, subst (Appends a b) (sym one_text) appends)

    pub one_begun : AppendsFront a b (text f) → AreSomeTold text before after a b
    one_begun front = (f ∷ [], pushed, subst (AppendsFront a b) (sym one_text) front)

  -- some, and then others
  module _ (first middle last : List FoundGranule) (a b c : Option (List ℕ)) where
    joined : (more others : List FoundGranule) → middle ≡ first ++ more → last ≡ middle ++ others → last ≡ first ++ (more ++ others)
    joined more others one two = two ∙ ap (λ l. l ++ others) one ∙ append_assoc first more others

    pub told_then : AreAllTold text first middle a b → AreAllTold text middle last b c → AreAllTold text first last a c
    told_then (more, one, appends) (others, two, append) =
        (more ++ others, joined more others one two, subst (Appends a c) (sym (flat_map-append text more others)) (taken_then a b c (flat_map text more) (flat_map text others) appends append))

    pub told_some : AreAllTold text first middle a b → AreSomeTold text middle last b c → AreSomeTold text first last a c
    told_some (more, one, appends) (others, two, front) =
        (more ++ others, joined more others one two, subst (AppendsFront a c) (sym (flat_map-append text more others)) (front_then a b c (flat_map text more) (flat_map text others) appends front))

  -- of all that were found so far, and then of others
  module _ (found after : List FoundGranule) (a b c : Option (List ℕ)) (before : Appends a b (flat_map text found)) where
    pub told_more : AreAllTold text found after b c → Appends a c (flat_map text after)
    told_more (more, is, appends) =
        subst (λ (l : List FoundGranule). Appends a c (flat_map text l)) (sym is)
        (subst (Appends a c) (sym (flat_map-append text found more)) (taken_then a b c (flat_map text found) (flat_map text more) before appends))

    pub begun_more : AreSomeTold text found after b c → AppendsFront a c (flat_map text after)
    begun_more (more, is, front) =
        subst (λ (l : List FoundGranule). AppendsFront a c (flat_map text l)) (sym is)
        (subst (AppendsFront a c) (sym (flat_map-append text found more)) (front_then a b c (flat_map text found) (flat_map text more) before front))

-- whatever the fault
pub at_fault : {X E : Type 0} (r : Result X E) (A : Type 0) → A → IfErr r (λ f. A)
at_fault (Ok x) A a = tt
at_fault (Err f) A a = a

pub but_at_fault : {X E : Type 0} (r : Result X E) (N : E → Type 0) (A : Type 0) → A → IfErr r (λ f. N f → A)
but_at_fault (Ok x) N A a = tt
but_at_fault (Err f) N A a = λ n. a
