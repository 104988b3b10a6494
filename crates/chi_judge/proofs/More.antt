-- operations that are told to a search one after the other
use Rattle.std.proofs.Common.{◌≡◌, ℕ, ◌⊎◌, All, List, ◌∷◌, IfOk, inl, inr, arith, subst, sym}
use Rattle.std.specs.Prelude.{Result, Ok, Err}
use Rattle.std.proofs.lemmas.List.Elements.{All-head, All-tail, All-weaker}
use Rattle.chi_trace.specs.declared.operation.Operation.{Operation}
use Rattle.chi_search.specs.declared.order.Found.{Found}
use Rattle.chi_search.specs.declared.order.Found.TheVariants.{Order, Nothing, Undecided as Neither}
use Rattle.chi_search.specs.declared.words.Words.{Words}
use Rattle.chi_search.specs.declared.words.Words.TheVariants.{Each, Unknown}
use Rattle.chi_search.specs.Found.{IfNothing, IfOrder, IfUndecided as IfNeither, IfUnknown, IfWords}
use Rattle.chi_search.specs.Frontiers.{CanBeTold, FrontierValue, MayBeTold}
use Rattle.chi_judge.specs.declared.reach.Reach.{Reach}
use Rattle.chi_judge.specs.declared.reach.Reach.TheVariants.{Whole, Stops, Undecided}
use Rattle.chi_judge.specs.declared.reach.Stop.{Stop}
use Rattle.chi_judge.specs.Judges.{JudgeValue, LiesWithin}
use Rattle.chi_judge.specs.Reaches.{IfStops, IfUndecided, IsJudgeOf, MissesNone}
use Rattle.chi_search.specs.Looks.{LookedAtLeast, LookedSome, Search}
use Rattle.chi_search.proofs.Looking.{at_least_after, at_least_before}
use Rattle.chi_judge.proofs.Cutting.{ends_after, sorted_tail}

-- a search of the same times may be told the same
pub may_same : (f next : FrontierValue) (rest : List Operation) → next.horizon ≡ f.horizon → next.latest ≡ f.latest → MayBeTold f rest → MayBeTold next rest
may_same f next rest horizon latest may = record {
  sorted = may.sorted;
  each = All-weaker (CanBeTold f) (CanBeTold next)
      (λ op c. record { lasting = c.lasting; starts = omega (arith, c.starts, horizon); ends = omega (arith, c.ends, latest) }) rest may.each;
}

-- once the first was told the rest may be
pub may_rest : (f next : FrontierValue) (op : Operation) (rest : List Operation) → next.horizon ≡ f.horizon → next.latest ≡ op.end → MayBeTold f (op ∷ rest) → MayBeTold next rest
may_rest f next op rest horizon latest may = record {
  sorted = sorted_tail op rest may.sorted;
  each = λ i d below.
      let c = All-tail (CanBeTold f) op rest may.each i d below in
      let e = ends_after op rest may.sorted i d below in
      record { lasting = c.lasting; starts = omega (arith, c.starts, horizon); ends = omega (arith, e, latest) };
}

-- the first may be told
pub may_first : (f : FrontierValue) (op : Operation) (rest : List Operation) → MayBeTold f (op ∷ rest) → CanBeTold f op
may_first f op rest may = All-head (CanBeTold f) op rest may.each

-- what follows where the operations that a judge keeps may be told to the search before them
pub told_kept : {A : Type 0} (before : FrontierValue) (ops : List Operation) (r : JudgeValue) → before ≡ r.before → ops ≡ r.kept → (MayBeTold before ops → All LiesWithin ops → A)
    → (trace : List Operation) (g w : ℕ) → IsJudgeOf trace g w r → A
told_kept before ops r same kept said trace g w is =
    said (subst (λ (f : FrontierValue). MayBeTold f ops) (sym same) (subst (MayBeTold r.before) (sym kept) is.keeps.next)) (subst (All LiesWithin) (sym kept) is.keeps.within)

-- what is so whether there is a value or not
pub ok_always : {T E : Type 0} (A : Type 0) (r : Result T E) → A → IfOk r (λ _. A)
ok_always A (Ok x) a = a
ok_always A (Err e) a = tt

-- what follows of words, and of words that are not known
pub words_imply : (found : Words) (P Q : List ℕ → Type 0) → ((each : List ℕ) → P each → Q each) → IfWords found P → IfWords found Q
words_imply (Each words) P Q implies is = implies words.items is
words_imply Unknown P Q implies is = tt

pub unknown_implies : (found : Words) (A B : Type 0) → (A → B) → IfUnknown found A → IfUnknown found B
unknown_implies (Each words) A B implies is = tt
unknown_implies Unknown A B implies is = implies is

-- what follows of an order, of there being none, and of neither
pub order_implies : (found : Found) (A B : Type 0) → (A → B) → IfOrder found (λ order. A) → IfOrder found (λ order. B)
order_implies (Order places) A B implies is = implies is
order_implies Nothing A B implies is = tt
order_implies Neither A B implies is = tt

pub nothing_implies : (found : Found) (A B : Type 0) → (A → B) → IfNothing found A → IfNothing found B
nothing_implies (Order places) A B implies is = tt
nothing_implies Nothing A B implies is = implies is
nothing_implies Neither A B implies is = tt

pub neither_implies : (found : Found) (A B : Type 0) → (A → B) → IfNeither found A → IfNeither found B
neither_implies (Order places) A B implies is = tt
neither_implies Nothing A B implies is = tt
neither_implies Neither A B implies is = implies is

-- what follows of the words that were found
pub ok_words_imply : {E : Type 0} (r : Result Words E) (P Q : List ℕ → Type 0) → ((each : List ℕ) → P each → Q each)
    → IfOk r (λ found. IfWords found P) → IfOk r (λ found. IfWords found Q)
ok_words_imply (Ok (Each words)) P Q implies is = implies words.items is
ok_words_imply (Ok Unknown) P Q implies is = tt
ok_words_imply (Err e) P Q implies is = tt

-- what follows where the words are not known
pub ok_unknown_implies : {E A S B : Type 0} (r : Result Words E) → (A → S → B) → IfOk r (λ found. IfUnknown found A) → IfOk r (λ found. S) → IfOk r (λ found. IfUnknown found B)
ok_unknown_implies (Ok (Each words)) implies is spends = tt
ok_unknown_implies (Ok Unknown) implies is spends = implies is spends
ok_unknown_implies (Err e) implies is spends = tt

-- what follows where the reach is not known
pub ok_undecided_implies : {E A B L : Type 0} (r : Result Reach E) → (A → L → B) → IfOk r (λ reach. IfUndecided reach A) → IfOk r (λ reach. L) → IfOk r (λ reach. IfUndecided reach B)
ok_undecided_implies (Ok (Whole words)) implies is looked = tt
ok_undecided_implies (Ok (Stops stop)) implies is looked = tt
ok_undecided_implies (Ok Undecided) implies is looked = implies is looked
ok_undecided_implies (Err e) implies is looked = tt

-- what follows where they stop
pub ok_stops_imply : {E L : Type 0} (r : Result Reach E) (P Q : Stop → Type 0) → ((stop : Stop) → L → P stop → Q stop) → IfOk r (λ reach. IfStops reach P) → IfOk r (λ reach. L) → IfOk r (λ reach. IfStops reach Q)
ok_stops_imply (Ok (Whole words)) P Q implies is looked = tt
ok_stops_imply (Ok (Stops stop)) P Q implies is looked = implies stop looked is
ok_stops_imply (Ok Undecided) P Q implies is looked = tt
ok_stops_imply (Err e) P Q implies is looked = tt

-- after some states nothing is missed that was not missed without them
pub misses_none_after : {P : Type 0} (looked : Search → P → ℕ → Type 0) (old middle new : P) (budget : ℕ) (trace : List Operation) (g w : ℕ) (s : Stop) → LookedSome looked old middle
    → MissesNone looked middle new budget trace g w s → MissesNone looked old new budget trace g w s
misses_none_after looked old middle new budget trace g w s some misses = record {
  suspects = λ op is. elim (misses.suspects op is) [ inl there ↦ inl there | inr spent ↦ inr (at_least_after looked old middle new budget some spent) ];
  words = unknown_implies s.words ((s.time ≡ 0) ⊎ LookedAtLeast looked middle new budget) ((s.time ≡ 0) ⊎ LookedAtLeast looked old new budget)
      (λ said. elim said [ inl none ↦ inl none | inr spent ↦ inr (at_least_after looked old middle new budget some spent) ]) misses.words;
}

-- nor before some others
pub misses_none_before : {P : Type 0} (looked : Search → P → ℕ → Type 0) (old middle new : P) (budget : ℕ) (trace : List Operation) (g w : ℕ) (s : Stop) → LookedSome looked middle new
    → MissesNone looked old middle budget trace g w s → MissesNone looked old new budget trace g w s
misses_none_before looked old middle new budget trace g w s some misses = record {
  suspects = λ op is. elim (misses.suspects op is) [ inl there ↦ inl there | inr spent ↦ inr (at_least_before looked old middle new budget spent some) ];
  words = unknown_implies s.words ((s.time ≡ 0) ⊎ LookedAtLeast looked old middle budget) ((s.time ≡ 0) ⊎ LookedAtLeast looked old new budget)
      (λ said. elim said [ inl none ↦ inl none | inr spent ↦ inr (at_least_before looked old middle new budget spent some) ]) misses.words;
}
