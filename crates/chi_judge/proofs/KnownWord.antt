-- a word to which all that was told leads: at first, and once one operation more was told
use Rattle.std.proofs.Common.{◌≡◌, ℕ, zero, suc, ◌+◌, ◌^◌, ◌<◌, ◌≤◌, ◌==◌, ◌&&◌, Bool, true, false, List, [], ◌∷◌, ◌++◌, IfSome, Option, refl, sym, ap, subst, arith, eqb-true}
use Rattle.std.proofs.lemmas.Option.{IfSome_then}
use Rattle.std.proofs.lemmas.List.Elements.{All-nil}
use Rattle.chi_history.specs.History.{one_if}
use Rattle.chi_trace.specs.declared.operation.Operation.{Operation}
use Rattle.chi_trace.specs.Explains.{IsInTime, at, is_answered, is_place, times_in}
use Rattle.chi_trace.specs.Granules.{Fits, Play, last_word, next}
use Rattle.chi_trace.specs.Segments.{Leads}
use Rattle.chi_trace.proofs.AfterQuiet.{MayStandBefore, whole_leads}
use Rattle.chi_trace.proofs.Cuts.{first_place, next_place, no_place}
use Rattle.chi_search.specs.Layers.{SomeLeads}
use Rattle.chi_judge.specs.Judges.{Leaves}

none_done : (i : ℕ) → one_if (is_place [] i && is_answered (at [] i)) ≤ 0
none_done i = by_test (is_place [] i) (no_place i)
  where
    by_test : (b : Bool) → b ≡ false → one_if (b && is_answered (at [] i)) ≤ 0
    by_test true is = absurd (omega (arith, ap one_if is))
    by_test false is = omega arith

-- nothing leads to the word itself
pub nothing_leads : (w : ℕ) → SomeLeads [] (w ∷ []) w
unfolding IsInTime Play last_word times_in
nothing_leads w = (
  w,
  (0, omega arith, refl),
  ([], record { done = none_done; once = λ i. omega arith; times = tt; plays = tt; ending = refl }),
)

-- one operation leads to the word that it leaves
one_leads : (op : Operation) (w : ℕ) → Fits op w → next op w < 2 ^ 64 → Leads (op ∷ []) w (next op w)
unfolding IsInTime Play last_word times_in
one_leads op w fits below = (
  0 ∷ [],
  record {
    done = done;
    once = once;
    times = (All-nil (λ j. op.start ≤ (at (op ∷ []) j).end), tt);
    plays = (fits, below, tt);
    ending = refl;
  },
)
  where
    at_most_one : (b : Bool) → one_if b ≤ 1
    at_most_one true = omega arith
    at_most_one false = omega arith

    done : (i : ℕ) → one_if (is_place (op ∷ []) i && is_answered (at (op ∷ []) i)) ≤ times_in (0 ∷ []) i
    done zero = at_most_one (is_place (op ∷ []) 0 && is_answered op)
    done (suc i) = by_test (is_place (op ∷ []) (suc i)) (next_place op [] i) (no_place i)
      where
        by_test : (b : Bool) → b ≡ is_place [] i → is_place [] i ≡ false → one_if (b && is_answered (at (op ∷ []) (suc i))) ≤ times_in (0 ∷ []) (suc i)
        by_test true is none = absurd (omega (arith, ap one_if is, ap one_if none))
        by_test false is none = omega arith

    once : (i : ℕ) → times_in (0 ∷ []) i ≤ one_if (is_place (op ∷ []) i)
    once zero = omega (arith, ap one_if (first_place op []))
    once (suc i) = by_test (0 == suc i) refl
      where
        by_test : (b : Bool) → (0 == suc i) ≡ b → one_if b + times_in [] (suc i) ≤ one_if (is_place (op ∷ []) (suc i))
        by_test true is = absurd (let same : 0 ≡ suc i = eqb-true 0 (suc i) is in omega (arith, same))
        by_test false is = omega arith

-- one operation more, where none that was told before ended later, leads on to the word that it leaves
pub more_leads : (words : List ℕ) (told : List Operation) (op : Operation) (word : Option ℕ) (v : ℕ) → MayStandBefore told (op ∷ []) → IfSome word (SomeLeads told words) → Leaves word op v
    → SomeLeads (told ++ op ∷ []) words v
more_leads words told op word v may known leaves =
    let led : SomeLeads told words leaves.found = subst (λ (o : Option ℕ). IfSome o (SomeLeads told words)) leaves.is_word known in
    let below : next op leaves.found < 2 ^ 64 = subst (λ n. n < 2 ^ 64) leaves.after_is leaves.below in (
      led.0,
      led.1,
      subst (Leads (told ++ op ∷ []) led.0) (sym leaves.after_is) (whole_leads told (op ∷ []) led.0 (next op leaves.found) may leaves.found led.2 (one_leads op leaves.found leaves.fits below)),
    )

-- where such a word is known
pub still_known : (words : List ℕ) (told : List Operation) (op : Operation) (word after : Option ℕ) → MayStandBefore told (op ∷ []) → IfSome word (SomeLeads told words) → IfSome after (Leaves word op)
    → IfSome after (SomeLeads (told ++ op ∷ []) words)
still_known words told op word after may known leaves = IfSome_then after leaves (λ v l. more_leads words told op word v may known l)
