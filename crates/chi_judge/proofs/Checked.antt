-- whether what was told can be explained, by the search that was told all that is kept
use Rattle.std.proofs.Common.{◌≡◌, ℕ, List, ◌∷◌, [], ◌++◌, None, Some, IfSome, Option, true, false, refl, subst, ◌∙◌}
use Rattle.chi_trace.specs.declared.operation.Operation.{Operation}
use Rattle.chi_trace.specs.AtPlaces.{GranulesStandAlone}
use Rattle.chi_trace.specs.Cuts.{cut}
use Rattle.chi_trace.specs.Granules.{ExplainsGranule, last_word}
use Rattle.chi_trace.proofs.Before.{before}
use Rattle.chi_search.specs.Frontiers.{Follows, FrontierValue}
use Rattle.chi_search.specs.Layers.{SomeLeads}
use Rattle.chi_judge.specs.Judges.{JudgeValue}
use Rattle.chi_judge.specs.Reaches.{IsJudgeOf}
use Rattle.chi_judge.specs.Standings.{IsExplainable, IsInexplicable}
use Rattle.chi_judge.proofs.Earlier.{earlier_explains}
use Rattle.chi_judge.proofs.Keeping.{told_kept}
use Rattle.chi_judge.proofs.Leading.{leads_from, leaves_some, moved_cut}
use Rattle.chi_judge.proofs.Reached.{words_whole}

-- Where it has stopped, no order explains all, since one that did would explain what had happened by a time too.
pub stopped_none : GranulesStandAlone → (r : JudgeValue) (final_word : Option ℕ) → r.is_stopped ≡ true → IsInexplicable r final_word
stopped_none law r final_word stopped trace g w is order explains =
    let none = is.keeps.stopped stopped in
    let left = leaves_some none.0 trace g w (before trace none.0 order, earlier_explains trace g w none.0 final_word order is.traced explains) in
    none.2 left.0 (leads_from law (cut none.0 trace) (cut none.0 is.told) g w left.0 (moved_cut none.0 g trace is.told is.moved) left.1)

-- an order that leads from the word to one explains all, where it has not stopped
pub led_explains : GranulesStandAlone → (r : JudgeValue) (final_word : Option ℕ) → r.is_stopped ≡ false → (trace : List Operation) (g w : ℕ) (is : IsJudgeOf trace g w r)
    → (v : ℕ) × SomeLeads (is.keeps.earlier ++ r.kept) (w ∷ []) v × IfSome final_word (λ seen. v ≡ seen) → (order : List ℕ) × ExplainsGranule trace g w final_word order
led_explains law r final_word goes trace g w is led =
    let can = (words_whole law trace g w r is goes led.0).0 led.1 in
    (can.0, record { done = can.1.done; once = can.1.once; times = can.1.times; plays = can.1.plays; ending = by_last final_word can.1.ending led.2 })
  where
    by_last : (o : Option ℕ) {u v : ℕ} → u ≡ v → IfSome o (λ seen. v ≡ seen) → IfSome o (λ seen. u ≡ seen)
    by_last None same is = tt
    by_last (Some seen) same is = same ∙ is

-- where all that was told is known to lead to a word
pub known_explains : GranulesStandAlone → (r : JudgeValue) (final_word : Option ℕ) → r.is_stopped ≡ false → (v : ℕ) × (r.word ≡ Some v) × IfSome final_word (λ seen. v ≡ seen) → IsExplainable r final_word
known_explains law r final_word goes known trace g w is =
    let led : SomeLeads is.told (w ∷ []) known.0 = subst (λ (o : Option ℕ). IfSome o (SomeLeads is.told (w ∷ []))) known.1 (is.keeps.known goes) in
    let of_parts = subst (λ (l : List Operation). SomeLeads l (w ∷ []) known.0) (told_kept (w ∷ []) is.told is.now r is.keeps goes) led in
    led_explains law r final_word goes trace g w is (known.0, of_parts, known.2)

-- the search was told those that are kept
module _ (law : GranulesStandAlone) (r : JudgeValue) (final_word : Option ℕ) (after : FrontierValue) (goes : r.is_stopped ≡ false)
    (follows : (words : List ℕ) (told : List Operation) → Follows words told r.before → Follows words (told ++ r.kept) after) where
  pub leads_some : ((words : List ℕ) (told : List Operation) → Follows words told after → (v : ℕ) × SomeLeads told words v × IfSome final_word (λ seen. v ≡ seen)) → IsExplainable r final_word
  leads_some leads trace g w is =
      led_explains law r final_word goes trace g w is (leads (w ∷ []) (is.keeps.earlier ++ r.kept) (follows (w ∷ []) is.keeps.earlier is.keeps.follows))

  pub leads_none : ((words : List ℕ) (told : List Operation) → Follows words told after → (v : ℕ) → SomeLeads told words v → IfSome final_word (λ seen. v ≡ seen) → ⊥) → IsInexplicable r final_word
  leads_none none trace g w is order e =
      let v = last_word trace w order in
      let leads = (words_whole law trace g w r is goes v).1 (order, record { done = e.done; once = e.once; times = e.times; plays = e.plays; ending = refl }) in
      none (w ∷ []) (is.keeps.earlier ++ r.kept) (follows (w ∷ []) is.keeps.earlier is.keeps.follows) v leads e.ending
