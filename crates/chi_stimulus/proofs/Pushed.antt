-- one request more
use Rattle.std.proofs.Common.{◌≡◌, ◌<◌, ℕ, List, [], ◌∷◌, ◌++◌, length, inl, inr, arith}
use Rattle.std.specs.Prelude.{All}
use Rattle.std.proofs.lemmas.Bool.{cases_eq}
use Rattle.std.proofs.lemmas.List.{get_or_append_left, length-append}
use Rattle.std.proofs.Math.Seq.{get_or-append_seam}
use Rattle.std.proofs.lemmas.List.Elements.{All-append, All-cons, All-nil}
use Rattle.chi_fields.specs.Extent.{Extent}
use Rattle.chi_fields.specs.declared.request.Request.{Request}
use Rattle.chi_stimulus.specs.Generated.{AreDecided}
use Rattle.chi_stimulus.specs.Plan.{refusal_at, refusal_of}

pub decided_more : (region : Extent) (percent : ℕ) (qs : List Request) (q : Request) → AreDecided region percent qs
    → refusal_of region q ≡ refusal_at percent (length qs) → AreDecided region percent (qs ++ q ∷ [])
decided_more region percent qs q before this k d within =
    elim (cases_eq k (length qs)) [
      | inl at ↦ rw (at, get_or-append_seam qs q [] d) this
      | inr not_at ↦
          let earlier : k < length qs = omega (arith, length-append qs (q ∷ [])) in
          rw (get_or_append_left qs (q ∷ []) d k earlier) (before k d earlier)
    ]

pub all_more : (P : Request → Type 0) (qs : List Request) (q : Request) → All P qs → P q → All P (qs ++ q ∷ [])
all_more P qs q before this = All-append P qs (q ∷ []) before (All-cons P q [] this (All-nil P))
