-- the first of the words that the search can leave is one of them
use Rattle.std.proofs.Common.{◌≡◌, ◌↔◌, ℕ, List, None, Some, Option, IfSome, sym, subst, ap, ◌∙◌}
use Rattle.std.specs.Prelude.{slice_get}
use Rattle.std.specs.List.{Contains}
use Rattle.std.proofs.lemmas.Option.{get_or_from_slice_get, slice_get_within}
use Rattle.chi_search.specs.declared.words.Words.{Words}
use Rattle.chi_search.specs.Found.{IfWords}
use Rattle.chi_search.specs.Layers.{SomeLeads}
use Rattle.chi_search.specs.Frontiers.{Follows, FrontierValue}
use Rattle.chi_trace.specs.declared.operation.Operation.{Operation}
use Rattle.chi_judge.specs.Judges.{LeadsTo}
use Rattle.chi_judge.proofs.known_word.some_word.Goals as goal

-- each of these words is one to which the search leads
abbrev Lead : FrontierValue → List ℕ → Type 0
Lead f each = (v : ℕ) → Contains each v → LeadsTo f v

first_leads : (f : FrontierValue) (each : List ℕ) (first : Option ℕ) → first ≡ slice_get each 0 → Lead f each → IfSome first (LeadsTo f)
first_leads f each None is lead = tt
first_leads f each (Some v) is lead = lead v (0, slice_get_within each 0 v (sym is), get_or_from_slice_get each 0 v v (sym is))

pub returns-in-Each-clause-word : goal.returns-in-Each-clause-word
returns-in-Each-clause-word g c =
    let f = c.args.search.now in
    let lead : Lead f c.in-Each.words.items = λ v there words told follows. (subst (λ (found : Words). IfWords found (λ each. (words : List ℕ) (told : List Operation) → Follows words told f → (v : ℕ) → Contains each v ↔ SomeLeads told words v)) c.in-Each.is c.in_ok-words.ensures.words words told follows v).0 there in
    first_leads f c.in-Each.words.items c.copied.result (c.copied.ensures ∙ (c.first.ensures.value ∙ ap (λ (l : List ℕ). slice_get l 0) c.deref.ensures.value)) lead
