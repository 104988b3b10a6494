-- the others, and itself where none of them outlasts it
use Rattle.std.proofs.Common.{◌≡◌, ℕ, ◌+◌, ◌<◌, ◌∷◌, ◌++◌, [], Bool, true, false, List, All, Vec, cond, length, sym, subst, ap, ◌∙◌, arith}
use Rattle.std.specs.List.{list_any}
use Rattle.std.specs.declared.alloc.Global.{Global}
use Rattle.std.proofs.lemmas.List.Elements.{All-filter}
use Rattle.chi_trace.specs.declared.operation.Operation.{Operation}
use Rattle.chi_trace.specs.Explains.{at}
use Rattle.chi_cover.specs.Open.{AreLatest, outlasts}
use Rattle.chi_cover.proofs.Latest.{first_kept, kept_of, latest_kept, others_of}
use Rattle.chi_cover.proofs.Traced.{read_at}
use Rattle.chi_cover.proofs.kept.with_place.Goals.{then-not-is_outlasted+in_ok-push, else-not-is_outlasted}
use Rattle.chi_cover.proofs.kept.with_place.Goals as goal

-- what is kept, by whether one of the others outlasts it
kept_is : (trace : List Operation) (places others seen kept : List ℕ) (op : Operation) (i : ℕ) (answer found : Bool) → op ≡ at trace i → others ≡ others_of trace places op → seen ≡ others
    → answer ≡ list_any (λ j. outlasts (at trace j) op) seen → answer ≡ found → kept ≡ cond found others (others ++ i ∷ [])
    → kept ≡ kept_of trace (others_of trace places (at trace i)) (at trace i) i
kept_is trace places others seen kept op i answer found read left looked says test is =
    is ∙ (ap (λ t. cond t others (others ++ i ∷ [])) (sym test ∙ (says ∙ ap (list_any (λ j. outlasts (at trace j) op)) looked))
    ∙ (ap (λ js. kept_of trace js op i) left ∙ ap (λ o. kept_of trace (others_of trace places o) o i) read))

pub is_outlasted-requires : goal.is_outlasted-requires
is_outlasted-requires c =
    let ops = c.args.ops.now in
    let inside : ℕ → Type 0 = λ j. j < length ops in
    subst (All inside) (sym (c.deref.ensures.value ∙ c.in_ok-kept.ensures))
    (All-filter _ inside c.args.places.now (λ k d under. let before = c.requires.places k d under in omega (arith, before, c.requires.place)))

pub returns : goal.returns
returns c =
    let ops = c.args.ops.now in
    let places = c.args.places.now in
    let i = c.args.place in
    let items : Vec ℕ Global → List ℕ = λ v. v.items in
    let read = read_at ops i c.index-ops-place.result c.requires.place c.index-ops-place.is in
    let kept : c.if-not-is_outlasted.kept.items ≡ kept_of ops (others_of ops places (at ops i)) (at ops i) i =
    elim c.if-not-is_outlasted.branch [
      | then-not-is_outlasted+in_ok-push w ↦
          kept_is ops places _ _ _ _ i _ false read c.in_ok-kept.ensures c.deref.ensures.value c.is_outlasted.ensures w.if-not-is_outlasted.true (ap items w.kept-is ∙ w.in_ok-push.ensures.items)
      | else-not-is_outlasted w ↦
          kept_is ops places _ _ _ _ i _ true read c.in_ok-kept.ensures c.deref.ensures.value c.is_outlasted.ensures w.if-not-is_outlasted.false (ap items w.kept-is)
    ] in
    record {
      places = subst (All (λ j. j < i + 1)) (sym kept) (first_kept ops places (at ops i) i c.requires.places);
      latest = subst (AreLatest ops (places ++ i ∷ [])) (sym kept) (latest_kept ops places i c.requires.unlike);
    }
