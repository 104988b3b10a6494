-- operations that are told of granules one after the other
use Rattle.std.proofs.Common.{◌≡◌, ℕ, ◌+◌, ◌-◌, ◌^◌, ◌<◌, ◌++◌, List, [], ◌∷◌, Option, Some, None, filter, get_or, length, take}
use Rattle.std.proofs.Common.{flat_map, refl, sym, ap, ap₂, subst, ◌∙◌, append-nil, append_assoc}
use Rattle.std.specs.Prelude.{filter_map}
use Rattle.std.proofs.lemmas.List.Concat.{flat_map-append}
use Rattle.std.specs.List.{cons_option}
use Rattle.std.proofs.lemmas.List.{take_more}
use Rattle.std.proofs.lemmas.List.Elements.{filter-append, filter_map-append}
use Rattle.chi_events.specs.Outstanding.{open_operation}
use Rattle.chi_events.specs.declared.outstanding.Open.{Open}
use Rattle.chi_judge.specs.Judges.{Keeps}
use Rattle.chi_judge.specs.Until.{until}
use Rattle.chi_trace.specs.AtPlaces.{is_in}
use Rattle.chi_trace.specs.declared.operation.Operation.{Operation}
use Rattle.chi_watch.specs.Endings.{AreToldTo}
use Rattle.chi_watch.specs.Watches.{unknown_by}
use Rattle.chi_watch.specs.Followed.{FollowedValue}
use Rattle.chi_watch.specs.declared.followed.Gap.{Gap}

-- operations of a granule that is watched, as far as they had happened
abbrev parts_in : FollowedValue → List Operation → List Operation
parts_in f ops = flat_map (λ op. until (unknown_by f.gaps f.unknown_since op.start) (op ∷ [])) ops

-- where none is told nothing changes
pub told_none : (x : Option FollowedValue) → AreToldTo [] x x
told_none None = refl
told_none (Some f) = record {
  keeps = λ words told kept. subst (λ l. Keeps words l (2 ^ 64 - 1) f.judge) (sym (append-nil told)) kept;
  shown = refl;
  final_word = refl;
  since = refl;
  gaps = refl;
}

pub told_more : (xs ys : List Operation) (a b c : Option FollowedValue) → AreToldTo xs a b → AreToldTo ys b c → AreToldTo (xs ++ ys) a c
told_more xs ys None None None first second = ap (λ l. l ++ ys) first ∙ second
told_more xs ys None None (Some h) first second = second
told_more xs ys None (Some g) c first second = absurd first
told_more xs ys (Some f) None c first second = absurd first
told_more xs ys (Some f) (Some g) None first second = second
told_more xs ys (Some f) (Some g) (Some h) first second = record {
  keeps = λ words told kept.
      subst (λ l. Keeps words l (2 ^ 64 - 1) h.judge)
      (ap₂ (λ (gaps : List Gap) (since : Option ℕ). (told ++ parts_in f xs) ++ flat_map (λ op. until (unknown_by gaps since op.start) (op ∷ [])) ys) first.gaps first.since
      ∙ (append_assoc told (parts_in f xs) (parts_in f ys)
      ∙ ap (λ l. told ++ l) (sym (flat_map-append (λ (op : Operation). until (unknown_by f.gaps f.unknown_since op.start) (op ∷ [])) xs ys))))
      (second.keeps words (told ++ parts_in f xs) (first.keeps words told kept));
  shown = second.shown ∙ first.shown;
  final_word = second.final_word ∙ first.final_word;
  since = second.since ∙ first.since;
  gaps = second.gaps ∙ first.gaps;
}

-- the operations of a granule that these requests are
abbrev pub own_open : ℕ → List Open → List Operation
own_open g requests = filter (is_in g) (filter_map open_operation requests)

-- one request more
pub told_next : (requests : List Open) (i : ℕ) (p : Open) (g : ℕ) (a b c : Option FollowedValue) → i < length requests → p ≡ get_or requests i p
    → AreToldTo (own_open g (take i requests)) a b → AreToldTo (own_open g (p ∷ [])) b c → AreToldTo (own_open g (take (i + 1) requests)) a c
told_next requests i p g a b c below is first second = subst (λ l. AreToldTo l a c) (sym parts) (told_more _ _ a b c first second)
  where
    parts : own_open g (take (i + 1) requests) ≡ own_open g (take i requests) ++ own_open g (p ∷ [])
    parts =
        ap (own_open g) (take_more requests i p below ∙ ap (λ x. take i requests ++ x ∷ []) (sym is))
        ∙ ap (filter (is_in g)) (filter_map-append open_operation (take i requests) (p ∷ []))
        ∙ filter-append (is_in g) (filter_map open_operation (take i requests)) (filter_map open_operation (p ∷ []))

-- the same, where the request's operation is known
pub told_as : (p : Open) (o : Option Operation) (g : ℕ) (a b : Option FollowedValue) → o ≡ open_operation p → AreToldTo (filter (is_in g) (cons_option o [])) a b
    → AreToldTo (own_open g (p ∷ [])) a b
told_as p o g a b is told = subst (λ x. AreToldTo (filter (is_in g) (cons_option x [])) a b) is told
