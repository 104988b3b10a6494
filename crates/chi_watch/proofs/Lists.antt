-- what is made of the elements of a list
use Rattle.std.proofs.Common.{List, [], ◌∷◌, All, Option, Some, None, IfSome}
use Rattle.std.specs.Prelude.{filter_map}
use Rattle.std.specs.List.{cons_option}
use Rattle.std.proofs.lemmas.List.Elements.{All-cons, All-head, All-nil, All-tail}

-- what holds of each that is made
pub All-filter_map : {X Y : Type 0} (f : X → Option Y) (P : Y → Type 0) (xs : List X) → All (λ x. IfSome (f x) P) xs → All P (filter_map f xs)
All-filter_map f P [] all = All-nil P
All-filter_map {X} {Y} f P (x ∷ xs) all =
    by_case (f x) (All-head (λ y. IfSome (f y) P) x xs all) (All-filter_map f P xs (All-tail (λ y. IfSome (f y) P) x xs all))
  where
    by_case : (o : Option Y) → IfSome o P → All P (filter_map f xs) → All P (cons_option o (filter_map f xs))
    by_case None one rest = rest
    by_case (Some y) one rest = All-cons P y (filter_map f xs) one rest
