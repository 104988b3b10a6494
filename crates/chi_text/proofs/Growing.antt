-- a list that grows by what is made of one item after the other
use Rattle.std.proofs.Common.{◌≡◌, ℕ, ◌+◌, ◌<◌, ◌≤◌, List, ◌++◌, length, get_or, take, Result, Ok, Err, OnOk, append_assoc, sym, ap, ◌∙◌}
use Rattle.std.proofs.lemmas.List.{flat_map_more, take_all, take_more}
use Rattle.std.specs.List.{flat_map}

-- one part more, of a list of them
pub part_more : {X Y : Type 0} (f : X → List Y) (start : List Y) (xs : List X) (i : ℕ) (d : X) (before after : List Y) → i < length xs
    → before ≡ start ++ flat_map f (take i xs) → after ≡ before ++ f (get_or xs i d) → after ≡ start ++ flat_map f (take (i + 1) xs)
part_more f start xs i d before after below so_far part =
    part ∙ (ap (λ l. l ++ f (get_or xs i d)) so_far
    ∙ (flat_map_more f start (take i xs) (get_or xs i d) ∙ ap (λ l. start ++ flat_map f l) (sym (take_more xs i d below))))

-- all of them
pub all_parts : {X Y : Type 0} (f : X → List Y) (start : List Y) (xs : List X) (i : ℕ) (whole : List Y) → length xs ≤ i
    → whole ≡ start ++ flat_map f (take i xs) → whole ≡ start ++ flat_map f xs
all_parts f start xs i whole past so_far = so_far ∙ ap (λ l. start ++ flat_map f l) (take_all i xs past)

-- one part and the next
pub joined : {Y : Type 0} (a b c s t : List Y) → b ≡ a ++ s → c ≡ b ++ t → c ≡ a ++ (s ++ t)
joined a b c s t p q = q ∙ (ap (λ l. l ++ t) p ∙ append_assoc a s t)

-- one part, and what follows it where that succeeds
pub part_then : {E : Type 0} (r : Result (Unit {0}) E) (start middle last s t : List ℕ) → middle ≡ start ++ s → OnOk r (last ≡ middle ++ t) → OnOk r (last ≡ start ++ (s ++ t))
part_then (Ok u) start middle last s t p q = joined start middle last s t p q
part_then (Err e) start middle last s t p q = tt
