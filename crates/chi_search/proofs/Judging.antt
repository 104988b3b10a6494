-- what an order from a position of a search, or that there is none, says of the operations that the search follows
use Rattle.std.proofs.Common.{◌≡◌, ℕ, ◌↔◌, Bool, List, [], ◌++◌, length, map, append-nil, Option, Some, None, IfSome, refl, subst, ◌∙◌}
use Rattle.std.specs.List.{Contains}
use Rattle.chi_trace.specs.declared.operation.Operation.{Operation}
use Rattle.chi_trace.specs.Explains.{at}
use Rattle.chi_trace.specs.Granules.{Finishes, last_word}
use Rattle.chi_search.specs.declared.order.Found.{Found}
use Rattle.chi_search.specs.declared.order.Found.TheVariants.{Nothing, Order, Undecided}
use Rattle.chi_search.specs.declared.words.Words.{Words}
use Rattle.chi_search.specs.declared.words.Words.TheVariants.{Each, Unknown}
use Rattle.chi_search.specs.Found.{IfNothing, IfOrder, IfWords}
use Rattle.chi_search.specs.Frontiers.{AreEnds, EndsWith, Follows, FrontierValue, GoesOn}
use Rattle.chi_search.specs.Layers.{SomeLeads}
use Rattle.chi_search.specs.Moves.{Ends}
use Rattle.chi_search.specs.Paths.{IsDead}
use Rattle.chi_search.specs.Positions.{Position, is_left}
use Rattle.chi_search.proofs.FirstAndLast.{chained}
use Rattle.chi_search.proofs.Telling.{none_told}

-- an order leaves the last word of its operations, and some word
pub to_last : (ops : List Operation) (l : ℕ → Bool) (w : ℕ) (final_word : Option ℕ) (x : List ℕ) → Finishes ops l w final_word x → Finishes ops l w (Some (last_word ops w x)) x
to_last ops l w final_word x c = record { done = c.done; once = c.once; times = c.times; plays = c.plays; ending = refl }

unseen : (ops : List Operation) (l : ℕ → Bool) (w : ℕ) (final_word : Option ℕ) (x : List ℕ) → Finishes ops l w final_word x → Finishes ops l w None x
unseen ops l w final_word x c = record { done = c.done; once = c.once; times = c.times; plays = c.plays; ending = tt }

-- and the word that was observed, where it was that one
to_seen : (ops : List Operation) (l : ℕ → Bool) (w v : ℕ) (final_word : Option ℕ) (x : List ℕ) → IfSome final_word (λ seen. v ≡ seen) → Finishes ops l w (Some v) x
    → Finishes ops l w final_word x
to_seen ops l w v None x is c = unseen ops l w (Some v) x c
to_seen ops l w v (Some seen) x is c = record { done = c.done; once = c.once; times = c.times; plays = c.plays; ending = c.ending ∙ is }

-- where nothing more is told
follows_now : (words : List ℕ) (told : List Operation) (f : FrontierValue) (v : ℕ) → Follows words told f
    → SomeLeads told words v ↔ ((p : Position) × Contains f.positions p × Ends f.operations (Some v) p)
follows_now words told f v follows =
    subst (λ (all : List Operation). SomeLeads told words v ↔ ((p : Position) × Contains f.positions p × Ends all (Some v) p)) (append-nil f.operations)
    (subst (λ (all : List Operation). SomeLeads all words v ↔ GoesOn f [] v) (append-nil told) (follows.leads [] (none_told f) v))

ends_now : (words : List ℕ) (told : List Operation) (f : FrontierValue) → Follows words told f → AreEnds told words f.positions f.operations
ends_now words told f follows =
    subst (AreEnds told words f.positions) (append-nil f.operations)
    (subst (λ (all : List Operation). AreEnds all words f.positions (f.operations ++ [])) (append-nil told) (follows.orders [] (none_told f)))

-- an order that finishes what is left at one of the positions
abbrev pub IsFrom : FrontierValue → Option ℕ → List ℕ → Type 0
IsFrom f final_word x = (p : Position) × Contains f.positions p × Finishes f.operations (is_left (length f.operations) p) p.word final_word x

abbrev pub LeadsOn : FrontierValue → Option ℕ → Type 0
LeadsOn f final_word = (words : List ℕ) (told : List Operation) → Follows words told f → (v : ℕ) × SomeLeads told words v × IfSome final_word (λ seen. v ≡ seen)

abbrev pub LeadsNowhere : FrontierValue → Option ℕ → Type 0
LeadsNowhere f final_word = (words : List ℕ) (told : List Operation) → Follows words told f → (v : ℕ) → SomeLeads told words v → IfSome final_word (λ seen. v ≡ seen) → ⊥

pub order_leads : (f : FrontierValue) (final_word : Option ℕ) (found : Found) → IfOrder found (IsFrom f final_word) → IfOrder found (λ x. LeadsOn f final_word)
order_leads f final_word Nothing some = tt
order_leads f final_word Undecided some = tt
order_leads f final_word (Order places) (p, has, c) = λ words told follows.
    let v = last_word f.operations p.word places.items in (
      v,
      (follows_now words told f v follows).1 (p, has, (places.items, to_last f.operations (is_left (length f.operations) p) p.word final_word places.items c)),
      c.ending,
    )

abbrev pub EndsAll : FrontierValue → List ℕ → Type 0
EndsAll f x = (words : List ℕ) (told : List Operation) → Follows words told f → EndsWith told words (map (at f.operations) x)

pub order_ends : (f : FrontierValue) (final_word : Option ℕ) (found : Found) → IfOrder found (IsFrom f final_word) → IfOrder found (EndsAll f)
order_ends f final_word Nothing some = tt
order_ends f final_word Undecided some = tt
order_ends f final_word (Order places) (p, has, c) = λ words told follows.
    ends_now words told f follows p has places.items (unseen f.operations (is_left (length f.operations) p) p.word final_word places.items c)

none_leads : (f : FrontierValue) (final_word : Option ℕ) → ((p : Position) → Contains f.positions p → IsDead f.operations final_word p) → LeadsNowhere f final_word
none_leads f final_word dead words told follows v leads is = none ((follows_now words told f v follows).0 leads)
  where
    none : ((p : Position) × Contains f.positions p × Ends f.operations (Some v) p) → ⊥
    none (p, has, (x, c)) = dead p has (x, to_seen f.operations (is_left (length f.operations) p) p.word v final_word x is c)

pub nothing_leads : (f : FrontierValue) (final_word : Option ℕ) (found : Found) → IfNothing found ((p : Position) → Contains f.positions p → IsDead f.operations final_word p)
    → IfNothing found (LeadsNowhere f final_word)
nothing_leads f final_word (Order places) none = tt
nothing_leads f final_word Undecided none = tt
nothing_leads f final_word Nothing dead = none_leads f final_word dead

-- each word to which the search goes on, and each to which what was told leads
abbrev pub AreLed : FrontierValue → List ℕ → Type 0
AreLed f each = (v : ℕ) → Contains each v ↔ ((p : Position) × Contains f.positions p × Ends f.operations (Some v) p)

abbrev pub AreTold : FrontierValue → List ℕ → Type 0
AreTold f each = (words : List ℕ) (told : List Operation) → Follows words told f → (v : ℕ) → Contains each v ↔ SomeLeads told words v

pub words_told : (f : FrontierValue) (found : Words) → IfWords found (AreLed f) → IfWords found (AreTold f)
words_told f Unknown are = tt
words_told f (Each each) are = λ words told follows v.
    let here = follows_now words told f v follows in
    chained (Contains each.items v) ((p : Position) × Contains f.positions p × Ends f.operations (Some v) p) (SomeLeads told words v) (are v) (here.1, here.0)
