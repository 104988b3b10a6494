-- a search that goes along one order
use Rattle.std.proofs.Common.{◌≡◌, ℕ, ◌^◌, ◌<◌, ◌≤◌, ◌↔◌, List, [], ◌∷◌, ◌++◌, append-nil, drop, length, IfSome, Option, Some, sym, subst, arith}
use Rattle.std.proofs.lemmas.List.{append_assoc}
use Rattle.std.specs.List.{Contains}
use Rattle.chi_trace.specs.declared.operation.Operation.{Operation}
use Rattle.chi_trace.specs.Granules.{last_word}
use Rattle.chi_search.specs.declared.order.Found.{Found}
use Rattle.chi_search.specs.declared.order.Found.TheVariants.{Nothing, Order, Undecided}
use Rattle.chi_search.specs.declared.states.States.{States}
use Rattle.chi_search.specs.Found.{IfOrder}
use Rattle.chi_search.specs.Frontiers.{CanBeTold, Follows, FrontierValue, GoesAlong, GoesOnFrom, IsFrontier, MayBeTold}
use Rattle.chi_search.specs.Layers.{SomeEnds, SomeLeads}
use Rattle.chi_search.specs.Moves.{CanCome, Ends, Takes}
use Rattle.chi_search.specs.Positions.{Position, is_left}
use Rattle.chi_search.specs.Searchable.{AreSorted}
use Rattle.chi_search.specs.StateSets.{Has, positions}
use Rattle.chi_search.proofs.Following.{comes_on, takes_on}
use Rattle.chi_search.proofs.Layers.{takes_to}
use Rattle.chi_search.proofs.MovedBack.{AreBack, goes_back, told_back}
use Rattle.chi_search.proofs.Judging.{IsFrom, to_last}
use Rattle.chi_search.proofs.Telling.{may_earlier, may_follow, none_told, told_one, with_one}

-- what goes on after an operation that comes next goes on from before it, whatever is told later
pub taken_on : (ops more : List Operation) (p q : Position) (i v : ℕ) → AreSorted (ops ++ more) → p.first < length ops → i < length ops → CanCome ops p i → Takes ops p i q
    → q.word < 2 ^ 64 → Ends (ops ++ more) (Some v) q → Ends (ops ++ more) (Some v) p
taken_on ops more p q i v sorted first below comes takes word ends =
    takes_to (ops ++ more) p q i v sorted (comes_on ops more p i first comes) (takes_on ops more p q i below takes) word ends

-- a search that follows what was told goes along it
pub follows_along : (words : List ℕ) (told : List Operation) (f : FrontierValue) → Follows words told f → GoesAlong words told f
follows_along words told f follows more may v goes = (follows.leads more may v).1 goes

-- the search from one state on, told without the operations that this has passed, goes on to just the words to which the state leads
pub from_back : (f : FrontierValue) (s : Position) (k : ℕ) (last back : States) → Has last s → ((q : Position) → Has last q → q ≡ s) → k ≤ length f.operations
    → ((q : Position) → Has last q → k ≤ q.first) → AreBack k back last → GoesOnFrom f (told_back f f.horizon k back) s
from_back f s k last back has one within past are more v = (forth, λ ends. goes.0 (s, has, ends))
  where
    goes : SomeEnds (f.operations ++ more) last v ↔ SomeEnds (drop k f.operations ++ more) back v
    goes = goes_back f.operations more k v last back within past are

    forth : SomeEnds (drop k f.operations ++ more) back v → Ends (f.operations ++ more) (Some v) s
    forth some = let of = goes.1 some in subst (Ends (f.operations ++ more) (Some v)) (one of.0 of.1) of.2

-- a search that goes on from a position goes along what was told, where what goes on from there goes on from one of the first search
pub along_from : (words : List ℕ) (told : List Operation) (f next : FrontierValue) (p s : Position) → IsFrontier f → Contains f.positions p
    → ((more : List Operation) → AreSorted (f.operations ++ more) → (v : ℕ) → Ends (f.operations ++ more) (Some v) s → Ends (f.operations ++ more) (Some v) p)
    → GoesOnFrom f next s → (next.horizon ≡ f.horizon) × (next.latest ≡ f.latest) → GoesAlong words told f → GoesAlong words told next
along_from words told f next p s is has ends from same along more may v goes =
    let before : MayBeTold f more = may_earlier f next more (omega (arith, same.0)) (omega (arith, same.1)) may in
    along more before v (p, has, ends more (may_follow f f.horizon more is before).sorted v ((from more v).0 goes))

-- and so does a copy of it
pub along_copied : (words : List ℕ) (told : List Operation) (f : FrontierValue) (states back : States) → f.positions ≡ positions states → AreBack 0 back states
    → GoesAlong words told f → GoesAlong words told (record f { positions = positions back })
along_copied words told f states back same copied along more may v goes =
    along more (may_earlier f (record f { positions = positions back }) more (omega arith) (omega arith) may) v
    (subst (λ (ps : List Position). (p : Position) × Contains ps p × Ends (f.operations ++ more) (Some v) p) (sym same)
    ((goes_back f.operations more 0 v states back (omega arith) (λ p has. omega arith) copied).1 goes))

-- one operation more is told
pub along_one : (words : List ℕ) (told : List Operation) (f : FrontierValue) (op : Operation) → CanBeTold f op → GoesAlong words told f
    → GoesAlong words (told ++ op ∷ []) (with_one f op)
along_one words told f op can along more may v goes =
    subst (λ (all : List Operation). SomeLeads all words v) (sym (append_assoc told (op ∷ []) more))
    (along (op ∷ more) (told_one f op more can may) v
    (subst (λ (all : List Operation). (p : Position) × Contains f.positions p × Ends all (Some v) p) (append_assoc f.operations (op ∷ []) more) goes))

-- the order leads to a word: the last, or the one that was observed
pub order_along : (f : FrontierValue) (final_word : Option ℕ) (found : Found) → IfOrder found (IsFrom f final_word)
    → IfOrder found (λ x. (words : List ℕ) (told : List Operation) → GoesAlong words told f → (v : ℕ) × SomeLeads told words v × IfSome final_word (λ seen. v ≡ seen))
order_along f final_word Nothing some = tt
order_along f final_word Undecided some = tt
order_along f final_word (Order places) (p, has, c) = λ words told along.
    let v = last_word f.operations p.word places.items in (
      v,
      along_now words told f v along (p, has, (places.items, to_last f.operations (is_left (length f.operations) p) p.word final_word places.items c)),
      c.ending,
    )
  where
    along_now : (words : List ℕ) (told : List Operation) (f : FrontierValue) (v : ℕ) → GoesAlong words told f → ((p : Position) × Contains f.positions p × Ends f.operations (Some v) p)
        → SomeLeads told words v
    along_now words told f v along ends =
        subst (λ (all : List Operation). SomeLeads all words v) (append-nil told)
        (along [] (none_told f) v (subst (λ (all : List Operation). (p : Position) × Contains f.positions p × Ends all (Some v) p) (sym (append-nil f.operations)) ends))
