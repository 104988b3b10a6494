-- what was found of requests, one more of them, and those that follow
use Rattle.std.proofs.Common.{◌≡◌, ℕ, ◌+◌, ◌<◌, ◌≤◌, nat_lt, if◌then◌else◌, false, arith, List, append_assoc, append-nil, drop, get_or, length, Option, Result, Ok, Err, refl, sym, ap, ◌∙◌}
use Rattle.std.proofs.lemmas.List.{at_drop_all, at_drop_more}
use Rattle.std.proofs.lemmas.Bool.{le-ltb}
use Rattle.serde_json.specs.Data.{Data, Items, item, no_items}
use Rattle.serde_json.specs.Events.{items_len}
use Rattle.serde_json.specs.View.{items_view, view}
use Rattle.serde_json.specs.declared.value.Value.{Value}
use Rattle.chi_fields.specs.Extent.{Extent}
use Rattle.chi_fields.specs.declared.refusal.Refusal.{Refusal}
use Rattle.chi_lanes.specs.declared.reply.Reply.{Reply}
use Rattle.chi_trace.specs.declared.operation.Operation.{Operation}
use Rattle.chi_reading.specs.declared.stated.Outcome.TheVariants.{Accepted, Refused}
use Rattle.chi_reading.specs.declared.stated.Stated.{Stated}
use Rattle.chi_json.specs.Members.{◌>>=◌, or_else}
use Rattle.chi_reading.specs.declared.fault.TraceFault.{TraceFault}
use Rattle.chi_reading.specs.declared.fault.TraceFault.TheVariants.{InRequest, TooManyRequests}
use Rattle.chi_reading.specs.Requests.{Completed, all_completed, completed_at, completed_by, completed_of, joined, none_completed, observed_of, one_accepted, one_refused, refused_of, stated_at}

-- what was found, and then what follows
abbrev pub after : Completed → Result Completed TraceFault → Result Completed TraceFault
after found (Ok rest) = Ok (joined found rest)
after found (Err fault) = Err fault

-- what was found, and then what the elements from a place on are
abbrev pub rest_of : ℕ → Option Extent → List Value → Completed → Result Completed TraceFault
rest_of place region values found = after found (completed_of place region (items_view (drop place values)))

joined_assoc : (a b c : Completed) → joined (joined a b) c ≡ joined a (joined b c)
joined_assoc a b c =
    rw (append_assoc a.operations b.operations c.operations, append_assoc a.refusals b.refusals c.refusals) refl

pub joined_none : (a : Completed) → joined a none_completed ≡ a
joined_none a = rw (append-nil a.operations, append-nil a.refusals) refl

pub none_joined : (r : Result Completed TraceFault) → after none_completed r ≡ r
none_joined (Ok rest) = refl
none_joined (Err fault) = refl

pub one_joined : (found one : Completed) (r : Result Completed TraceFault) → after found (r >>= (λ rest. Ok (joined one rest))) ≡ after (joined found one) r
one_joined found one (Ok rest) = ap Ok (sym (joined_assoc found one rest))
one_joined found one (Err fault) = refl

-- before the first element
pub none_found : (region : Option Extent) (values : List Value) (found : Completed) → found ≡ none_completed
    → rest_of 0 region values found ≡ completed_of 0 region (items_view values)
none_found region values found is = ap (rest_of 0 region values) is ∙ none_joined (completed_of 0 region (items_view values))

-- past the last one
pub all_found : (place : ℕ) (region : Option Extent) (values : List Value) (found : Completed) → length values ≤ place
    → rest_of place region values found ≡ Ok found
unfolding completed_of
all_found place region values found past =
    at_drop_all (λ vs. after found (completed_of place region (items_view vs))) values place past ∙ ap Ok (joined_none found)

-- one element more, before others
pub one_read : (place : ℕ) (region : Option Extent) (d : Data) (found one more : Completed) → completed_at place region d ≡ Ok one → more ≡ joined found one → (rest : Items)
    → after found (completed_of place region (item d rest)) ≡ after more (completed_of (place + 1) region rest)
unfolding completed_of
one_read place region d found one more is joins rest = rw (is, joins) (one_joined found one (completed_of (place + 1) region rest))

-- it is the element at a place of a list
pub one_found : (place : ℕ) (region : Option Extent) (values : List Value) (value : Value) (found : Completed) → place < length values
    → value ≡ get_or values place value → (one more : Completed) → completed_at place region (view value) ≡ Ok one → more ≡ joined found one
    → rest_of place region values found ≡ rest_of (place + 1) region values more
one_found place region values value found under here one more is joins =
    let rest : Items = items_view (drop (place + 1) values) in
    at_drop_more (λ vs. after found (completed_of place region (items_view vs))) values place value under
    ∙ (ap (λ v. after found (completed_of place region (item (view v) rest))) (sym here) ∙ one_read place region (view value) found one more is joins rest)

-- what came of the request at a place: it was accepted
pub accepted_by : (place : ℕ) (region : Option Extent) (s : Stated) (reply : Option Reply) (operation : Operation) → s.outcome ≡ Accepted reply
    → or_else (InRequest place) (observed_of region s reply) ≡ Ok operation → completed_by place region s s.outcome ≡ Ok (one_accepted operation)
unfolding observed_of
accepted_by place region s reply operation outcome observed = rw (outcome, observed) refl

-- or it was refused
pub refused_by : (place : ℕ) (region : Option Extent) (s : Stated) (reason refusal : Refusal) → s.outcome ≡ Refused reason
    → or_else (InRequest place) (refused_of region s reason) ≡ Ok refusal → completed_by place region s s.outcome ≡ Ok (one_refused refusal)
unfolding refused_of
refused_by place region s reason refusal outcome refused = rw (outcome, refused) refl

-- what the element at a place is, by what it states
pub completed_so : (place : ℕ) (region : Option Extent) (d : Data) (s : Stated) → stated_at place d ≡ Ok s → completed_at place region d ≡ completed_by place region s s.outcome
unfolding completed_at
completed_so place region d s stated = rw stated refl

-- all elements, of which there are as many as were counted
pub all_read : (place : ℕ) (region : Option Extent) (found : Completed) (ds : Items) → completed_of 0 region ds ≡ after found (completed_of place region no_items)
    → items_len ds ≡ place + 0 → place ≤ 1048576 → all_completed region ds ≡ Ok found
unfolding all_completed completed_of
all_read place region found ds is counted few =
    let within : nat_lt 1048576 (items_len ds) ≡ false = le-ltb 1048576 (items_len ds) (omega (arith, counted)) in
    ap (λ b. if b then Err TooManyRequests else completed_of 0 region ds) within ∙ (is ∙ ap Ok (joined_none found))
