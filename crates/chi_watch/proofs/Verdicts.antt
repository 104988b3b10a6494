-- what is said of events by what the operations of each granule lead to
use Rattle.std.proofs.Common.{◌≡◌, ℕ, ◌/◌, ◌==◌, ◌<◌, ◌^◌, ◌++◌, Bool, true, false, cond, List, [], ◌∷◌, All, Option, Some, None, IfSome}
use Rattle.std.proofs.Common.{filter, flat_map, map, refl, sym, ap, ap₂, subst, ◌∙◌, arith, le-ltb, ne_eqb}
use Rattle.std.specs.Prelude.{IsPermutation, filter_map, is_none}
use Rattle.std.specs.List.{cons_option}
use Rattle.std.proofs.lemmas.List.Elements.{All-append, All-cons, All-head, All-nil, All-tail}
use Rattle.std.proofs.lemmas.List.Sorted.{IsPermutation-trans}
use Rattle.chi_fields.specs.Access.{Access}
use Rattle.chi_events.specs.EventLaws.{OperationsAreTold}
use Rattle.chi_events.specs.Operations.{operations}
use Rattle.chi_events.specs.Outstanding.{HasWord, IsEvent, OutstandingValue, Tells, open_operation}
use Rattle.chi_events.specs.declared.event.Event.{Event}
use Rattle.chi_events.specs.declared.event.EventKind.{EventKind}
use Rattle.chi_events.specs.declared.event.EventKind.TheVariants.{Request, Data, Reply, Dropped, Refused, Word, Final, Unknown, End}
use Rattle.chi_events.specs.declared.outstanding.Open.{Open}
use Rattle.chi_judge.specs.Judges.{JudgeValue, Keeps}
use Rattle.chi_judge.specs.Reaches.{IsJudgeOf}
use Rattle.chi_judge.specs.Standings.{IsInexplicable}
use Rattle.chi_trace.specs.AtPlaces.{GranulesStandAlone, is_in}
use Rattle.chi_trace.specs.Explains.{IsInTime, IsTrace, times_in}
use Rattle.chi_trace.specs.Granules.{ExplainsGranule, Play, is_of}
use Rattle.chi_trace.specs.TraceLaws.{GranulesExplain, PartsExplain}
use Rattle.chi_trace.specs.declared.operation.Operation.{Operation}
use Rattle.chi_trace.specs.declared.words.GranuleWord.{GranuleWord}
use Rattle.chi_trace.specs.Words.{AreWords, find_word, memory_of, word_or_zero}
use Rattle.chi_trace.proofs.Memory.{IsMemory-memory_of, word_of-memory_of}
use Rattle.chi_watch.specs.Judged.{CanBeExplained, IsExplained, IsExplainedBy, final_of, is_known, judged, judged_part, operations_and_writes, unknown_since}
use Rattle.chi_watch.specs.Watches.{told_of}
use Rattle.chi_watch.specs.WordsTold.{WordAt, final_words, granule_word, openings, word_after, word_at, words_told, writes_told}
use Rattle.chi_watch.proofs.Among.{all_traced, judged_moved, writes_are}
use Rattle.chi_watch.specs.Endings.{judged_word}
use Rattle.chi_events.specs.Granules.{IsQuiet, granule_of_request}
use Rattle.chi_watch.specs.Followed.{FollowedValue}
use Rattle.chi_watch.proofs.JudgedParts.{judged_traced}

-- a word that is told has eight bytes
abbrev Fits : WordAt → Type 0
Fits w = w.told.word < 2 ^ 64

words_fit : (events : List Event) → All IsEvent events → All Fits (words_told events)
unfolding words_told
words_fit [] are = All-nil Fits
words_fit (e ∷ events) are =
    All-append Fits (word_at e.time e.kind) (map (word_after e.kind) (words_told events)) (own e.kind (All-head IsEvent e events are).word)
    (after (words_told events) (words_fit events (All-tail IsEvent e events are)))
  where
    own : (k : EventKind) → HasWord k → All Fits (word_at e.time k)
    own (Request r) is = All-nil Fits
    own (Data p) is = All-nil Fits
    own (Reply c) is = All-nil Fits
    own (Dropped id) is = All-nil Fits
    own (Refused id reason) is = All-nil Fits
    own (Word w) is = All-cons Fits (record { time = e.time; told = w; is_opening = true }) [] is (All-nil Fits)
    own (Final w) is = All-nil Fits
    own (Unknown addr len) is = All-nil Fits
    own End is = All-nil Fits

    after : (ws : List WordAt) → All Fits ws → All Fits (map (word_after e.kind) ws)
    after [] all = All-nil Fits
    after (w ∷ ws) all = All-cons Fits (word_after e.kind w) (map (word_after e.kind) ws) (All-head Fits w ws all) (after ws (All-tail Fits w ws all))

-- so have those at the opening
openings_fit : (ws : List WordAt) → All Fits ws → AreWords (map (λ (w : WordAt). granule_word w.told) (filter (λ (w : WordAt). w.is_opening) ws))
openings_fit [] all = All-nil (λ (w : GranuleWord). w.word < 2 ^ 64)
openings_fit (w ∷ ws) all = by_test w.is_opening (openings_fit ws (All-tail Fits w ws all))
  where
    rest : List WordAt
    rest = filter (λ (x : WordAt). x.is_opening) ws

    by_test : (b : Bool) → AreWords (map (λ (x : WordAt). granule_word x.told) rest) → AreWords (map (λ (x : WordAt). granule_word x.told) (cond b (w ∷ rest) rest))
    by_test true fit = All-cons (λ (x : GranuleWord). x.word < 2 ^ 64) (granule_word w.told) (map (λ (x : WordAt). granule_word x.told) rest) (All-head Fits w ws all) fit
    by_test false fit = fit

pub openings_are_words : (events : List Event) → All IsEvent events → AreWords (openings events)
openings_are_words events are = openings_fit (words_told events) (words_fit events are)

-- some order explains a granule that has no operations
pub explains_none : GranulesStandAlone → (trace : List Operation) (g w : ℕ) → IsPermutation (filter (is_in g) trace) [] → (order : List ℕ) × ExplainsGranule trace g w None order
unfolding IsInTime Play times_in
explains_none law trace g w moved =
    (law trace [] g w None moved).1
    ([], record { done = λ i. rw (le-ltb i 0 (omega arith)) (omega arith); once = λ i. omega arith; times = tt; plays = tt; ending = tt })

-- the operations that had ended, and those that are open
abbrev pub told_by : List Operation → OutstandingValue → List Operation
told_by ended o = ended ++ filter_map open_operation o.requests

-- what is judged of a granule, in another order
pub all_judged : OperationsAreTold → (events : List Event) (ended : List Operation) (o : OutstandingValue) (g : ℕ) → Tells events ended o
    → IsPermutation (filter (is_in g) (judged events)) (flat_map (judged_part events) (told_of events (told_by ended o) g))
all_judged law events ended o g tells = judged_moved events g (told_by ended o) (law events ended o tells).1

-- it is a trace
traced : OperationsAreTold → (events : List Event) (ended : List Operation) (o : OutstandingValue) → Tells events ended o → IsTrace (judged events)
traced law events ended o tells = judged_traced events (operations_and_writes events) (all_traced (writes_told events) (operations events) (writes_are events) (law events ended o tells).0)

-- what is judged of a granule's operations, of which a judge was told
module _ (law : OperationsAreTold) (events : List Event) (ended : List Operation) (o : OutstandingValue) (g : ℕ) (tells : Tells events ended o) (now : ℕ) (r : JudgeValue) (told : List Operation)
    (told_is : IsPermutation (flat_map (judged_part events) (told_of events (told_by ended o) g)) told) (keeps : Keeps (word_or_zero (openings events) g ∷ []) told now r) where
  pub is_judge : IsJudgeOf (judged events) g (word_or_zero (openings events) g) r
  is_judge = record {
    traced = traced law events ended o tells;
    told = told;
    now = now;
    moved = IsPermutation-trans (filter (is_in g) (judged events)) (flat_map (judged_part events) (told_of events (told_by ended o) g)) told (all_judged law events ended o g tells) told_is;
    keeps = keeps;
  }

  -- where no order explains them the granule cannot be explained
  pub not_explained : IsInexplicable r (final_of events g) → CanBeExplained events g → ⊥
  not_explained none can = none (judged events) g (word_or_zero (openings events) g) is_judge can.0 can.1

  -- and no order explains all that is judged
  pub whole_not_explained : PartsExplain → IsInexplicable r (final_of events g) → (order : List ℕ) → IsExplainedBy events order → ⊥
  whole_not_explained parts_law none order explains =
      not_explained none (
        filter (is_of (judged events) g) order,
        subst (λ (w : ℕ). ExplainsGranule (judged events) g w (final_of events g) (filter (is_of (judged events) g) order))
            (word_of-memory_of (openings events) g (openings_are_words events tells.bounds))
            (parts_law (memory_of (openings events)) (final_of events) (judged events) order (IsMemory-memory_of (openings events))
            (traced law events ended o tells) explains g).0,
      )

-- the word at the end that is judged of a granule that is watched, and of one of which none was told
pub word_is : (events : List Event) (g : ℕ) (f : FollowedValue) → f.unknown_since ≡ unknown_since events g → f.final_word ≡ find_word (final_words events) g → judged_word f ≡ final_of events g
word_is events g f since final_word = ap₂ (λ (u : Option ℕ) (w : Option ℕ). cond (is_none u) w None) since final_word

pub no_word : (events : List Event) (g : ℕ) → find_word (final_words events) g ≡ None → None ≡ final_of events g
no_word events g none = sym (ap (λ (w : Option ℕ). cond (is_known events g) w None) none ∙ either_none (is_known events g))
  where
    no_number : Option ℕ
    no_number = None

    either_none : (b : Bool) → cond b no_number no_number ≡ no_number
    either_none true = refl
    either_none false = refl

-- a granule of which no operation is told can be explained
pub can_without : GranulesStandAlone → OperationsAreTold → (events : List Event) (ended : List Operation) (o : OutstandingValue) (g : ℕ) → Tells events ended o
    → told_of events (told_by ended o) g ≡ [] → find_word (final_words events) g ≡ None → CanBeExplained events g
can_without granules_law operations_law events ended o g tells none no_final =
    subst (λ f. (order : List ℕ) × ExplainsGranule (judged events) g (word_or_zero (openings events) g) f order) (no_word events g no_final)
    (explains_none granules_law (judged events) g (word_or_zero (openings events) g)
    (subst (IsPermutation (filter (is_in g) (judged events))) (ap (flat_map (judged_part events)) none) (all_judged operations_law events ended o g tells)))

-- Where some order explains what is judged of each granule, one explains it all.
pub explained : OperationsAreTold → GranulesExplain → (events : List Event) (ended : List Operation) (o : OutstandingValue) → Tells events ended o → ((g : ℕ) → CanBeExplained events g) → IsExplained events
explained operations_law whole_law events ended o tells each =
    (whole_law (memory_of (openings events)) (final_of events) (judged events) (IsMemory-memory_of (openings events))
    (traced operations_law events ended o tells)).0
    (λ g. subst (λ (w : ℕ). (order : List ℕ) × ExplainsGranule (judged events) g w (final_of events g) order)
    (sym (word_of-memory_of (openings events) g (openings_are_words events tells.bounds))) (each g))

-- the access of a request, once its data have come, is at its address
abbrev IsAt : Open → Type 0
IsAt p = IfSome p.access (λ access. access.addr ≡ p.fields.addr)

-- none of these requests' operations is of a granule of which no request is outstanding
pub quiet_none : (requests : List Open) (g : ℕ) → All (λ p. IfSome p.access (λ access. access.addr ≡ p.fields.addr)) requests → IsQuiet requests g
    → filter (is_in g) (filter_map open_operation requests) ≡ []
quiet_none [] g at quiet = refl
quiet_none (p ∷ requests) g at quiet =
    by_access p.access (All-head IsAt p requests at) (quiet_none requests g (All-tail IsAt p requests at) (All-tail (λ q. granule_of_request q ≡ g → ⊥) p requests quiet))
  where
    by_access : (a : Option Access) → IfSome a (λ access. access.addr ≡ p.fields.addr) → filter (is_in g) (filter_map open_operation requests) ≡ []
        → filter (is_in g) (cons_option (open_operation (record p { access = a })) (filter_map open_operation requests)) ≡ []
    by_access None is rest = rest
    by_access (Some access) is rest =
        let other : access.addr / 8 ≡ g → ⊥ = λ same. All-head (λ q. granule_of_request q ≡ g → ⊥) p requests quiet (ap (λ addr. addr / 8) (sym is) ∙ same) in
        let other_granule : (access.addr / 8 == g) ≡ false = ne_eqb (access.addr / 8) g other in
        rw other_granule rest
