-- what is said of the events by the granules once all that is still open was told
use Rattle.std.proofs.Common.{◌≡◌, ℕ, ◌-◌, ◌^◌, ◌++◌, ◌⊎◌, inl, inr, List, [], ◌∷◌, All, Option, Some, None, IfSome, length, sym, ap, subst, ◌∙◌, arith}
use Rattle.std.specs.Prelude.{IsPermutation, filter_map, flat_map, map}
use Rattle.std.specs.List.{Contains}
use Rattle.std.proofs.lemmas.List.Elements.{All-cons, All-head, All-nil, All-tail}
use Rattle.chi_events.specs.EventLaws.{OperationsAreTold}
use Rattle.chi_events.specs.Outstanding.{IsOpen, open_operation}
use Rattle.chi_events.specs.declared.event.Event.{Event}
use Rattle.chi_judge.specs.Reaches.{IsExplained as IsExplainedUpTo, IsJudgeOf}
use Rattle.chi_judge.specs.Judges.{Keeps}
use Rattle.chi_judge.specs.Standings.{IsInexplicable as CanNotExplain}
use Rattle.chi_judge.proofs.Keeping.{keeps_later}
use Rattle.chi_trace.specs.AtPlaces.{GranulesStandAlone}
use Rattle.chi_trace.specs.Granules.{ExplainsGranule}
use Rattle.chi_trace.specs.TraceLaws.{GranulesExplain, PartsExplain}
use Rattle.chi_trace.specs.declared.operation.Operation.{Operation}
use Rattle.chi_trace.specs.Words.{find_word, word_or_zero}
use Rattle.chi_watch.specs.Endings.{AreToldTo, CanClose, IsExplainable, IsInexplicable, IsInexplicableAt, IsListed, judged_word}
use Rattle.chi_watch.specs.Judged.{CanBeExplained, IsExplained, final_of, judged, judged_part, unknown_since}
use Rattle.chi_watch.specs.WordsTold.{final_words, openings}
use Rattle.chi_watch.specs.Reaching.{IsFoundAtEnd, IsFoundIn, IsOfSomeTrace, IsReach, ReachesBy}
use Rattle.chi_watch.specs.Undecided.{AreExplainedAsFar, AreExplainedTo, GoesOnAt, IsAsFarIn, IsExplainedAsFar, IsExplainedIn, IsExplainedTo}
use Rattle.chi_watch.specs.Watches.{HasTaken, IsGranuleOf, Watches, WatchValue, granule, told_of, unknown_by}
use Rattle.chi_watch.specs.declared.ending.FoundAtEnd.{FoundAtEnd}
use Rattle.chi_watch.specs.Followed.{FollowedValue}
use Rattle.chi_watch.specs.declared.undecided.UndecidedAtEnd.{UndecidedAtEnd}
use Rattle.chi_watch.proofs.MoreParts.{own_of, same_parts}
use Rattle.chi_watch.proofs.MoreTold.{none_more, parts_moved}
use Rattle.chi_watch.proofs.Opened.{all_can_close}
use Rattle.chi_watch.proofs.ToldAtTheEnd.{own_open}
use Rattle.chi_watch.proofs.Verdicts.{can_without, explained, is_judge, not_explained, told_by, whole_not_explained, word_is}

-- the operations of each granule that are open were told of it
abbrev pub AreClosed : WatchValue → (ℕ → Option FollowedValue) → Type 0
AreClosed w new = (g : ℕ) → AreToldTo (own_open g w.outstanding.requests) (granule w g) (new g)

module _ (events : List Event) (ended : List Operation) (w : WatchValue) (new : ℕ → Option FollowedValue) (is : Watches events ended w) (closed : AreClosed w new) where
  -- Of a granule that is watched its judge was told what is judged of its operations, those that had ended and those that are open.
  record IsFollowed (g : ℕ) (f : FollowedValue) : Type 0 where
    since : f.unknown_since ≡ unknown_since events g
    shown : f.judge.shown ≡ w.shown
    told : List Operation
    are : IsPermutation (flat_map (judged_part events) (told_of events (told_by ended w.outstanding) g)) told
    keeps : Keeps (word_or_zero (openings events) g ∷ []) told (2 ^ 64 - 1) f.judge
    final_word : f.final_word ≡ find_word (final_words events) g

  followed : (g : ℕ) (a : Option FollowedValue) (f : FollowedValue) → IsGranuleOf w.shown events ended w.outstanding g a → AreToldTo (own_open g w.outstanding.requests) a (Some f) → IsFollowed g f
  followed g None f was more = absurd more
  followed g (Some before) f was more = record {
    since = more.since ∙ was.since;
    shown = more.shown ∙ was.shown_is;
    told = was.told ++ flat_map (judged_part events) (own_open g w.outstanding.requests);
    are = parts_moved events g ended (filter_map open_operation w.outstanding.requests) was.told was.told_is;
    keeps =
        subst (λ l. Keeps (word_or_zero (openings events) g ∷ []) (was.told ++ l) (2 ^ 64 - 1) f.judge)
        (same_parts events g (λ time. unknown_by before.gaps before.unknown_since time) was.gaps (own_open g w.outstanding.requests) (own_of g (filter_map open_operation w.outstanding.requests)))
        (more.keeps (word_or_zero (openings events) g ∷ []) was.told
        (keeps_later (word_or_zero (openings events) g ∷ []) was.told w.outstanding.time before.judge was.keeps (2 ^ 64 - 1) (omega (arith, is.time))));
    final_word = more.final_word ∙ was.final_word;
  }

  followed_here : (g : ℕ) (f : FollowedValue) → AreToldTo (own_open g w.outstanding.requests) (granule w g) (Some f) → IsFollowed g f
  followed_here g f more = followed g (granule w g) f (is.each g) more

  closed_judge : OperationsAreTold → (g : ℕ) (f : FollowedValue) → IsFollowed g f → IsJudgeOf (judged events) g (word_or_zero (openings events) g) f.judge
  closed_judge operations_law g f own = is_judge operations_law events ended w.outstanding g is.tells (2 ^ 64 - 1) f.judge own.told own.are own.keeps

  -- One that is not watched has none, and no word was told of it at the end.
  none_followed : (g : ℕ) (a : Option FollowedValue) → IsGranuleOf w.shown events ended w.outstanding g a → AreToldTo (own_open g w.outstanding.requests) a None
      → (told_of events (told_by ended w.outstanding) g ≡ []) × (find_word (final_words events) g ≡ None)
  none_followed g (Some before) was more = absurd more
  none_followed g None was more = (none_more events g ended (filter_map open_operation w.outstanding.requests) was.none more, was.final_word)

  -- no order explains what its judge was told
  inexplicable : (g : ℕ) (f : FollowedValue) → IsFollowed g f → IsInexplicable f → CanNotExplain f.judge (final_of events g)
  inexplicable g f own none = subst (CanNotExplain f.judge) (word_is events g f own.since own.final_word) none

  found_here : OperationsAreTold → PartsExplain → (found : FoundAtEnd) → IsInexplicableAt (new found.granule) → IsFoundIn new found → IsFoundAtEnd w.shown events found
  found_here operations_law parts_law found none said = by_case (new found.granule) (closed found.granule) none said.final_word said.reach
    where
      by_case : (b : Option FollowedValue) → AreToldTo (own_open found.granule w.outstanding.requests) (granule w found.granule) b → IsInexplicableAt b
          → IfSome b (λ f. found.final_word ≡ judged_word f) → IfSome b (λ f. ReachesBy f.judge found.reach) → IsFoundAtEnd w.shown events found
      by_case None more none final_word reach = absurd none
      by_case (Some f) more none final_word reach =
          let own = followed_here found.granule f more in
          let cannot = inexplicable found.granule f own none in
          record {
            none = not_explained operations_law events ended w.outstanding found.granule is.tells (2 ^ 64 - 1) f.judge own.told own.are own.keeps cannot;
            whole = λ can. whole_not_explained operations_law events ended w.outstanding found.granule is.tells (2 ^ 64 - 1) f.judge own.told own.are own.keeps parts_law cannot can.0 can.1;
            final_word = final_word ∙ word_is events found.granule f own.since own.final_word;
            reach = subst (λ (n : ℕ). IsReach n events found.granule found.reach) own.shown (reach (judged events) found.granule (word_or_zero (openings events) found.granule) (closed_judge operations_law found.granule f own));
          }

  reached_here : OperationsAreTold → (A : Type 0) (found : FoundAtEnd) → IsInexplicableAt (new found.granule) → IfSome (new found.granule) (λ f. IsOfSomeTrace f.judge → A) → A
  reached_here operations_law A found none spent = by_case (new found.granule) (closed found.granule) none spent
    where
      by_case : (b : Option FollowedValue) → AreToldTo (own_open found.granule w.outstanding.requests) (granule w found.granule) b → IsInexplicableAt b → IfSome b (λ f. IsOfSomeTrace f.judge → A) → A
      by_case None more none spent = absurd none
      by_case (Some f) more none spent =
          spent (judged events, found.granule, word_or_zero (openings events) found.granule, closed_judge operations_law found.granule f (followed_here found.granule f more))

  -- up to the time that is told some order explains what is judged of the granule
  explained_to_here : OperationsAreTold → (u : UndecidedAtEnd) → GoesOnAt (new u.granule) → IsExplainedIn new u → IsExplainedTo events u
  explained_to_here operations_law u goes said = by_case (new u.granule) (closed u.granule) goes said
    where
      at_time : (f : FollowedValue) (found : Option ℕ) → IsJudgeOf (judged events) u.granule (word_or_zero (openings events) u.granule) f.judge → AreExplainedTo f.judge found
          → IfSome found (λ time. IsExplainedUpTo time (judged events) u.granule (word_or_zero (openings events) u.granule))
      at_time f None of_judge by = tt
      at_time f (Some time) of_judge by = by (judged events) u.granule (word_or_zero (openings events) u.granule) of_judge

      by_case : (b : Option FollowedValue) → AreToldTo (own_open u.granule w.outstanding.requests) (granule w u.granule) b → GoesOnAt b → IfSome b (λ f. AreExplainedTo f.judge u.explained)
          → IsExplainedTo events u
      by_case None more goes said = absurd goes
      by_case (Some f) more goes said = at_time f u.explained (closed_judge operations_law u.granule f (followed_here u.granule f more)) said

  -- and it is explained as far as was found
  as_far_here : OperationsAreTold → {P : Type 0} (looked : P → ℕ → Type 0) (before after : P) (budget : ℕ) (u : UndecidedAtEnd) → GoesOnAt (new u.granule)
      → IsAsFarIn looked before after budget new u → IsExplainedAsFar looked before after budget events u
  as_far_here operations_law looked before after budget u goes said = by_case (new u.granule) (closed u.granule) goes said
    where
      by_case : (b : Option FollowedValue) → AreToldTo (own_open u.granule w.outstanding.requests) (granule w u.granule) b → GoesOnAt b
          → IfSome b (λ f. AreExplainedAsFar looked before after budget f.judge u.explained) → IsExplainedAsFar looked before after budget events u
      by_case None more goes said = absurd goes
      by_case (Some f) more goes said =
          said (judged events) u.granule (word_or_zero (openings events) u.granule) (closed_judge operations_law u.granule f (followed_here u.granule f more))

  -- some order explains what is judged of them
  explainable_here : OperationsAreTold → GranulesStandAlone → (g : ℕ) → IfSome (new g) IsExplainable → CanBeExplained events g
  explainable_here operations_law granules_law g can = by_case (new g) (closed g) can
    where
      by_case : (b : Option FollowedValue) → AreToldTo (own_open g w.outstanding.requests) (granule w g) b → IfSome b IsExplainable → CanBeExplained events g
      by_case None more can =
          let none = none_followed g (granule w g) (is.each g) more in
          can_without granules_law operations_law events ended w.outstanding g is.tells none.0 none.1
      by_case (Some f) more can =
          let own = followed_here g f more in
          subst (λ o. (order : List ℕ) × ExplainsGranule (judged events) g (word_or_zero (openings events) g) o order) (word_is events g f own.since own.final_word)
          (can (judged events) g (word_or_zero (openings events) g) (closed_judge operations_law g f own))

  explainable : OperationsAreTold → GranulesStandAlone → GranulesExplain → ((g : ℕ) → IfSome (new g) IsExplainable) → IsExplained events
  explainable operations_law granules_law whole_law each =
      explained operations_law whole_law events ended w.outstanding is.tells (λ g. explainable_here operations_law granules_law g (each g))

pub ended_found : OperationsAreTold → PartsExplain → (w : WatchValue) (new : ℕ → Option FollowedValue) → All (IsOpen w.outstanding.time) w.outstanding.requests
    → (All (CanClose (granule w)) w.outstanding.requests → AreClosed w new) → (found : FoundAtEnd) → IsInexplicableAt (new found.granule) → IsFoundIn new found
    → (events : List Event) → HasTaken events w → IsFoundAtEnd w.shown events found
ended_found operations_law parts_law w new are_open closes found none said events (ended, is) =
    found_here events ended w new is (closes (all_can_close events ended w is are_open)) operations_law parts_law found none said

pub ended_reached : OperationsAreTold → (A : Type 0) (w : WatchValue) (new : ℕ → Option FollowedValue) → All (IsOpen w.outstanding.time) w.outstanding.requests
    → (All (CanClose (granule w)) w.outstanding.requests → AreClosed w new) → (found : FoundAtEnd) → IsInexplicableAt (new found.granule)
    → IfSome (new found.granule) (λ f. IsOfSomeTrace f.judge → A) → (events : List Event) → HasTaken events w → A
ended_reached operations_law A w new are_open closes found none spent events (ended, is) =
    reached_here events ended w new is (closes (all_can_close events ended w is are_open)) operations_law A found none spent

pub ended_explained_to : OperationsAreTold → (w : WatchValue) (new : ℕ → Option FollowedValue) → All (IsOpen w.outstanding.time) w.outstanding.requests
    → (All (CanClose (granule w)) w.outstanding.requests → AreClosed w new) → (u : UndecidedAtEnd) → GoesOnAt (new u.granule) → IsExplainedIn new u
    → (events : List Event) → HasTaken events w → IsExplainedTo events u
ended_explained_to operations_law w new are_open closes u goes said events (ended, is) =
    explained_to_here events ended w new is (closes (all_can_close events ended w is are_open)) operations_law u goes said

pub ended_far : OperationsAreTold → (w : WatchValue) (new : ℕ → Option FollowedValue) → All (IsOpen w.outstanding.time) w.outstanding.requests
    → (All (CanClose (granule w)) w.outstanding.requests → AreClosed w new) → {P : Type 0} (looked : P → ℕ → Type 0) (before after : P) (budget : ℕ) (u : UndecidedAtEnd) → GoesOnAt (new u.granule)
    → IsAsFarIn looked before after budget new u → (events : List Event) → HasTaken events w → IsExplainedAsFar looked before after budget events u
ended_far operations_law w new are_open closes looked before after budget u goes said events (ended, is) =
    as_far_here events ended w new is (closes (all_can_close events ended w is are_open)) operations_law looked before after budget u goes said

pub ended_explained : OperationsAreTold → GranulesStandAlone → GranulesExplain → (w : WatchValue) (new : ℕ → Option FollowedValue) → All (IsOpen w.outstanding.time) w.outstanding.requests
    → (All (CanClose (granule w)) w.outstanding.requests → AreClosed w new) → ((g : ℕ) → IfSome (new g) IsExplainable) → (events : List Event) → HasTaken events w → IsExplained events
ended_explained operations_law granules_law whole_law w new are_open closes each events (ended, is) =
    explainable events ended w new is (closes (all_can_close events ended w is are_open)) operations_law granules_law whole_law each

-- a granule that can be explained, or of which something else is so
abbrev CanOr : Type 0 → Option FollowedValue → Type 0
CanOr A o = IfSome o (λ f. IsExplainable f ⊎ A)

pub ended_each : OperationsAreTold → GranulesStandAlone → (A : Type 0) (w : WatchValue) (new : ℕ → Option FollowedValue) → All (IsOpen w.outstanding.time) w.outstanding.requests
    → (All (CanClose (granule w)) w.outstanding.requests → AreClosed w new) → (g : ℕ) → IfSome (new g) (λ f. IsExplainable f ⊎ A) → (events : List Event) → HasTaken events w
    → CanBeExplained events g ⊎ A
ended_each operations_law granules_law A w new are_open closes g said events (ended, is) = by_case (new g) said here
  where
    here : IfSome (new g) IsExplainable → CanBeExplained events g
    here can = explainable_here events ended w new is (closes (all_can_close events ended w is are_open)) operations_law granules_law g can

    by_case : (o : Option FollowedValue) → CanOr A o → (IfSome o IsExplainable → CanBeExplained events g) → CanBeExplained events g ⊎ A
    by_case None can explains = inl (explains tt)
    by_case (Some f) (inl can) explains = inl (explains can)
    by_case (Some f) (inr other) explains = inr other

-- what is said of each granule that is listed
pub all_listed : {X : Type 0} (number : X → ℕ) (H : ℕ → Type 0) (P Q : X → Type 0) (found : List X) (listed : List ℕ) → map number found ≡ listed → All H listed → All P found
    → ((x : X) → H (number x) → P x → Q x) → All Q found
all_listed {X} number H P Q found listed same of_all_listed all each = go found (subst (All H) (sym same) of_all_listed) all
  where
    go : (l : List X) → All H (map number l) → All P l → All Q l
    go [] of_listed of_all = All-nil Q
    go (x ∷ l) of_listed of_all =
        All-cons Q x l (each x (All-head H (number x) (map number l) of_listed) (All-head P x l of_all))
        (go l (All-tail H (number x) (map number l) of_listed) (All-tail P x l of_all))

none_contained : (l : List ℕ) (g : ℕ) → l ≡ [] → Contains l g → ⊥
none_contained l g none (k, below, is) = omega (arith, below, ap length none)

-- where none is listed each can be explained
pub none_listed : (g : ℕ) (un dec : List ℕ) → un ≡ [] → dec ≡ [] → (o : Option FollowedValue) → IfSome o (λ f. IsExplainable f ⊎ IsListed g un dec) → IfSome o IsExplainable
none_listed g un dec no_un no_dec None said = tt
none_listed g un dec no_un no_dec (Some f) (inl can) = can
none_listed g un dec no_un no_dec (Some f) (inr (inl in_un)) = absurd (none_contained un g no_un in_un)
none_listed g un dec no_un no_dec (Some f) (inr (inr in_dec)) = absurd (none_contained dec g no_dec in_dec)
