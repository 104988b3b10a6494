-- racers in a list, and their seats and lines
use Rattle.std.proofs.Common.{◌≡◌, ℕ, suc, ◌+◌, ◌<◌, ◌≢◌, false, List, [], ◌∷◌, map, length, get_or, set, Option, None, Some, IsSomeAnd, Result, refl, sym, ap, subst, ◌∙◌, arith, below_more, get_or-set_other, get_or-set_same}
use Rattle.std.specs.Result.{result_and}
use Rattle.std.proofs.lemmas.List.{get_or-map, map-set, set-get_or}
use Rattle.chi_fields.specs.declared.request.Request.{Request}
use Rattle.chi_history.specs.declared.entry.Entry.{Entry}
use Rattle.chi_history.specs.declared.line.Line.{Line}
use Rattle.chi_history.specs.declared.opening.Opening.{Opening}
use Rattle.chi_history.specs.NumberSets.{Held, only, union}
use Rattle.chi_history.specs.HomeClauses.{Joins}
use Rattle.chi_requester.specs.declared.fault.WorkFault.{WorkFault}
use Rattle.chi_requester.specs.declared.policy.Policy.{Policy}
use Rattle.chi_requester.specs.declared.race_of_any.Racer.{Racer}
use Rattle.chi_requester.specs.Race.{lines_of_all}
use Rattle.chi_requester.specs.Team.{AreSeated, HasRaced, HaveRaced, IsOwn, IsSeated, IsTeamRun, lines_in, one_to}
use Rattle.chi_requester.specs.Work.{IsWorkRun}
use Rattle.chi_requester.proofs.TeamLemmas.{team_back}

-- another element of which f gives the same leaves what f gives of the list
pub map-set_same : {X Y : Type 0} (f : X → Y) (xs : List X) (i : ℕ) (y d : X) → i < length xs → f y ≡ f (get_or xs i d) → map f (set xs i y) ≡ map f xs
map-set_same f xs i y d inside same =
    map-set f xs i y ∙ (ap (λ v. set (map f xs) i v) (same ∙ sym (get_or-map f xs i d (f d) inside)) ∙ set-get_or (map f xs) i (f d))

-- what holds of each element below i, and of the one that is put there
pub set_more : {X : Type 0} (P : ℕ → X → Type 0) (xs : List X) (i : ℕ) (y : X) → i < length xs → ((k : ℕ) (d : X) → k < i → P k (get_or xs k d)) → P i y
    → (k : ℕ) (d : X) → k < i + 1 → P k (get_or (set xs i y) k d)
set_more P xs i y inside before here k d below =
    below_more (λ n. P n (get_or (set xs i y) n d)) i (λ n under. let other : n ≢ i = omega arith in rw (get_or-set_other xs i n y d other) (before n d under))
    (rw (get_or-set_same xs i y d inside) here) k below

pub some_and_left : {S : Type 0} (A B : S → Type 0) (o : Option S) → IsSomeAnd o (λ s. A s × B s) → IsSomeAnd o A
some_and_left A B (Some s) both = both.0
some_and_left A B None both = both

-- racers with the same lines have the same lines by number
pub lines-same : {S G A : Type 0} (zero : List Line) (xs ys : List (Racer S G A)) → map lines_in xs ≡ map lines_in ys → lines_of_all zero xs ≡ lines_of_all zero ys
lines-same zero xs ys same = λ i r. get_or (zero ∷ same i) r []

-- each racer executed its requests, in a turn of its own
pub have_raced : {S G A : Type 0} (Belongs : S → Type 0) (held : S → Held) (seen : S → List Entry) (o : Opening) (policy : Policy) (limit : ℕ) (all : List Request)
    (start : List Entry) (zero : List Line) (before seated after : List (Racer S G A)) → AreSeated Belongs held seen start seated → map lines_in seated ≡ map lines_in before → length after ≡ length seated
    → ((i : ℕ) (d : Racer S G A) → i < length seated → (x : Racer S G A) × (y : Racer S G A) × (x ≡ get_or seated i d) × (y ≡ get_or after i d)
    × (IsSeated Belongs held seen start (suc i) x → HasRaced Belongs held seen o policy limit all start (suc i) x.lines.items y))
    → HaveRaced Belongs held seen o policy limit all start (lines_of_all zero before) after
have_raced Belongs held seen o policy limit all start zero before seated after are_seated same long turn i d below =
    let inside : i < length seated = omega arith in
    let t = turn i d inside in
    let mine = are_seated i d inside in
    let lines = sym (get_or-map lines_in seated i d [] inside) ∙ ap (λ xs. get_or xs i []) same in
    let ran = t.4 (rw t.2 mine) in
    rw (t.2, t.3, lines) at ran

-- the same, once each racer has given its seat back
pub have_returned : {S G A : Type 0} (Belongs : S → Type 0) (held : S → Held) (seen : S → List Entry) {o : Opening} {policy : Policy} {limit : ℕ} {all : List Request} {kept held' : Held}
    {start mid seen' : List Entry} {result : Result (Unit {0}) WorkFault} (zero : List Line) (before worked after : List (Racer S G A)) → length worked ≡ length before
    → HaveRaced Belongs held seen o policy limit all start (lines_of_all zero before) worked → mid ≡ start → map lines_in after ≡ map lines_in worked
    → (HaveRaced Belongs held seen o policy limit all mid (lines_of_all zero before) worked
    → IsTeamRun result o policy limit all kept (one_to (length worked)) held' mid seen' (lines_of_all zero before) (lines_of_all zero worked))
    → IsTeamRun result o policy limit all kept (one_to (length before)) held' start seen' (lines_of_all zero before) (lines_of_all zero after)
have_returned Belongs held seen zero before worked after long raced same kept team = rw (same, long, lines-same zero worked after (sym kept)) at (team (rw same raced))

-- a racer that executed its requests gives its seat back
pub racer_back : {S G A : Type 0} (Belongs : S → Type 0) (held_of : S → Held) (seen_of : S → List Entry) {o : Opening} {policy : Policy} {limit : ℕ} {all : List Request}
    {kept team held held' : Held} {start seen seen' : List Entry} {lines lines' : ℕ → List Line} {first result : Result (Unit {0}) WorkFault} (src : ℕ) (racer : Racer S G A) (own : S)
    → racer.seat ≡ Some own → HasRaced Belongs held_of seen_of o policy limit all start src (lines src) racer → racer.lines.items ≡ lines' src
    → IsTeamRun first o policy limit all kept team held start seen lines lines' → team src ≡ false
    → held' ≡ union held (held_of own) → Joins held seen (held_of own) (seen_of own) seen' → result ≡ result_and first racer.outcome
    → IsTeamRun result o policy limit all kept (union team (only src)) held' start seen' lines lines'
racer_back Belongs held_of seen_of {o = o} {policy = policy} {limit = limit} {all = all} {start = start} {lines = lines} src racer own is raced lines_is t apart held_is joined both =
    let P : Option _ → Type 0 = λ x. IsSomeAnd x (λ seat. IsOwn Belongs held_of src seat × IsWorkRun racer.outcome o policy limit (only src) src all start (seen_of seat) (lines src) racer.lines.items) in
    let mine = subst P is raced in
    team_back src t (rw lines_is at mine.1) apart mine.0.alone held_is joined both

-- elements past those that were set
pub get_or-second : {X : Type 0} (xs : List X) (a d : X) → get_or (set xs 0 a) 1 d ≡ get_or xs 1 d
get_or-second xs a d = get_or-set_other xs 0 1 a d (omega arith)

pub get_or-third : {X : Type 0} (xs : List X) (a b d : X) → get_or (set (set xs 0 a) 1 b) 2 d ≡ get_or xs 2 d
get_or-third xs a b d = get_or-set_other (set xs 0 a) 1 2 b d (omega arith) ∙ get_or-set_other xs 0 2 a d (omega arith)

pub get_or-fourth : {X : Type 0} (xs : List X) (a b c d : X) → get_or (set (set (set xs 0 a) 1 b) 2 c) 3 d ≡ get_or xs 3 d
get_or-fourth xs a b c d = get_or-set_other (set (set xs 0 a) 1 b) 2 3 c d (omega arith) ∙ (get_or-set_other (set xs 0 a) 1 3 b d (omega arith) ∙ get_or-set_other xs 0 3 a d (omega arith))

-- the lines of two racers
pub lines_of_two : {S G A : Type 0} (zero one two : List Line) (racers : List (Racer S G A)) (d e : Racer S G A) → length racers ≡ 2
    → one ≡ (get_or racers 0 d).lines.items → two ≡ (get_or racers 1 e).lines.items → lines_of_all zero racers ≡ (λ r. get_or (zero ∷ one ∷ two ∷ []) r [])
lines_of_two zero one two [] d e long first second = absurd (omega arith)
lines_of_two zero one two (x ∷ []) d e long first second = absurd (omega arith)
lines_of_two zero one two (x ∷ (y ∷ [])) d e long first second = rw (first, second) refl
lines_of_two zero one two (x ∷ (y ∷ (z ∷ more))) d e long first second = absurd (omega arith)

-- the lines of four racers
pub lines_of_four_racers : {S G A : Type 0} (zero one two three four : List Line) (racers : List (Racer S G A)) (d e f g : Racer S G A) → length racers ≡ 4
    → one ≡ (get_or racers 0 d).lines.items → two ≡ (get_or racers 1 e).lines.items → three ≡ (get_or racers 2 f).lines.items → four ≡ (get_or racers 3 g).lines.items
    → lines_of_all zero racers ≡ (λ r. get_or (zero ∷ one ∷ two ∷ three ∷ four ∷ []) r [])
lines_of_four_racers {S = S} {G = G} {A = A} zero one two three four racers d e f g long first second third fourth =
    by_items racers long (first, second, third, fourth)
  where
    by_items : (xs : List (Racer S G A)) → length xs ≡ 4 → (one ≡ (get_or xs 0 d).lines.items) × (two ≡ (get_or xs 1 e).lines.items) × (three ≡ (get_or xs 2 f).lines.items) × (four ≡ (get_or xs 3 g).lines.items)
        → lines_of_all zero xs ≡ (λ r. get_or (zero ∷ one ∷ two ∷ three ∷ four ∷ []) r [])
    by_items (w ∷ (x ∷ (y ∷ (z ∷ [])))) all_four same = rw (same.0, same.1, same.2, same.3) refl
    by_items [] all_four same = absurd (omega arith)
    by_items (w ∷ []) all_four same = absurd (omega arith)
    by_items (w ∷ (x ∷ [])) all_four same = absurd (omega arith)
    by_items (w ∷ (x ∷ (y ∷ []))) all_four same = absurd (omega arith)
    by_items (w ∷ (x ∷ (y ∷ (z ∷ (more ∷ rest))))) all_four same = absurd (omega arith)
