-- from which time on something that is not told may have written to a granule, with one event more
use Rattle.std.proofs.Common.{◌≡◌, ℕ, ◌≤◌, Bool, true, false, not, ◌&&◌, ◌||◌, cond, List, [], ◌∷◌, ◌++◌, All, Option, Some, None, IfSome, is_some, refl, sym, ap, ◌∙◌, true≢false}
use Rattle.std.specs.List.{list_any}
use Rattle.std.specs.Option.{option_or}
use Rattle.std.proofs.lemmas.Bool.{or_parts}
use Rattle.std.proofs.lemmas.List.Elements.{All-head, All-tail}
use Rattle.std.proofs.lemmas.List.Folds.{list_any-append}
use Rattle.chi_events.specs.declared.event.Event.{Event}
use Rattle.chi_events.specs.declared.event.EventKind.{EventKind}
use Rattle.chi_events.specs.declared.event.EventKind.TheVariants.{Request, Data, Reply, Dropped, Refused, Word, Final, Unknown, End}
use Rattle.chi_watch.specs.Judged.{is_word_by, tells_word, unknown_at}
use Rattle.chi_watch.specs.WordsTold.{covers}

-- an event that tells a word says of no granule that something else may have written to it
pub word_covers : (g h : ℕ) (k : EventKind) → tells_word g k ≡ true → covers h k ≡ false
word_covers g h (Word w) is = refl
word_covers g h (Request r) is = absurd (true≢false (sym is))
word_covers g h (Data p) is = absurd (true≢false (sym is))
word_covers g h (Reply c) is = absurd (true≢false (sym is))
word_covers g h (Dropped id) is = absurd (true≢false (sym is))
word_covers g h (Refused id reason) is = absurd (true≢false (sym is))
word_covers g h (Final w) is = absurd (true≢false (sym is))
word_covers g h (Unknown addr len) is = absurd (true≢false (sym is))
word_covers g h End is = absurd (true≢false (sym is))

-- and one that says so tells none
pub cover_tells : (g h : ℕ) (k : EventKind) → covers h k ≡ true → tells_word g k ≡ false
cover_tells g h k is = by_test (tells_word g k) refl
  where
    by_test : (b : Bool) → tells_word g k ≡ b → b ≡ false
    by_test true word = absurd (true≢false (sym is ∙ word_covers g h k word))
    by_test false word = refl

-- whether some event is so, with one more
pub any_more : (p : Event → Bool) (events : List Event) (e : Event) (b : Bool) → p e ≡ b → list_any p (events ++ e ∷ []) ≡ (list_any p events || b)
any_more p events e b is = list_any-append p events (e ∷ []) ∙ ap (λ c. list_any p events || c) (one b is)
  where
    one : (c : Bool) → p e ≡ c → list_any p (e ∷ []) ≡ c
    one true so = rw so refl
    one false so = rw so refl

or_false : (b : Bool) → (b || false) ≡ b
or_false true = refl
or_false false = refl

or_true : (b : Bool) → (b || true) ≡ true
or_true true = refl
or_true false = refl

module _ (g time : ℕ) (e : Event) where
  -- the word is told by the time
  pub unknown_word : (events : List Event) → is_word_by g time e ≡ true → covers g e.kind ≡ false → unknown_at (events ++ e ∷ []) g time ≡ None
  unfolding unknown_at
  unknown_word [] is uncovered = rw uncovered refl
  unknown_word (x ∷ events) is uncovered = by_test (covers g x.kind) (unknown_word events is uncovered)
    where
      any : list_any (is_word_by g time) (events ++ e ∷ []) ≡ true
      any = any_more (is_word_by g time) events e true is ∙ or_true (list_any (is_word_by g time) events)

      by_test : (b : Bool) → unknown_at (events ++ e ∷ []) g time ≡ None
          → cond (b && not (list_any (is_word_by g time) (events ++ e ∷ []))) (Some x.time) (unknown_at (events ++ e ∷ []) g time) ≡ None
      by_test true rest = rw any rest
      by_test false rest = rest

  -- no word is told by then
  pub unknown_more : (events : List Event) → is_word_by g time e ≡ false
      → unknown_at (events ++ e ∷ []) g time ≡ option_or (unknown_at events g time) (cond (covers g e.kind) (Some e.time) None)
  unfolding unknown_at
  unknown_more [] is = by_test (covers g e.kind)
    where
      by_test : (b : Bool) → cond (b && true) (Some e.time) None ≡ option_or None (cond b (Some e.time) None)
      by_test true = refl
      by_test false = refl
  unknown_more (x ∷ events) is = by_test (covers g x.kind && not (list_any (is_word_by g time) events)) refl (unknown_more events is)
    where
      any : list_any (is_word_by g time) (events ++ e ∷ []) ≡ list_any (is_word_by g time) events
      any = any_more (is_word_by g time) events e false is ∙ or_false (list_any (is_word_by g time) events)

      by_test : (b : Bool) → (covers g x.kind && not (list_any (is_word_by g time) events)) ≡ b
          → unknown_at (events ++ e ∷ []) g time ≡ option_or (unknown_at events g time) (cond (covers g e.kind) (Some e.time) None)
          → cond (covers g x.kind && not (list_any (is_word_by g time) (events ++ e ∷ []))) (Some x.time) (unknown_at (events ++ e ∷ []) g time)
          ≡ option_or (cond (covers g x.kind && not (list_any (is_word_by g time) events)) (Some x.time) (unknown_at events g time)) (cond (covers g e.kind) (Some e.time) None)
      by_test true so rest = rw any (rw so refl)
      by_test false so rest = rw any (rw so rest)

-- with an event that is of no word of the granule, and does not cover it
pub unknown_same : (events : List Event) (e : Event) (g time : ℕ) → is_word_by g time e ≡ false → covers g e.kind ≡ false → unknown_at (events ++ e ∷ []) g time ≡ unknown_at events g time
unknown_same events e g time is uncovered = unknown_more g time e events is ∙ (ap (λ b. option_or (unknown_at events g time) (cond b (Some e.time) None)) uncovered ∙ none (unknown_at events g time))
  where
    none : (o : Option ℕ) → option_or o None ≡ o
    none None = refl
    none (Some x) = refl

-- where none covers it all is told
pub unknown_none : (events : List Event) (g time : ℕ) → list_any (λ e. covers g e.kind) events ≡ false → unknown_at events g time ≡ None
unfolding unknown_at
unknown_none [] g time none = refl
unknown_none (e ∷ events) g time none =
    let parts = or_parts (covers g e.kind) (list_any (λ x. covers g x.kind) events) none in
    rw parts.0 (unknown_none events g time parts.1)

-- and where it may have, some event covers it
pub unknown_covered : (events : List Event) (g time : ℕ) → is_some (unknown_at events g time) ≡ true → list_any (λ e. covers g e.kind) events ≡ true
unknown_covered events g time some = by_test (list_any (λ (e : Event). covers g e.kind) events) refl
  where
    by_test : (b : Bool) → list_any (λ (e : Event). covers g e.kind) events ≡ b → b ≡ true
    by_test true so = refl
    by_test false so = absurd (true≢false (sym some ∙ ap is_some (unknown_none events g time so)))

-- it is the time of some event
pub unknown_time : (events : List Event) (g time now : ℕ) → All (λ e. e.time ≤ now) events → IfSome (unknown_at events g time) (λ since. since ≤ now)
unfolding unknown_at
unknown_time [] g time now all = tt
unknown_time (e ∷ events) g time now all =
    by_test (covers g e.kind && not (list_any (is_word_by g time) events)) (unknown_time events g time now (All-tail (λ x. x.time ≤ now) e events all))
  where
    by_test : (b : Bool) → IfSome (unknown_at events g time) (λ since. since ≤ now) → IfSome (cond b (Some e.time) (unknown_at events g time)) (λ since. since ≤ now)
    by_test true rest = All-head (λ x. x.time ≤ now) e events all
    by_test false rest = rest
