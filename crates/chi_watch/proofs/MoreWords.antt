-- the words that are told, with one event more
use Rattle.std.proofs.Common.{◌≡◌, ℕ, ◌==◌, Bool, true, false, not, ◌&&◌, ◌||◌, cond, List, [], ◌∷◌, ◌++◌, Option, Some, None, IfSome, filter, filter_map, map, refl, sym, ap, ◌∙◌, append-nil, append_assoc, eq-eqb}
use Rattle.std.specs.Prelude.{option_to_list}
use Rattle.std.specs.List.{cons_option, list_any}
use Rattle.std.proofs.lemmas.List.Elements.{filter-append, filter_map-append}
use Rattle.std.proofs.lemmas.List.{map-append}
use Rattle.chi_events.specs.declared.event.Event.{Event}
use Rattle.chi_events.specs.declared.event.EventKind.{EventKind}
use Rattle.chi_events.specs.declared.event.EventKind.TheVariants.{Request, Data, Reply, Dropped, Refused, Word, Final, Unknown, End}
use Rattle.chi_events.specs.declared.event.WordTold.{WordTold}
use Rattle.chi_trace.specs.AtPlaces.{is_in}
use Rattle.chi_trace.specs.Words.{find_word}
use Rattle.chi_trace.specs.declared.operation.Operation.{Operation}
use Rattle.chi_trace.specs.declared.words.GranuleWord.{GranuleWord}
use Rattle.chi_watch.specs.Judged.{tells_word}
use Rattle.chi_watch.specs.WordsTold.{WordAt, covers, granule_word, is_told_later, openings, times_told, word_after, word_at, words_told, write_at, write_of, writes_told}
use Rattle.chi_watch.proofs.FoundWords.{told_other}
use Rattle.chi_watch.proofs.Writes.{IsWriteOf, written}

-- a word that is told after these events
abbrev since : List Event → WordAt → WordAt
since events w = record w { is_opening = w.is_opening && not (list_any (λ e. covers w.told.granule e.kind) events) }

-- tests one after the other
tests_after : (b c rest : Bool) → ((b && not rest) && not c) ≡ (b && not (c || rest))
tests_after false c rest = refl
tests_after true true true = refl
tests_after true true false = refl
tests_after true false true = refl
tests_after true false false = refl

after_one : (x : Event) (events : List Event) (ws : List WordAt) → map (word_after x.kind) (map (since events) ws) ≡ map (since (x ∷ events)) ws
after_one x events [] = refl
after_one x events (w ∷ ws) =
    ap (λ (b : Bool). record w { is_opening = b } ∷ map (word_after x.kind) (map (since events) ws))
    (tests_after w.is_opening (covers w.told.granule x.kind) (list_any (λ e. covers w.told.granule e.kind) events))
    ∙ ap (λ l. since (x ∷ events) w ∷ l) (after_one x events ws)

after_none : (time : ℕ) (k : EventKind) → map (since []) (word_at time k) ≡ word_at time k
after_none time (Word w) = refl
after_none time (Request r) = refl
after_none time (Data p) = refl
after_none time (Reply c) = refl
after_none time (Dropped id) = refl
after_none time (Refused id reason) = refl
after_none time (Final w) = refl
after_none time (Unknown addr len) = refl
after_none time End = refl

words_more : (events : List Event) (e : Event) → words_told (events ++ e ∷ []) ≡ words_told events ++ map (since events) (word_at e.time e.kind)
unfolding words_told
words_more [] e = append-nil (word_at e.time e.kind) ∙ sym (after_none e.time e.kind)
words_more (x ∷ events) e =
    ap (λ l. word_at x.time x.kind ++ map (word_after x.kind) l) (words_more events e)
    ∙ (ap (λ l. word_at x.time x.kind ++ l)
    (map-append (word_after x.kind) (words_told events) (map (since events) (word_at e.time e.kind))
    ∙ ap (λ l. map (word_after x.kind) (words_told events) ++ l) (after_one x events (word_at e.time e.kind)))
    ∙ sym (append_assoc (word_at x.time x.kind) (map (word_after x.kind) (words_told events)) (map (since (x ∷ events)) (word_at e.time e.kind))))

-- those at the opening, and the writes that stand for the others
module _ (events : List Event) (e : Event) where
  abbrev openings_of : List WordAt → List GranuleWord
  openings_of ws = map (λ w. granule_word w.told) (filter (λ w. w.is_opening) ws)

  openings_more : openings (events ++ e ∷ []) ≡ openings events ++ openings_of (map (since events) (word_at e.time e.kind))
  openings_more =
      ap openings_of (words_more events e)
      ∙ (ap (map (λ w. granule_word w.told)) (filter-append (λ w. w.is_opening) (words_told events) (map (since events) (word_at e.time e.kind)))
      ∙ map-append (λ w. granule_word w.told) (filter (λ w. w.is_opening) (words_told events)) (filter (λ w. w.is_opening) (map (since events) (word_at e.time e.kind))))

  writes_more : writes_told (events ++ e ∷ []) ≡ writes_told events ++ filter_map write_of (map (since events) (word_at e.time e.kind))
  writes_more = ap (filter_map write_of) (words_more events e) ∙ filter_map-append write_of (words_told events) (map (since events) (word_at e.time e.kind))

  abbrev times_of : ℕ → List WordAt → List ℕ
  times_of g ws = map (λ w. w.time) (filter (is_told_later g) ws)

  times_more : (g : ℕ) → times_told (events ++ e ∷ []) g ≡ times_told events g ++ times_of g (map (since events) (word_at e.time e.kind))
  times_more g =
      ap (times_of g) (words_more events e)
      ∙ (ap (map (λ w. w.time)) (filter-append (is_told_later g) (words_told events) (map (since events) (word_at e.time e.kind)))
      ∙ map-append (λ w. w.time) (filter (is_told_later g) (words_told events)) (filter (is_told_later g) (map (since events) (word_at e.time e.kind))))

  -- an event that tells no word
  pub openings_none : word_at e.time e.kind ≡ [] → openings (events ++ e ∷ []) ≡ openings events
  openings_none none = openings_more ∙ (ap (λ l. openings events ++ openings_of (map (since events) l)) none ∙ append-nil (openings events))

  pub writes_none : word_at e.time e.kind ≡ [] → writes_told (events ++ e ∷ []) ≡ writes_told events
  writes_none none = writes_more ∙ (ap (λ l. writes_told events ++ filter_map write_of (map (since events) l)) none ∙ append-nil (writes_told events))

  -- a word that is told where nothing else may have written to its granule, and one that is told later
  module _ (w : WordTold) (is : e.kind ≡ Word w) where
    abbrev covered : Bool
    covered = list_any (λ x. covers w.granule x.kind) events

    abbrev told_so : Bool → List WordAt
    told_so b = record { time = e.time; told = w; is_opening = not b } ∷ []

    own : (b : Bool) → covered ≡ b → map (since events) (word_at e.time e.kind) ≡ told_so b
    own b so = ap (λ k. map (since events) (word_at e.time k)) is ∙ ap (λ c. told_so c) so

    pub opening_told : covered ≡ false → openings (events ++ e ∷ []) ≡ openings events ++ granule_word w ∷ []
    opening_told so = openings_more ∙ ap (λ l. openings events ++ openings_of l) (own false so)

    pub opening_writes : covered ≡ false → writes_told (events ++ e ∷ []) ≡ writes_told events
    opening_writes so = writes_more ∙ (ap (λ l. writes_told events ++ filter_map write_of l) (own false so) ∙ append-nil (writes_told events))

    pub opening_times : covered ≡ false → times_told (events ++ e ∷ []) w.granule ≡ times_told events w.granule
    opening_times so =
        times_more w.granule
        ∙ (ap (λ l. times_told events w.granule ++ times_of w.granule l) (own false so)
        ∙ (ap (λ b. times_told events w.granule ++ map (λ (x : WordAt). x.time) (cond (b && false) (record { time = e.time; told = w; is_opening = true } ∷ []) [])) (eq-eqb w.granule w.granule refl) ∙ append-nil (times_told events w.granule)))

    pub later_times : covered ≡ true → times_told (events ++ e ∷ []) w.granule ≡ times_told events w.granule ++ e.time ∷ []
    later_times so =
        times_more w.granule
        ∙ (ap (λ l. times_told events w.granule ++ times_of w.granule l) (own true so)
        ∙ ap (λ b. times_told events w.granule ++ map (λ (x : WordAt). x.time) (cond (b && true) (record { time = e.time; told = w; is_opening = false } ∷ []) [])) (eq-eqb w.granule w.granule refl))

    pub later_openings : covered ≡ true → openings (events ++ e ∷ []) ≡ openings events
    later_openings so = openings_more ∙ (ap (λ l. openings events ++ openings_of l) (own true so) ∙ append-nil (openings events))

    pub later_writes : covered ≡ true → writes_told (events ++ e ∷ []) ≡ writes_told events ++ option_to_list (write_at e.time w)
    later_writes so = writes_more ∙ ap (λ l. writes_told events ++ l) (ap (filter_map write_of) (own true so) ∙ one (write_at e.time w))
      where
        one : (o : Option Operation) → cons_option o [] ≡ option_to_list o
        one None = refl
        one (Some op) = refl

  -- an event that does not tell the granule's word
  module _ (g : ℕ) where
    none_here : (k : EventKind) → word_at e.time k ≡ [] → find_word (openings events ++ openings_of (map (since events) (word_at e.time k))) g ≡ find_word (openings events) g
    none_here k none = ap (λ l. find_word (openings events ++ openings_of (map (since events) l)) g) none ∙ ap (λ l. find_word l g) (append-nil (openings events))

    other_word : (w : WordTold) (b : Bool) → (w.granule == g) ≡ false → find_word (openings events ++ openings_of (record { time = e.time; told = w; is_opening = b } ∷ [])) g ≡ find_word (openings events) g
    other_word w true other = told_other (openings events) (granule_word w) g other
    other_word w false other = ap (λ l. find_word l g) (append-nil (openings events))

    pub same_opening : tells_word g e.kind ≡ false → find_word (openings (events ++ e ∷ [])) g ≡ find_word (openings events) g
    same_opening other = ap (λ l. find_word l g) openings_more ∙ by_kind e.kind other
      where
        by_kind : (k : EventKind) → tells_word g k ≡ false → find_word (openings events ++ openings_of (map (since events) (word_at e.time k))) g ≡ find_word (openings events) g
        by_kind (Word w) not_own = other_word w (true && not (list_any (λ x. covers w.granule x.kind) events)) not_own
        by_kind (Request r) not_own = none_here (Request r) refl
        by_kind (Data p) not_own = none_here (Data p) refl
        by_kind (Reply c) not_own = none_here (Reply c) refl
        by_kind (Dropped id) not_own = none_here (Dropped id) refl
        by_kind (Refused id reason) not_own = none_here (Refused id reason) refl
        by_kind (Final w) not_own = none_here (Final w) refl
        by_kind (Unknown addr len) not_own = none_here (Unknown addr len) refl
        by_kind End not_own = none_here End refl

    pub same_times : tells_word g e.kind ≡ false → times_told (events ++ e ∷ []) g ≡ times_told events g
    same_times other = times_more g ∙ by_kind e.kind other
      where
        by_kind : (k : EventKind) → tells_word g k ≡ false → times_told events g ++ times_of g (map (since events) (word_at e.time k)) ≡ times_told events g
        by_kind (Word w) not_own = rw not_own (append-nil (times_told events g))
        by_kind (Request r) not_own = append-nil (times_told events g)
        by_kind (Data p) not_own = append-nil (times_told events g)
        by_kind (Reply c) not_own = append-nil (times_told events g)
        by_kind (Dropped id) not_own = append-nil (times_told events g)
        by_kind (Refused id reason) not_own = append-nil (times_told events g)
        by_kind (Final w) not_own = append-nil (times_told events g)
        by_kind (Unknown addr len) not_own = append-nil (times_told events g)
        by_kind End not_own = append-nil (times_told events g)

    -- the writes of the granule stay the same
    other_write : (w : WordTold) (b : Bool) → (w.granule == g) ≡ false → filter (is_in g) (filter_map write_of (record { time = e.time; told = w; is_opening = b } ∷ [])) ≡ []
    other_write w true other = refl
    other_write w false other = by_write (write_at e.time w) (written e.time w)
      where
        by_write : (o : Option Operation) → IfSome o (IsWriteOf e.time w.granule) → filter (is_in g) (cons_option o []) ≡ []
        by_write None is = refl
        by_write (Some op) is = rw is.at (rw other refl)

    pub same_writes : tells_word g e.kind ≡ false → filter (is_in g) (writes_told (events ++ e ∷ [])) ≡ filter (is_in g) (writes_told events)
    same_writes other =
        ap (filter (is_in g)) writes_more
        ∙ (filter-append (is_in g) (writes_told events) (filter_map write_of (map (since events) (word_at e.time e.kind)))
        ∙ (ap (λ l. filter (is_in g) (writes_told events) ++ l) (by_kind e.kind other) ∙ append-nil (filter (is_in g) (writes_told events))))
      where
        by_kind : (k : EventKind) → tells_word g k ≡ false → filter (is_in g) (filter_map write_of (map (since events) (word_at e.time k))) ≡ []
        by_kind (Word w) not_own = other_write w (true && not (list_any (λ x. covers w.granule x.kind) events)) not_own
        by_kind (Request r) not_own = refl
        by_kind (Data p) not_own = refl
        by_kind (Reply c) not_own = refl
        by_kind (Dropped id) not_own = refl
        by_kind (Refused id reason) not_own = refl
        by_kind (Final w) not_own = refl
        by_kind (Unknown addr len) not_own = refl
        by_kind End not_own = refl
