-- orders that finish what a test leaves, with one operation first, and without one
use Rattle.std.proofs.Common.{◌≡◌, ℕ, ◌+◌, ◌^◌, ◌<◌, ◌≤◌, ◌==◌, Bool, true, false, not, cond, List, [], ◌∷◌, All, Option, None, Some, IfSome, refl, sym, ap, subst, ◌∙◌, arith, eqb-true, true≢false, ◌&&◌}
use Rattle.chi_history.specs.History.{one_if}
use Rattle.chi_lanes.specs.declared.reply.Reply.{Reply}
use Rattle.chi_trace.specs.declared.operation.Operation.{Operation}
use Rattle.chi_trace.specs.Explains.{IsInTime, at, is_answered, times_in}
use Rattle.chi_trace.specs.Granules.{Finishes, Fits, Play, last_word, next}
use Rattle.chi_trace.proofs.Orders.{IsInTime-filter}
use Rattle.chi_search.specs.Moves.{IsIdle}
use Rattle.chi_search.proofs.Covers.{Covers, Parts, covers_first, covers_rest, covers_settled, covers_without, without}

pub covers_of : (ts : List Operation) (l : ℕ → Bool) (w : ℕ) (f : Option ℕ) (x : List ℕ) → Finishes ts l w f x → Covers ts l x
covers_of ts l w f x c = record { done = c.done; once = c.once }

-- two tests that say the same
pub stays : (ts : List Operation) (l r : ℕ → Bool) (w : ℕ) (f : Option ℕ) (x : List ℕ) → ((i : ℕ) → l i ≡ r i) → Finishes ts l w f x → Finishes ts r w f x
stays ts l r w f x same c = record {
  done = λ i. subst (λ b. one_if (b && is_answered (at ts i)) ≤ times_in x i) (same i) (c.done i);
  once = λ i. subst (λ b. times_in x i ≤ one_if b) (same i) (c.once i);
  times = c.times;
  plays = c.plays;
  ending = c.ending;
}

-- an operation that is left comes first, and an order of the others follows
pub cons : (ts : List Operation) (l rest : ℕ → Bool) (w : ℕ) (f : Option ℕ) (e : ℕ) (x : List ℕ) → Parts l e rest → Fits (at ts e) w → next (at ts e) w < 2 ^ 64
    → All (λ k. (at ts e).start ≤ (at ts k).end) x → Finishes ts rest (next (at ts e) w) f x → Finishes ts l w f (e ∷ x)
unfolding times_in IsInTime Play last_word
cons ts l rest w f e x takes fits below early c = record {
  done = λ i. done i (l i) (rest i) (is_answered (at ts i)) (takes i) (c.done i);
  once = λ i. let least : times_in x i ≤ one_if (rest i) = c.once i in omega (arith, takes i);
  times = (early, c.times);
  plays = (fits, below, c.plays);
  ending = c.ending;
}
  where
    done : (i : ℕ) (a b d : Bool) → one_if a ≡ one_if (e == i) + one_if b → one_if (b && d) ≤ times_in x i → one_if (a && d) ≤ one_if (e == i) + times_in x i
    done i true true d whole h = omega (arith, whole, h)
    done i true false true whole h = omega (arith, whole)
    done i true false false whole h = omega arith
    done i false b d whole h = omega arith

-- what comes first fits, and the rest finishes what is left after it
pub peel : (ts : List Operation) (l rest : ℕ → Bool) (w : ℕ) (f : Option ℕ) (e : ℕ) (y : List ℕ) → Parts l e rest → Finishes ts l w f (e ∷ y)
    → Finishes ts rest (next (at ts e) w) f y
unfolding IsInTime Play last_word
peel ts l rest w f e y takes c =
    let covers = covers_rest ts l rest e y takes (covers_of ts l w f (e ∷ y) c) in
    record { done = covers.done; once = covers.once; times = c.times.1; plays = c.plays.2; ending = c.ending }

-- what comes first is left, and fits
pub first_left : (ts : List Operation) (l : ℕ → Bool) (w : ℕ) (f : Option ℕ) (e : ℕ) (y : List ℕ) → Finishes ts l w f (e ∷ y) → l e ≡ true
first_left ts l w f e y c = covers_first ts l e y (covers_of ts l w f (e ∷ y) c)

pub first_fits : (ts : List Operation) (l : ℕ → Bool) (w : ℕ) (f : Option ℕ) (e : ℕ) (y : List ℕ) → Finishes ts l w f (e ∷ y)
    → Fits (at ts e) w × (next (at ts e) w < 2 ^ 64)
unfolding Play
first_fits ts l w f e y c = (c.plays.0, c.plays.1)

-- a reply that was not seen
pub unanswered : (op : Operation) → op.reply ≡ None → is_answered op ≡ false
unanswered op none = rw none refl

no_reply : (op : Operation) → is_answered op ≡ false → op.reply ≡ None
no_reply op is = by_reply op.reply refl
  where
    by_reply : (r : Option Reply) → op.reply ≡ r → op.reply ≡ None
    by_reply None none = none
    by_reply (Some reply) some = absurd (true≢false (sym (rw some refl) ∙ is))

-- of an operation that is left and does not stand in the order no reply was seen
pub absent : (ts : List Operation) (l : ℕ → Bool) (e : ℕ) (x : List ℕ) → l e ≡ true → times_in x e ≡ 0 → Covers ts l x → (at ts e).reply ≡ None
absent ts l e x left none c = no_reply (at ts e) (silent (is_answered (at ts e)) refl)
  where
    silent : (b : Bool) → is_answered (at ts e) ≡ b → is_answered (at ts e) ≡ false
    silent false is = is
    silent true is =
        let due : one_if (l e && is_answered (at ts e)) ≤ times_in x e = c.done e in
        let one : (l e && is_answered (at ts e)) ≡ true = ap (λ b. b && is_answered (at ts e)) left ∙ is in
        absurd (omega (arith, due, ap one_if one, none))

-- one whose reply was not seen may stand in no order
pub without_one : (ts : List Operation) (l rest : ℕ → Bool) (w : ℕ) (f : Option ℕ) (e : ℕ) (x : List ℕ) → Parts l e rest → (at ts e).reply ≡ None
    → Finishes ts rest w f x → Finishes ts l w f x
without_one ts l rest w f e x takes none c = record {
  done = λ i. done i (e == i) refl (l i) (rest i) (takes i) (c.done i);
  once = λ i. let least : times_in x i ≤ one_if (rest i) = c.once i in omega (arith, takes i);
  times = c.times;
  plays = c.plays;
  ending = c.ending;
}
  where
    done : (i : ℕ) (b : Bool) → (e == i) ≡ b → (a r : Bool) → one_if a ≡ one_if b + one_if r → one_if (r && is_answered (at ts i)) ≤ times_in x i
        → one_if (a && is_answered (at ts i)) ≤ times_in x i
    done i true same a r whole h =
        let silent : is_answered (at ts i) ≡ false = ap (λ k. is_answered (at ts k)) (sym (eqb-true e i same)) ∙ unanswered (at ts e) none in
        rw silent (neither a)
      where
        neither : (a : Bool) → one_if (a && false) ≤ times_in x i
        neither true = omega arith
        neither false = omega arith
    done i false other true true whole h = h
    done i false other true false whole h = absurd (omega (arith, whole))
    done i false other false r whole h = omega arith

pub settled_without : (ts : List Operation) (l rest : ℕ → Bool) (w : ℕ) (f : Option ℕ) (e : ℕ) (x : List ℕ) → Parts l e rest → times_in x e ≡ 0
    → Finishes ts l w f x → Finishes ts rest w f x
settled_without ts l rest w f e x takes none c =
    let covers = covers_settled ts l rest e x takes none (covers_of ts l w f x c) in
    record { done = covers.done; once = covers.once; times = c.times; plays = c.plays; ending = c.ending }

-- without an operation that changes nothing the others find the same words
pub Play-without : (ts : List Operation) (e : ℕ) → IsIdle (at ts e) → (x : List ℕ) (w : ℕ) → w < 2 ^ 64 → Play ts w x
    → Play ts w (without e x) × (last_word ts w (without e x) ≡ last_word ts w x)
unfolding Play last_word
Play-without ts e idle [] w below play = (tt, refl)
Play-without ts e idle (j ∷ x) w below play = by_test (j == e) refl (Play-without ts e idle x (next (at ts j) w) play.1 play.2)
  where
    by_test : (b : Bool) → (j == e) ≡ b
        → Play ts (next (at ts j) w) (without e x) × (last_word ts (next (at ts j) w) (without e x) ≡ last_word ts (next (at ts j) w) x)
        → Play ts w (cond (not b) (j ∷ without e x) (without e x))
        × (last_word ts w (cond (not b) (j ∷ without e x) (without e x)) ≡ last_word ts (next (at ts j) w) x)
    by_test true is rest =
        let same : j ≡ e = eqb-true j e is in
        let idles : next (at ts j) w ≡ w = subst (λ k. Fits (at ts k) w → next (at ts k) w ≡ w) (sym same) (idle w below) play.0 in (
          subst (λ v. Play ts v (without e x)) idles rest.0,
          subst (λ v. last_word ts v (without e x) ≡ last_word ts (next (at ts j) w) x) idles rest.1,
        )
    by_test false is rest = ((play.0, play.1, rest.0), rest.1)

-- an order that finishes what is left does so also without an operation that changes nothing
pub idle_first : (ts : List Operation) (l rest : ℕ → Bool) (w : ℕ) (f : Option ℕ) (e : ℕ) (x : List ℕ) → Parts l e rest → IsIdle (at ts e) → w < 2 ^ 64
    → Finishes ts l w f x → Finishes ts rest w f (without e x)
idle_first ts l rest w f e x takes idle below c =
    let played = Play-without ts e idle x w below c.plays in
    let covers = covers_without ts l rest e x takes (covers_of ts l w f x c) in
    record {
      done = covers.done;
      once = covers.once;
      times = IsInTime-filter ts (λ j. not (j == e)) x c.times;
      plays = played.0;
      ending = subst (λ v. IfSome f (λ z. v ≡ z)) (sym played.1) c.ending;
    }
