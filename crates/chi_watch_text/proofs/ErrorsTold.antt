-- events are told one after the other, where errors say that their requests took no effect
use Rattle.std.proofs.Common.{◌≡◌, ◌∙◌, ◌+◌, ◌<◌, ◌≤◌, ℕ, Bool, false, List, [], ◌∷◌, ◌++◌, append-nil, append_assoc, drop, get_or, length, Option, None, Some, option_to_list, ap, refl, subst, sym}
use Rattle.std.specs.BTreeMap.{get}
use Rattle.std.specs.List.{cons_option}
use Rattle.std.specs.Option.{unwrap_or}
use Rattle.std.specs.Ordering.{nat_cmp}
use Rattle.std.proofs.lemmas.List.{drop_all, drop_more}
use Rattle.chi_events.specs.declared.event.Event.{Event}
use Rattle.chi_watch_text.specs.ErrorEffects.{Awaits, failed, failed_by, kind_told, told_alone, told_by_effect, told_without_effect, with_events}
use Rattle.chi_watch_text.specs.declared.awaited_data.AwaitedData.{AwaitedData}
use Rattle.chi_watch_text.specs.declared.line_format.ErrorEffect.{ErrorEffect}
use Rattle.chi_watch_text.specs.declared.line_format.ErrorEffect.TheVariants as effect

-- before any event
pub none_awaited : (effect : ErrorEffect) (awaited : AwaitedData) → ((id : ℕ) → get nat_cmp awaited.requests id ≡ None) → Awaits effect [] awaited
unfolding failed
none_awaited effect.Unknown awaited none = tt
none_awaited effect.None awaited none = none

-- so many of the events are told: what is told of the others comes after it
pub record AreToldSoFar (older events : List Event) (count : ℕ) (told : List Event) (awaited : AwaitedData) : Type 0 where
  pub now : List Event
  pub awaits : Awaits effect.None now awaited
  pub told_is : told_without_effect older events ≡ told ++ told_without_effect now (drop count events)
  pub all_is : with_events older events ≡ with_events now (drop count events)

pub none_told : (older events told : List Event) (awaited : AwaitedData) → told ≡ [] → Awaits effect.None older awaited → AreToldSoFar older events 0 told awaited
none_told older events told awaited none awaits = record {
  now = older;
  awaits = awaits;
  told_is = ap (λ l. l ++ told_without_effect older events) (sym none);
  all_is = refl;
}

before_others : (o : Option Event) (rest : List Event) → cons_option o rest ≡ option_to_list o ++ rest
before_others None rest = refl
before_others (Some e) rest = refl

-- one event more
pub one_told : (older events told after : List Event) (count : ℕ) (e : Event) (one : Option Event) (old new : AwaitedData) → count < length events → e ≡ get_or events count e
    → one ≡ kind_told (λ id. unwrap_or (get nat_cmp old.requests id) false) e e.kind → after ≡ told ++ option_to_list one
    → ((id : ℕ) → get nat_cmp new.requests id ≡ failed_by id e.kind (get nat_cmp old.requests id)) → AreToldSoFar older events count told old
    → AreToldSoFar older events (count + 1) after new
unfolding failed told_without_effect with_events
one_told older events told after count e one old new below is one_is after_is notes so_far =
    let now = so_far.now in
    let later = drop (count + 1) events in
    let next : drop count events ≡ e ∷ later = drop_more events count e below ∙ ap (λ (x : Event). x ∷ later) (sym is) in
    let alone : one ≡ told_alone now e = one_is ∙ ap (λ (h : ℕ → Bool). kind_told h e e.kind) (λ k id. unwrap_or (so_far.awaits id k) false) in
    record {
      now = e ∷ now;
      awaits = λ id. notes id ∙ ap (failed_by id e.kind) (so_far.awaits id);
      told_is = so_far.told_is ∙ (ap (λ (l : List Event). told ++ told_without_effect now l) next
          ∙ (ap (λ (l : List Event). told ++ l) (before_others (told_alone now e) (told_without_effect (e ∷ now) later))
          ∙ (sym (append_assoc told (option_to_list (told_alone now e)) (told_without_effect (e ∷ now) later))
          ∙ ap (λ (l : List Event). l ++ told_without_effect (e ∷ now) later) (ap (λ (o : Option Event). told ++ option_to_list o) (sym alone) ∙ sym after_is))));
      all_is = so_far.all_is ∙ ap (λ (l : List Event). with_events now l) next;
    }

-- all of them
pub all_told : (older events told : List Event) (count : ℕ) (awaited : AwaitedData) → length events ≤ count → AreToldSoFar older events count told awaited
    → (told ≡ told_without_effect older events) × Awaits effect.None (with_events older events) awaited
unfolding told_without_effect with_events
all_told older events told count awaited past so_far =
    let none = drop_all count events past in (
      sym (so_far.told_is ∙ (ap (λ (l : List Event). told ++ told_without_effect so_far.now l) none ∙ append-nil told)),
      subst (λ (l : List Event). Awaits effect.None l awaited) (sym (so_far.all_is ∙ ap (λ (l : List Event). with_events so_far.now l) none)) so_far.awaits,
    )

-- what events tell, by what an error says
pub by_effect : (errors : ErrorEffect) (events told : List Event) (old new : AwaitedData) → errors ≡ effect.None
    → ((older : List Event) → Awaits effect.None older old → (told ≡ told_without_effect older events) × Awaits effect.None (with_events older events) new)
    → (older : List Event) → Awaits errors older old → (told ≡ told_by_effect errors older events) × Awaits errors (with_events older events) new
by_effect effect.Unknown events told old new is tells older awaits = absurd (let no : effect.Unknown ≡ effect.None = is in cc)
by_effect effect.None events told old new is tells older awaits = tells older awaits
