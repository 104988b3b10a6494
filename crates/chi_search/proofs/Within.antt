-- orders in the bits of a mask: those of whole words are such, and only these bits matter
use Rattle.std.proofs.Common.{◌≡◌, ℕ, ◌^◌, ◌<◌, ◌==◌, Bool, true, false, not, cond, List, [], ◌∷◌, length, Option, None, Some, IfSome, refl, sym, ap, subst, ◌∙◌, eqb-true}
use Rattle.std.specs.Int.{bit_at}
use Rattle.chi_trace.specs.declared.operation.Operation.{Operation}
use Rattle.chi_trace.specs.Explains.{at}
use Rattle.chi_trace.specs.Granules.{Finishes, Fits, Play, last_word, next}
use Rattle.chi_trace.proofs.Orders.{IsInTime-filter}
use Rattle.chi_search.specs.Effects.{Agree}
use Rattle.chi_search.specs.Paths.{IsDead}
use Rattle.chi_search.specs.Positions.{Position, is_left}
use Rattle.chi_search.specs.Within.{FinishesWithin, IsDeadWithin, KeepsWithin, PlayWithin}
use Rattle.chi_search.proofs.Covers.{Parts, covers_without, without}

-- words that agree in the bits of a mask do so the other way round, and one after the other
pub turned : (mask v w : ℕ) → Agree mask v w → Agree mask w v
turned mask v w agree k one = sym (agree k one)

pub joined : (mask u v w : ℕ) → Agree mask u v → Agree mask v w → Agree mask u w
joined mask u v w first second k one = first k one ∙ second k one

play_within : (mask : ℕ) (ops : List Operation) (final_word : Option ℕ) (w : ℕ) (x : List ℕ) → w < 2 ^ 64 → Play ops w x
    → IfSome final_word (λ v. last_word ops w x ≡ v) → PlayWithin mask ops final_word w x
unfolding Play last_word PlayWithin
play_within mask ops None w [] below play ends = tt
play_within mask ops (Some seen) w [] below play ends = λ k one. ap (λ n. bit_at n k) ends
play_within mask ops final_word w (i ∷ x) below play ends = (
  next (at ops i) w,
  record { word = w; below = below; finds = λ k one. refl; fits = play.0; leaves = λ k one. refl },
  play_within mask ops final_word (next (at ops i) w) x play.1 play.2 ends,
)

-- an order that finishes what is left does so in the bits of each mask
pub finishes_within : (mask : ℕ) (ops : List Operation) (l : ℕ → Bool) (w : ℕ) (final_word : Option ℕ) (x : List ℕ) → w < 2 ^ 64 → Finishes ops l w final_word x
    → FinishesWithin mask ops l w final_word x
finishes_within mask ops l w final_word x below c = record {
  done = c.done;
  once = c.once;
  times = c.times;
  plays = play_within mask ops final_word w x below c.plays c.ending;
}

-- so a state is dead where none does so in these bits
pub dead_within : (mask : ℕ) (ops : List Operation) (final_word : Option ℕ) (p : Position) → p.word < 2 ^ 64 → IsDeadWithin mask ops final_word p → IsDead ops final_word p
dead_within mask ops final_word p below dead (x, c) = dead (x, finishes_within mask ops (is_left (length ops) p) p.word final_word x below c)

-- only these bits of the word matter
play_same : (mask : ℕ) (ops : List Operation) (final_word : Option ℕ) (v u : ℕ) (x : List ℕ) → Agree mask u v → PlayWithin mask ops final_word v x
    → PlayWithin mask ops final_word u x
unfolding PlayWithin
play_same mask ops None v u [] agree play = tt
play_same mask ops (Some seen) v u [] agree play = joined mask u v seen agree play
play_same mask ops final_word v u (i ∷ x) agree (t, steps, rest) = (
  t,
  record { word = steps.word; below = steps.below; finds = joined mask u v steps.word agree steps.finds; fits = steps.fits; leaves = steps.leaves },
  rest,
)

pub same_word : (mask : ℕ) (ops : List Operation) (l : ℕ → Bool) (v u : ℕ) (final_word : Option ℕ) (x : List ℕ) → Agree mask u v
    → FinishesWithin mask ops l v final_word x → FinishesWithin mask ops l u final_word x
same_word mask ops l v u final_word x agree c =
    record { done = c.done; once = c.once; times = c.times; plays = play_same mask ops final_word v u x agree c.plays }

-- without an operation that keeps these bits the others find the same
play_without : (mask : ℕ) (ops : List Operation) (final_word : Option ℕ) (e : ℕ) → KeepsWithin mask (at ops e) → (v : ℕ) (x : List ℕ)
    → PlayWithin mask ops final_word v x → PlayWithin mask ops final_word v (without e x)
unfolding PlayWithin
play_without mask ops final_word e keeps v [] play = play
play_without mask ops final_word e keeps v (j ∷ x) (u, steps, rest) = by_test (j == e) refl (play_without mask ops final_word e keeps u x rest)
  where
    by_test : (b : Bool) → (j == e) ≡ b → PlayWithin mask ops final_word u (without e x) → PlayWithin mask ops final_word v (cond (not b) (j ∷ without e x) (without e x))
    by_test true is more =
        let same : j ≡ e = eqb-true j e is in
        let kept : Agree mask (next (at ops j) steps.word) steps.word =
        subst (λ i. Fits (at ops i) steps.word → Agree mask (next (at ops i) steps.word) steps.word) (sym same) (keeps steps.word steps.below) steps.fits in
        play_same mask ops final_word u v (without e x)
        (joined mask v steps.word u steps.finds (turned mask u steps.word (joined mask u (next (at ops j) steps.word) steps.word steps.leaves kept)))
        more
    by_test false is more = (u, steps, more)

pub finishes_without : (mask : ℕ) (ops : List Operation) (l rest : ℕ → Bool) (v : ℕ) (final_word : Option ℕ) (e : ℕ) (x : List ℕ) → Parts l e rest
    → KeepsWithin mask (at ops e) → FinishesWithin mask ops l v final_word x → FinishesWithin mask ops rest v final_word (without e x)
finishes_without mask ops l rest v final_word e x takes keeps c =
    let covers = covers_without ops l rest e x takes (record { done = c.done; once = c.once }) in
    record {
      done = covers.done;
      once = covers.once;
      times = IsInTime-filter ops (λ j. not (j == e)) x c.times;
      plays = play_without mask ops final_word e keeps v x c.plays;
    }
