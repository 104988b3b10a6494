-- Before any event nothing is told of any granule.
use Rattle.std.proofs.Common.{ℕ, List, [], All, IsTrue, is_some, arith, refl, sym, subst}
use Rattle.std.proofs.lemmas.List.Elements.{All-nil}
use Rattle.chi_events.specs.declared.outstanding.Open.{Open}
use Rattle.chi_trace.specs.Words.{find_word}
use Rattle.chi_watch.specs.Followed.{FollowedValue}
use Rattle.chi_events.specs.Granules.{granule_of_request}
use Rattle.chi_watch.specs.Watches.{IsGranuleOf, granule}
use Rattle.chi_watch.specs.WordsTold.{words_told}
use Rattle.chi_watch.proofs.watch.Watch.new.Goals as goal

pub returns-clause-watches : goal.returns-clause-watches
unfolding find_word words_told
returns-clause-watches c = record {
  tells = c.in_ok-new.ensures.tells;
  time = let none = c.in_ok-new.ensures.none.1 in omega (arith, none);
  each = λ g. subst (λ (entries : List (ℕ × FollowedValue)). IsGranuleOf c.args.shown [] [] c.in_ok-new.field-0 g (granule (record { outstanding = c.in_ok-new.field-0; granules = entries; ended = 0; shown = c.args.shown }) g)) (sym c.new-2.ensures.empty)
      (record { known = refl; none = refl; times = refl; opening = refl; final_word = refl });
  requested = subst (λ (requests : List Open). All (λ p. IsTrue (is_some (granule (record { outstanding = c.in_ok-new.field-0; granules = c.new-2.result.entries; ended = 0; shown = c.args.shown }) (granule_of_request p)))) requests) (sym c.in_ok-new.ensures.none.0)
      (All-nil (λ (p : Open). IsTrue (is_some (granule (record { outstanding = c.in_ok-new.field-0; granules = c.new-2.result.entries; ended = 0; shown = c.args.shown }) (granule_of_request p)))));
  count = omega arith;
}
