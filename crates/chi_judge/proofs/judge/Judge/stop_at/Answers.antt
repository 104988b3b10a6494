-- what is said where they stop being explained, and why that is found unless the budget was spent
use Rattle.std.proofs.Common.{◌≡◌, ℕ, ◌+◌, ◌<◌, ◌≤◌, ◌⊎◌, ◌++◌, true, Global, Option, Some, IfSome, All, List, Vec, inl, inr, filter, get_or, length, slice_get, ◌↔◌, refl, sym, ap, ap₂, subst, ◌∙◌, ⊎_elim}
use Rattle.std.specs.List.{Contains, remove}
use Rattle.chi_trace.specs.Cuts.{cut}
use Rattle.std.proofs.lemmas.List.{get_or_default}
use Rattle.std.proofs.lemmas.List.Elements.{All-weaker, Contains-get_or}
use Rattle.chi_trace.specs.declared.operation.Operation.{Operation}
use Rattle.chi_trace.specs.Explains.{at, is_answered, nothing}
use Rattle.chi_search.specs.Frontiers.{FrontierValue}
use Rattle.chi_search.specs.Looks.{LookedAtLeast}
use Rattle.chi_trace.specs.AtPlaces.{at_places}
use Rattle.chi_judge.specs.Legal.{IsAnsweredAt, IsLegal, IsSuspect, IsSuspectAt, LeadsWith, MayBeSuspectAt}
use Rattle.chi_judge.specs.Reaches.{CanLeave, EndAnOrder, IsJudgeOf}
use Rattle.chi_judge.specs.Judges.{JudgeValue}
use Rattle.chi_judge.specs.Searches.{AreWordsBy, IsSeen}
use Rattle.chi_judge.specs.Shown.{AreBefore, IsOfFirstRequest, had_ended, last_of}
use Rattle.chi_judge.proofs.Answered.{explained_with}
use Rattle.chi_judge.proofs.Suspected.{are_suspects, first_blamed, has_suspects, no_places, open_of_first}
use Rattle.chi_judge.proofs.More.{unknown_implies, words_imply}
use Rattle.chi_search.proofs.Looking.{at_least_after, at_least_before, some_after}
use Rattle.chi_judge.proofs.Before.{are_before}
use Rattle.chi_judge.proofs.Stopping.{stops_at}
use Rattle.chi_judge.proofs.judge.Judge.stop_at.Goals as goal

pub returns-in_default-clause-undecided : goal.returns-in_default-clause-undecided
returns-in_default-clause-undecided g c trace n w is first =
    let v = c.args.self.now in
    let stop = stops_at c.granules_stand_alone.ensures v c.args.ops.now v.kept c.args.place c.index-ops-place.result c.requires.kept refl c.requires.within c.requires.seen c.requires.unexplained trace n w is in
    let said = c.in_ok-order.ensures.other c.in_default.is trace n w is in
    ⊎_elim (λ none. absurd (none (stop.before first said.0 said.1))) (λ least. least) (said.2 (stop.seen said.0 said.1))

pub returns-in_default-blamed_at-clause-undecided : goal.returns-in_default-blamed_at-clause-undecided
returns-in_default-blamed_at-clause-undecided g c trace n w is first =
    let v = c.args.self.now in
    let stop = stops_at c.granules_stand_alone.ensures v c.args.ops.now v.kept c.args.place c.index-ops-place.result c.requires.kept refl c.requires.within c.requires.seen c.requires.unexplained trace n w is in
    absurd (stop.answered (stop.before first) (c.blamed_at.ensures.none c.in_default-blamed_at.is))

pub returns-in_default-blamed_at-clause-looked : goal.returns-in_default-blamed_at-clause-looked
returns-in_default-blamed_at-clause-looked g c =
    some_after g.P.Progress.looked c.args.progress.now c.end_of_order_before.new.progress c.suspects_at.new.progress c.in_ok-order.ensures.looked c.in_ok-suspects.ensures.looked

pub returns-clause-looked : goal.returns-clause-looked
returns-clause-looked g c =
    let looked = g.P.Progress.looked in
    let old = c.args.progress.now in
    some_after looked old c.words_before.new.progress c.legal_replies.new.progress
    (some_after looked old c.suspects_at.new.progress c.words_before.new.progress
    (some_after looked old c.end_of_order_before.new.progress c.suspects_at.new.progress c.in_ok-order.ensures.looked c.in_ok-suspects.ensures.looked)
    c.in_ok-words.ensures.looked)
    c.in_ok-legal.ensures.looked

pub returns-clause-all : goal.returns-clause-all
returns-clause-all g c trace n w is =
    let looked = g.P.Progress.looked in
    let old = c.args.progress.now in
    let given = c.args.ops.now in
    let v = c.args.self.now in
    let time = (get_or given c.args.place c.index-ops-place.result).end in
    let stop = stops_at c.granules_stand_alone.ensures v given given c.args.place c.index-ops-place.result c.requires.kept c.requires.kept c.requires.within c.requires.seen c.requires.unexplained trace n w is in
    let before : c.self.inside.before ≡ v.before = ap (λ (x : JudgeValue). x.before) c.self.view_is in
    let places = c.in_ok-suspects.suspects.items in
    let spent = LookedAtLeast looked c.end_of_order_before.new.progress c.suspects_at.new.progress c.args.budget in
    let found : (i : ℕ) → i < length v.kept → MayBeSuspectAt v.before v.kept time i → Contains places i ⊎ spent =
    subst (λ (ops : List Operation). (i : ℕ) → i < length ops → MayBeSuspectAt v.before ops time i → Contains places i ⊎ spent) c.requires.kept
    (subst (λ (f : FrontierValue). (i : ℕ) → i < length given → MayBeSuspectAt f given time i → Contains places i ⊎ spent) before c.in_ok-suspects.ensures.all) in
    let suspects_is : c.in_ok-operations_at.field-0.items ≡ at_places v.kept places = c.in_ok-operations_at.ensures ∙ ap₂ (λ (ops : List Operation) (l : List ℕ). at_places ops l) c.requires.kept c.deref-2.ensures.value in
    record {
      suspects = λ op s. elim (has_suspects c.granules_stand_alone.ensures trace n w v is time stop.seen_then places stop.from found op s) [
        | inl there ↦ inl (subst (λ (l : List Operation). Contains l op) (sym suspects_is) there)
        | inr more ↦ inr (at_least_before looked old c.words_before.new.progress c.legal_replies.new.progress c.args.budget
            (at_least_before looked old c.suspects_at.new.progress c.words_before.new.progress c.args.budget
            (at_least_after looked old c.end_of_order_before.new.progress c.suspects_at.new.progress c.args.budget c.in_ok-order.ensures.looked more) c.in_ok-words.ensures.looked)
            c.in_ok-legal.ensures.looked)
      ];
      words = unknown_implies c.in_ok-words.words
          ((t : List Operation) (m u : ℕ) → IsJudgeOf t m u v → (time ≡ 0) ⊎ LookedAtLeast looked c.suspects_at.new.progress c.words_before.new.progress c.args.budget)
          ((time ≡ 0) ⊎ LookedAtLeast looked old c.legal_replies.new.progress c.args.budget)
          (λ said. elim (said trace n w is) [
            | inl none ↦ inl none
            | inr more ↦ inr (at_least_before looked old c.words_before.new.progress c.legal_replies.new.progress c.args.budget
                (at_least_after looked old c.suspects_at.new.progress c.words_before.new.progress c.args.budget
                (some_after looked old c.end_of_order_before.new.progress c.suspects_at.new.progress c.in_ok-order.ensures.looked c.in_ok-suspects.ensures.looked) more)
                c.in_ok-legal.ensures.looked)
          ]) c.in_ok-words.ensures.unknown;
    }

pub returns-clause-stops : goal.returns-clause-stops
returns-clause-stops g c trace n w is =
    let v = c.args.self.now in
    let given = c.args.ops.now in
    let time = (get_or given c.args.place c.index-ops-place.result).end in
    let blamed = c.in-Some-blamed_at.blamed in
    let left : c.deref-3.result.now ≡ v.left = c.deref-3.ensures.value ∙ ap (λ (x : JudgeValue). x.left) c.self.view_is in
    let stop = stops_at c.granules_stand_alone.ensures v given given c.args.place c.index-ops-place.result c.requires.kept c.requires.kept c.requires.within c.requires.seen c.requires.unexplained trace n w is in
    let op : Operation = c.index-ops-blamed.result in
    let is_op : op ≡ at given blamed = c.index-ops-blamed.is ∙ get_or_default given blamed op nothing c.in-Some-blamed_at.ensures.within in
    let below : blamed < length v.kept = subst (λ (l : List Operation). blamed < length l) c.requires.kept c.in-Some-blamed_at.ensures.within in
    let there : Contains given op = subst (Contains given) (sym is_op) (Contains-get_or given blamed nothing c.in-Some-blamed_at.ensures.within) in
    let blamed_then : IsAnsweredAt given time blamed = c.in-Some-blamed_at.ensures.answered in
    let ends : op.end ≡ time = ap (λ (o : Operation). o.end) is_op ∙ blamed_then.ends in
    let places = c.in_ok-suspects.suspects.items in
    let before : c.self.inside.before ≡ v.before = ap (λ (x : JudgeValue). x.before) c.self.view_is in
    let suspects_is : c.in_ok-operations_at.field-0.items ≡ at_places given places = c.in_ok-operations_at.ensures ∙ ap (at_places given) c.deref-2.ensures.value in
    let found : All (IsSuspectAt v.before v.kept time) places =
    subst (λ (l : List Operation). All (IsSuspectAt v.before l time) places) c.requires.kept (subst (λ (f : FrontierValue). All (IsSuspectAt f given time) places) before c.in_ok-suspects.ensures.suspects) in
    let within = subst (λ (l : List Operation). All (λ i. i < length l) places) c.requires.kept c.in_ok-suspects.ensures.within in
    let shown : c.in_ok-before_at.field-0.items ≡ last_of v.shown (v.left ++ filter (had_ended time) (remove given blamed)) =
    c.in_ok-before_at.ensures ∙ ap₂ (λ (m : ℕ) (a : List Operation). last_of m (a ++ filter (had_ended time) (remove given blamed))) (ap (λ (x : JudgeValue). x.shown) c.self.view_is) left in
    let before_then : (earlier : ℕ) → earlier + 1 ≡ time → EndAnOrder (cut earlier trace) n w c.in-Some.order.items =
    λ earlier next. subst (λ (o : Option (Vec Operation Global)). IfSome o (λ last. (e : ℕ) → e + 1 ≡ time → (t : List Operation) (m u : ℕ) → IsJudgeOf t m u v → IsSeen v e → EndAnOrder (cut e t) m u last.items))
    c.in-Some.is c.in_ok-order.ensures.order earlier next trace n w is (stop.seen earlier next) in
    record {
      after = stop.here;
      before_it = λ earlier next. (let e = before_then earlier next in (e.order, e.explains));
      order = before_then;
      order_within = subst (λ (o : Option (Vec Operation Global)). IfSome o (λ last. length last.items ≤ v.shown)) c.in-Some.is c.in_ok-order.ensures.within;
      words = λ earlier next.
          words_imply c.in_ok-words.words (λ words. (e : ℕ) → e + 1 ≡ time → AreWordsBy v e words) (λ words. (u : ℕ) → Contains words u ↔ CanLeave (cut earlier trace) n w u)
          (λ words are. are earlier next (stop.seen earlier next) trace n w is) c.in_ok-words.ensures.words;
      no_words = c.in_ok-words.ensures.no_words;
      is_there = stop.has c.in_ok-open_at.field-0.items c.in_ok-open_at.ensures op there ends;
      ends = ends;
      answered = subst (λ (o : Operation). is_answered o ≡ true) (sym is_op) blamed_then.answered;
      suspects = subst (All (IsSuspect trace n w time)) (ap (λ (l : List Operation). at_places l places) (sym c.requires.kept) ∙ sym suspects_is)
          (are_suspects c.granules_stand_alone.ensures trace n w v is time stop.seen_then places within found);
      first = subst (λ (l : List Operation). IfSome (slice_get l 0) (λ suspect. op ≡ suspect)) (sym suspects_is) (first_blamed given places blamed op is_op (subst (λ (l : List ℕ). IfSome (slice_get l 0) (λ place. Some blamed ≡ Some place)) c.deref.ensures.value c.in-Some-blamed_at.ensures.first));
      request = λ none. open_of_first time op.number given c.in_ok-open_at.field-0.items c.in_ok-open_at.ensures
          (subst (λ (o : Operation). IsOfFirstRequest given time o.number) (sym is_op) (c.in-Some-blamed_at.ensures.request (c.deref.ensures.value ∙ no_places given places (sym suspects_is ∙ none))));
      overlapping = stop.overlapping c.in_ok-open_at.field-0.items c.in_ok-open_at.ensures;
      before = subst (λ (o : Operation). AreBefore trace n time o v.shown c.in_ok-before_at.field-0.items) (sym is_op)
          (subst (λ (l : List Operation). (end : (at l blamed).end ≡ time) → c.in_ok-before_at.field-0.items ≡ last_of v.shown (v.left ++ filter (had_ended time) (remove l blamed))
          → AreBefore trace n time (at l blamed) v.shown c.in_ok-before_at.field-0.items) (sym c.requires.kept)
          (λ end is_shown. are_before trace n w v is time stop.seen_then blamed below end c.in_ok-before_at.field-0.items is_shown) blamed_then.ends shown);
      legal = All-weaker (λ reply. LeadsWith c.self.inside.before given time blamed (Some reply)) (IsLegal trace n w time op)
          (λ reply leads. subst (λ (o : Operation). IsLegal trace n w time o reply) (ap (λ (l : List Operation). at l blamed) (sym c.requires.kept) ∙ sym is_op)
          (explained_with c.granules_stand_alone.ensures trace n w v is time stop.seen_then blamed below (Some reply)
          (subst (λ (l : List Operation). LeadsWith v.before l time blamed (Some reply)) c.requires.kept
          (subst (λ (f : FrontierValue). LeadsWith f given time blamed (Some reply)) before leads))))
          c.in_ok-legal.legal.items c.in_ok-legal.ensures.legal;
    }
