-- what is said of a granule whose operations stop being explained, and where the trace is not explained up to the time before either
use Rattle.std.proofs.Common.{◌≡◌, ℕ, ◌+◌, ◌-◌, ◌≤◌, List, None, Option, IfSome, refl, sym, ap, subst, ◌∙◌, arith}
use Rattle.chi_search.proofs.Looking.{more_after, some_after}
use Rattle.chi_trace.specs.Cuts.{cut}
use Rattle.chi_trace.specs.Explains.{Explains, IsTrace, unobserved}
use Rattle.chi_trace.specs.Granules.{ExplainsGranule}
use Rattle.chi_trace.specs.Traces.{TraceValue}
use Rattle.chi_trace.specs.Words.{find_word, memory_of, word_or_zero}
use Rattle.chi_trace.proofs.TracedCuts.{IsTrace-cut}
use Rattle.chi_judge.specs.Reaches.{IsStop, MissesNone}
use Rattle.chi_judge.specs.declared.reach.Stop.{Stop}
use Rattle.chi_judge.proofs.More.{misses_none_before}
use Rattle.chi_verdict.specs.declared.verdict.Verdict.{Verdict}
use Rattle.chi_verdict.specs.Verdicts.{IfExplained, IfUndecided, IfUnexplained}
use Rattle.chi_verdict.proofs.Blamed.{blamed_words, none_is_told, unexplained_at}
use Rattle.chi_verdict.proofs.Whole.{unseen}
use Rattle.chi_verdict.proofs.first.look_back.Goals as goal

pub returns-then-stop-eq0-clause-answer : goal.returns-then-stop-eq0-clause-answer
returns-then-stop-eq0-clause-answer g c =
    let n = c.args.failing.granule in
    let word = word_or_zero c.args.opening.now n in
    let stop = c.in-Some.stop in
    let is : IsStop c.args.ops.now n word c.args.shown stop = subst (λ (o : Option Stop). IfSome o (IsStop c.args.ops.now n word c.args.shown)) c.in-Some.is c.in_ok-stop.ensures.stop in
    record {
      never = tt;
      blame = record {
        before = λ earlier next. let first = c.if-stop-eq0.true in absurd (omega (arith, next, first));
        no_order = λ zero. c.new-order.ensures.items;
        after = unexplained_at c.parts_explain.ensures c.args.opening.now c.args.ops.now n stop.time c.requires.words c.requires.traced (λ order explains. is.after (order, explains));
        stop = is;
        words = λ earlier next. let first = c.if-stop-eq0.true in absurd (omega (arith, next, first));
      };
      undecided = tt;
    }

pub explain_operations-requires-clause-traced : goal.explain_operations-requires-clause-traced
explain_operations-requires-clause-traced g c =
    subst IsTrace (sym (rw c.in_ok-known.ensures at c.deref.ensures.value)) (IsTrace-cut (c.in-Some.stop.time - 1) c.args.ops.now c.requires.traced)

pub returns-in-Explained-clause-answer : goal.returns-in-Explained-clause-answer
returns-in-Explained-clause-answer g c =
    let n = c.args.failing.granule in
    let word = word_or_zero c.args.opening.now n in
    let stop = c.in-Some.stop in
    let t : TraceValue = record { opening = c.args.opening.now; operations = c.args.ops.now } in
    let items = c.in-Explained.order.items in
    let memory = memory_of c.args.opening.now in
    let whole = subst (λ (v : Verdict). IfExplained v (λ order. Explains memory (find_word c.none-none.result) c.deref.result.now order)) c.in-Explained.is c.in_ok-order.ensures.explained in
    let known : Explains memory unobserved (cut (stop.time - 1) c.args.ops.now) items =
    subst (λ ops. Explains memory unobserved ops items) (rw c.in_ok-known.ensures at c.deref.ensures.value)
    (unseen memory c.deref.result.now items (subst (λ words. Explains memory (find_word words) c.deref.result.now items) c.none-none.ensures whole)) in
    let legal : (earlier : ℕ) → earlier + 1 ≡ stop.time → Explains memory unobserved (cut earlier c.args.ops.now) items =
    λ earlier next. let when : stop.time - 1 ≡ earlier = omega (arith, next) in subst (λ (n : ℕ). Explains memory unobserved (cut n c.args.ops.now) items) when known in
    let is : IsStop c.args.ops.now n word c.args.shown stop = subst (λ (o : Option Stop). IfSome o (IsStop c.args.ops.now n word c.args.shown)) c.in-Some.is c.in_ok-stop.ensures.stop in
    record {
      never = tt;
      blame = record {
        before = legal;
        no_order = λ zero. absurd (c.if-stop-eq0.false zero);
        after = unexplained_at c.parts_explain.ensures c.args.opening.now c.args.ops.now n stop.time c.requires.words c.requires.traced (λ order explains. is.after (order, explains));
        stop = is;
        words = λ earlier next. blamed_words c.orders_of_granules_explain.ensures c.parts_explain.ensures t n earlier c.in-Explained.order.items stop.words c.requires.words c.requires.traced
            (legal earlier next) (is.words earlier next);
      };
      undecided = tt;
    }

pub returns-in-Explained-clause-spent : goal.returns-in-Explained-clause-spent
returns-in-Explained-clause-spent g c =
    let looked = g.P.Progress.looked in
    let n = c.args.failing.granule in
    let word = word_or_zero c.args.opening.now n in
    let stop = c.in-Some.stop in
    let first = c.in_ok-stop.ensures.looked in
    let spent = c.in_ok-order.ensures.spent in
    record {
      count = first.0 + spent.count;
      more = more_after looked c.args.progress.now c.stop_of.new.progress c.explain_operations.new.progress first.0 spent.count (first.0 + spent.count) refl first.1 spent.more;
      undecided = tt;
      all = misses_none_before looked c.args.progress.now c.stop_of.new.progress c.explain_operations.new.progress c.args.budget c.args.ops.now n word stop (spent.count, spent.more)
          (subst (λ (o : Option Stop). IfSome o (MissesNone looked c.args.progress.now c.stop_of.new.progress c.args.budget c.args.ops.now n word)) c.in-Some.is c.in_ok-stop.ensures.all);
    }

pub returns-in-Explained-clause-looked : goal.returns-in-Explained-clause-looked
returns-in-Explained-clause-looked g c =
    let spent = c.in_ok-order.ensures.spent in
    some_after g.P.Progress.looked c.args.progress.now c.stop_of.new.progress c.explain_operations.new.progress c.in_ok-stop.ensures.looked (spent.count, spent.more)

pub returns-in-Unexplained-clause-earlier : goal.returns-in-Unexplained-clause-earlier
returns-in-Unexplained-clause-earlier g c explained =
    let n = c.in-Unexplained.granule in
    let word = word_or_zero c.args.opening.now n in
    let none = subst (λ (v : Verdict). IfUnexplained v (λ m. (x : List ℕ) → ExplainsGranule c.deref.result.now m (word_or_zero c.args.opening.now m) (find_word c.none-none.result m) x → ⊥))
    c.in-Unexplained.is c.in_ok-order.ensures.granule in
    none explained.0
    (subst (λ (f : Option ℕ). ExplainsGranule c.deref.result.now n word f explained.0) (sym (ap (λ words. find_word words n) c.none-none.ensures ∙ none_is_told n))
    (subst (λ ops. ExplainsGranule ops n word None explained.0) (sym (rw c.in_ok-known.ensures at c.deref.ensures.value)) explained.1))

pub returns-in-Unexplained-clause-later : goal.returns-in-Unexplained-clause-later
returns-in-Unexplained-clause-later g c =
    let by = subst (λ (o : Option Stop). IfSome o (λ s. s.time ≤ c.args.failing.time)) c.in-Some.is c.in_ok-stop.ensures.by in
    let some = c.if-stop-eq0.false in
    omega (arith, by, some)

pub returns-in-Unexplained-clause-looked : goal.returns-in-Unexplained-clause-looked
returns-in-Unexplained-clause-looked g c =
    let spent = c.in_ok-order.ensures.spent in
    some_after g.P.Progress.looked c.args.progress.now c.stop_of.new.progress c.explain_operations.new.progress c.in_ok-stop.ensures.looked (spent.count, spent.more)

pub returns-in-Undecided-clause-spent : goal.returns-in-Undecided-clause-spent
returns-in-Undecided-clause-spent g c =
    let looked = g.P.Progress.looked in
    let first = c.in_ok-stop.ensures.looked in
    let spent = c.in_ok-order.ensures.spent in
    record {
      count = first.0 + spent.count;
      more = more_after looked c.args.progress.now c.stop_of.new.progress c.explain_operations.new.progress first.0 spent.count (first.0 + spent.count) refl first.1 spent.more;
      undecided = let under = subst (λ (v : Verdict). IfUndecided v (λ states. states ≤ spent.count)) c.in-Undecided.is spent.undecided in omega (arith, under);
      all = tt;
    }

pub returns-in-Undecided-clause-looked : goal.returns-in-Undecided-clause-looked
returns-in-Undecided-clause-looked g c =
    let spent = c.in_ok-order.ensures.spent in
    some_after g.P.Progress.looked c.args.progress.now c.stop_of.new.progress c.explain_operations.new.progress c.in_ok-stop.ensures.looked (spent.count, spent.more)
