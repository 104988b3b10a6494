-- the word of one state more
use Rattle.std.proofs.Common.{◌≡◌, ◌≢◌, ℕ, ◌≤◌, ◌==◌, ◌∙◌, ◌↔◌, ◌⊎◌, List, length, ap, sym, subst, arith}
use Rattle.std.specs.List.{AllPairs, Contains, list_any}
use Rattle.chi_search.specs.Positions.{Position, position_of}
use Rattle.chi_search.specs.StateSets.{positions}
use Rattle.chi_search.proofs.Elements.{any_contains, had, once_more, pushed, some_end, some_step}
use Rattle.chi_search.proofs.layer.words_in.Goals as goal
use Rattle.chi_search.proofs.layer.words_in.Goals.{else-not-contains, then-not-contains+in_ok-push}

pub loop-place-preserved : goal.loop-place-preserved
loop-place-preserved c =
    let old = c.loop-place.words.items in
    let now = c.if-not-contains.words.items in
    let word = c.read.new.to.word in
    let found : list_any (λ y. y == word) old ≡ c.contains.result = sym (ap (list_any (λ y. y == word)) c.deref.ensures.value) ∙ sym c.contains.ensures.value in
    record {
      words = λ w.
          some_step (λ (p : Position). p.word ≡ w) (Contains old w) (Contains now w) (positions c.args.layer.now) c.loop-place.place (position_of c.read.new.to)
          c.in_ok-read.ensures (c.loop-place.invariant.words w)
          (elim c.if-not-contains.branch [
            | then-not-contains+in_ok-push b ↦
                subst (λ (items : List ℕ). Contains items w ↔ (Contains old w ⊎ (word ≡ w))) (sym (ap (λ words. words.items) b.words-is ∙ b.in_ok-push.ensures.items)) (pushed old word w)
            | else-not-contains b ↦
                subst (λ (items : List ℕ). Contains items w ↔ (Contains old w ⊎ (word ≡ w))) (sym (ap (λ words. words.items) b.words-is))
                (had old word w (any_contains old word (found ∙ b.if-not-contains.false)))
          ]);
      once = elim c.if-not-contains.branch [
        | then-not-contains+in_ok-push b ↦
            subst (AllPairs (λ v w. v ≢ w)) (sym (ap (λ words. words.items) b.words-is ∙ b.in_ok-push.ensures.items))
            (once_more old word (found ∙ b.if-not-contains.true) c.loop-place.invariant.once)
        | else-not-contains b ↦ subst (AllPairs (λ v w. v ≢ w)) (sym (ap (λ words. words.items) b.words-is)) c.loop-place.invariant.once
      ];
    }

pub returns-clause-words : goal.returns-clause-words
returns-clause-words c w =
    let whole : length (positions c.args.layer.now) ≤ c.loop-place.place = omega arith in
    some_end (λ (p : Position). p.word ≡ w) (Contains c.loop-place.words.items w) (positions c.args.layer.now) c.loop-place.place whole (c.loop-place.invariant.words w)
