-- the words of the search are those of the trace, and there is one
use Rattle.std.proofs.Common.{◌≡◌, ℕ, ◌++◌, ◌↔◌, List, false, ap}
use Rattle.std.specs.List.{Contains}
use Rattle.chi_search.specs.declared.words.Words.{Words}
use Rattle.chi_search.specs.declared.words.Words.TheVariants.{Each, Unknown}
use Rattle.chi_search.specs.Found.{IfWords}
use Rattle.chi_search.specs.Frontiers.{Follows, FrontierValue}
use Rattle.chi_search.specs.Layers.{SomeLeads}
use Rattle.chi_trace.specs.AtPlaces.{GranulesStandAlone}
use Rattle.chi_trace.specs.declared.operation.Operation.{Operation}
use Rattle.chi_judge.specs.Judges.{GoesOn, JudgeValue}
use Rattle.chi_judge.specs.Reaches.{AreLast, CanLeave, IsJudgeOf}
use Rattle.chi_judge.proofs.Reached.{leaves_all, words_of_all}
use Rattle.chi_judge.proofs.judge.Judge.whole.Goals as goal

-- the words that a search found are the last, where an order explains the operations
are_last : GranulesStandAlone → (r : JudgeValue) (before : FrontierValue) (more : List Operation) (found : Words) → before ≡ r.before → more ≡ r.kept → r.is_stopped ≡ false
    → GoesOn r.before r.kept
    → IfWords found (λ each. (words : List ℕ) (told : List Operation) → Follows words told before → (v : ℕ) → Contains each v ↔ SomeLeads (told ++ more) words v)
    → (trace : List Operation) (g w : ℕ) → IsJudgeOf trace g w r → AreLast trace g w found
are_last law r before more found same ops_is goes on said trace g w is = record { some = leaves_all law trace g w r is goes on; each = by_words found said }
  where
    by_words : (f : Words)
        → IfWords f (λ each. (words : List ℕ) (told : List Operation) → Follows words told before → (v : ℕ) → Contains each v ↔ SomeLeads (told ++ more) words v)
        → IfWords f (λ words. (v : ℕ) → Contains words v ↔ CanLeave trace g w v)
    by_words (Each words) leads = words_of_all law r before more words.items same ops_is leads goes trace g w is
    by_words Unknown leads = tt

pub returns-clause-whole : goal.returns-clause-whole
returns-clause-whole g c trace n w is =
    are_last c.granules_stand_alone.ensures c.args.self.now c.self.inside.before c.args.ops.now c.in_ok-words.words (ap (λ (v : JudgeValue). v.before) c.self.view_is) c.requires.kept c.requires.goes_on
    c.requires.explained c.in_ok-words.ensures.words trace n w is
