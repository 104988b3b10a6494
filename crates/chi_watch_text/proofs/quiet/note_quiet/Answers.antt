-- the others, and this one
use Rattle.std.proofs.Common.{◌==◌, ◌∙◌, ◌++◌, [], ◌∷◌, List, not, filter, ap}
use Rattle.chi_watch_text.specs.declared.quiet.Quiet.{Quiet}
use Rattle.chi_watch_text.proofs.quiet.note_quiet.Goals as goal

pub returns : goal.returns
returns c =
    let others = λ (l : List Quiet). filter (λ q. not (q.granule == c.in-Some.granule)) l in
    rw c.in-Some.is
    (c.in_ok-push.ensures.items ∙ ap (λ (l : List Quiet). l ++ record { granule = c.in-Some.granule; line = c.args.line } ∷ []) (c.in_ok-others.ensures ∙ ap others c.deref.ensures.value))
