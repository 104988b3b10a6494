-- an entry, and what is none
use Rattle.std.proofs.Common.{◌≡◌, ◌∙◌, sym, refl, None, Some, arith}
use Rattle.std.proofs.lemmas.Str.Pattern.{split_once_first}
use Rattle.chi_stimulus.specs.Named.{weight_in}
use Rattle.chi_stimulus.proofs.Naming.{entry_is, few_enough, no_entry, too_great, weight_read}
use Rattle.chi_stimulus.proofs.mix.entry_in.Goals as goal

pub returns-in_err-name-clause-entry : goal.returns-in_err-name-clause-entry
returns-in_err-name-clause-entry c =
    let cut = rw c.in_err-name.was at (split_once_first 61 c.args.part.now c.split_once.result c.split_once.ensures.cases (omega arith)) in
    c.from_residual.ensures ∙ sym (no_entry c.args.part.now cut)

pub returns-in_err-kind-clause-entry : goal.returns-in_err-kind-clause-entry
returns-in_err-kind-clause-entry c =
    let cut = rw c.in_ok-name.was at (split_once_first 61 c.args.part.now c.split_once.result c.split_once.ensures.cases (omega arith)) in
    c.from_residual-in_err-kind.ensures ∙ sym (entry_is c.args.part.now _ _ None _ cut.1 cut.2 c.in_err-kind.ensures.kind refl)

pub returns-in_err-weight-clause-entry : goal.returns-in_err-weight-clause-entry
returns-in_err-weight-clause-entry c =
    let cut = rw c.in_ok-name.was at (split_once_first 61 c.args.part.now c.split_once.result c.split_once.ensures.cases (omega arith)) in
    let none : weight_in c.in_ok-name.weight.now ≡ None = weight_read _ c.parse.result None c.parse.ensures.value.0 c.in_err-weight.ensures.value in
    c.from_residual-in_err-weight.ensures ∙ sym (entry_is c.args.part.now _ _ _ None cut.1 cut.2 c.in_ok-kind.ensures.kind none)

pub returns-then-weight-gt-MOST_WEIGHT-clause-entry : goal.returns-then-weight-gt-MOST_WEIGHT-clause-entry
returns-then-weight-gt-MOST_WEIGHT-clause-entry c =
    let cut = rw c.in_ok-name.was at (split_once_first 61 c.args.part.now c.split_once.result c.split_once.ensures.cases (omega arith)) in
    let read = weight_read _ c.parse.result (Some c.in_ok-weight.weight) c.parse.ensures.value.0 c.in_ok-weight.ensures.value in
    let none : weight_in c.in_ok-name.weight.now ≡ None = read ∙ too_great c.in_ok-weight.weight (omega arith) in
    sym (entry_is c.args.part.now _ _ _ None cut.1 cut.2 c.in_ok-kind.ensures.kind none)

pub returns-clause-entry : goal.returns-clause-entry
returns-clause-entry c =
    let cut = rw c.in_ok-name.was at (split_once_first 61 c.args.part.now c.split_once.result c.split_once.ensures.cases (omega arith)) in
    let read = weight_read _ c.parse.result (Some c.in_ok-weight.weight) c.parse.ensures.value.0 c.in_ok-weight.ensures.value in
    let written : weight_in c.in_ok-name.weight.now ≡ Some c.in_ok-weight.weight = read ∙ few_enough c.in_ok-weight.weight (omega arith) in
    sym (entry_is c.args.part.now _ _ _ _ cut.1 cut.2 c.in_ok-kind.ensures.kind written)
