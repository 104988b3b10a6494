-- what options leave of a task
use Rattle.std.proofs.Common.{ap, ◌≡◌, ◌∙◌, true, List, [], ◌∷◌, refl}
use Rattle.std.specs.Prelude.{fold}
use Rattle.clap.specs.Simple.{App, new_app}
use Rattle.chi_program.specs.Tasks.{task_app, with_option}
use Rattle.chi_program.specs.declared.task.NamedOption.{NamedOption}
use Rattle.chi_program.specs.declared.task.NamedTask.{NamedTask}

-- it is as plain as without them
task_is_plain : (task : NamedTask) → (task_app task).top.is_plain ≡ true
task_is_plain task = with_options (new_app task.name.now) task.options.now refl
  where
    with_options : (app : App) (options : List NamedOption) → app.top.is_plain ≡ true → (fold with_option app options).top.is_plain ≡ true
    with_options app [] plain = plain
    with_options app (option ∷ options) plain = with_options (with_option app option) options plain

pub is_plain : (task : NamedTask) (app : App) → app ≡ task_app task → app.top.is_plain ≡ true
is_plain task app is = ap (λ (a : App). a.top.is_plain) is ∙ task_is_plain task
