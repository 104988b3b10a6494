-- how many states a search may look at
use Rattle.std.specs.Prelude.{◌≡◌, ℕ, ◌≤◌, None}
use Rattle.chi_check.specs.declared.options.CheckOptions.{CheckOptions}

-- as many as the budget has, and no more where the time or the memory is limited
pub record IsWithin (options : CheckOptions) (states : ℕ) : Type 0 where
  pub most : states ≤ options.budget
  pub whole : options.seconds ≡ None → options.memory ≡ None → states ≡ options.budget
