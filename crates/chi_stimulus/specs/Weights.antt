-- how often each kind is drawn
use Rattle.std.specs.Prelude.{◌≤◌, All}
use Rattle.chi_stimulus.specs.declared.mix.Mix.{Mix}

-- no weight is above 1000
abbrev pub HasSmallWeights : Mix → Type 0
HasSmallWeights mix = All (λ weight. weight ≤ 1000) mix.weights
