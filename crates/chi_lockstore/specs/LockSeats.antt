-- what is true of the seats of a locked store
use Rattle.std.specs.Prelude.{◌≡◌}
use Rattle.chi_rule.specs.declared.view.View.{View}
use Rattle.chi_rule.specs.Views.{knower}

-- a view of a seat that was not just made of two
abbrev pub IsAlone : View → Type 0
IsAlone v = v ≡ knower v.opening v.held v.seen
