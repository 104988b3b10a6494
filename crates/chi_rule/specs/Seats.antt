-- what is known of the seats of a store
use Rattle.std.specs.Prelude.{◌≡◌, ℕ, ◌<◌, true, List}
use Rattle.chi_history.specs.declared.opening.Opening.{Opening}
use Rattle.chi_history.specs.History.{IsLegal}
use Rattle.chi_history.specs.NumberLists.{has}
use Rattle.chi_rule.specs.declared.view.View.{View}
use Rattle.chi_rule.specs.Views.{knower}

-- a seat of an opening carries its values, and has seen a legal history
pub record IsKnown (o : Opening) (v : View) : Type 0 where
  pub now : v ≡ knower o v.held v.seen
  pub legal : IsLegal o v.seen

-- a seat of an opening that holds these numbers, which are those that the rule knows it by
pub record IsSeat (o : Opening) (numbers : List ℕ) (v : View) : Type 0 where
  pub known : IsKnown o v
  pub same : has numbers ≡ has v.held
  pub opened : (r : ℕ) → has numbers r ≡ true → r < o.requesters
