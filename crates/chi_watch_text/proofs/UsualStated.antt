-- what a line states that is an object in which there is no fault
use Rattle.std.proofs.Common.{◌≡◌, ℕ, List, Some, None, Ok, true, false, refl}
use Rattle.serde_json.specs.Data.{Members, object}
use Rattle.chi_json.specs.Values.{json_value}
use Rattle.chi_reading.proofs.LineValues.{line_value-json_value}
use Rattle.chi_watch_text.specs.LineTold.{names_channel, stated_in, stated_of}
use Rattle.chi_watch_text.specs.declared.stated.Stated.{Stated}

pub states_none : (number : ℕ) (line : List ℕ) (ms : Members) → json_value line ≡ Some (object ms) → names_channel (object ms) ≡ false → stated_in number line ≡ None
states_none number line ms value no_channel = rw (line_value-json_value number line (object ms) value, no_channel) refl

pub states_some : (number : ℕ) (line : List ℕ) (ms : Members) (stated : Stated) → json_value line ≡ Some (object ms) → names_channel (object ms) ≡ true → stated_of number (object ms) ms ≡ Ok stated
    → stated_in number line ≡ Some (Ok stated)
states_some number line ms stated value channel is = rw (line_value-json_value number line (object ms) value, channel, is) refl
