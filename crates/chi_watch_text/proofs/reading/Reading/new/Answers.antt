-- a reading of which no line was read has given nothing
use Rattle.std.proofs.Common.{refl}
use Rattle.chi_watch_text.specs.LineTold.{effect_of}
use Rattle.chi_watch_text.proofs.Readings.{none_given}
use Rattle.chi_watch_text.proofs.reading.Reading.new.Goals as goal

pub returns-clause-given : goal.returns-clause-given
returns-clause-given c = none_given _ (record { seen = c.new.ensures; awaits = c.new-2.ensures (effect_of c.args.format) }) refl c.new-4.ensures.items
