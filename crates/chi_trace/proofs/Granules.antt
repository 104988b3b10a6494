-- the granules' orders, woven, explain the whole trace
use Rattle.std.proofs.Common.{ℕ}
use Rattle.chi_trace.specs.Granules.{is_of}
use Rattle.chi_trace.specs.TraceLaws.{OrdersOfGranulesExplain}
use Rattle.chi_trace.proofs.Gathering.{all_gathered, gathered, most, whole, whole_places}
use Rattle.chi_trace.proofs.Places.{passes}
use Rattle.chi_trace.proofs.Whole.{orders_join}

pub orders_explain : OrdersOfGranulesExplain
orders_explain opening final_words trace orders is_m is each =
    let own = λ (g : ℕ). passes (is_of trace g) (orders g) (each g).once in
    let times = λ (g : ℕ). (each g).times in
    let joined =
    orders_join opening final_words trace orders (whole trace orders) is_m is (whole_places trace orders is own times)
    (gathered trace orders is own times (most trace)).times (all_gathered trace orders is own times) each in
    (whole trace orders, joined.0, joined.1)
