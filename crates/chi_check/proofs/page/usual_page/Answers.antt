-- the orders have places of the trace, and the text is a page
use Rattle.chi_granules.proofs.Shown.{judged_places}
use Rattle.chi_check.proofs.page.usual_page.Goals as goal

pub add_page-requires : goal.add_page-requires
add_page-requires c = rw c.deref.ensures.value (judged_places c.args.recorded.now c.in_ok-granules.granules.items c.in_ok-granules.ensures.judged)
