-- the orders have places of the trace, and the text is a page
use Rattle.chi_granules.proofs.Shown.{shown_places}
use Rattle.chi_check.proofs.page.blamed_page.Goals as goal

pub add_page-requires : goal.add_page-requires
add_page-requires c = rw c.deref.ensures.value (shown_places c.args.recorded.now c.args.blame.now c.in_ok-granules.granules.items c.in_ok-granules.ensures.shown)
