-- the answer blames this operation
use Rattle.chi_check.proofs.page.page_of_answer.Goals as goal

pub returns-in-Blamed : goal.returns-in-Blamed
returns-in-Blamed c = rw c.in-Blamed.is c.blamed_page.ensures
