-- what is more than a page goes past it, when the page is empty
use Rattle.chi_script.proofs.WriterBytesLemmas.{writes_past}
use Rattle.chi_script.proofs.device.put_bytes.Goals as goal

pub returns-then-bytes-gt-PAGE : goal.returns-then-bytes-gt-PAGE
returns-then-bytes-gt-PAGE g c = writes_past _ _ _ _ _ _ _ c.in_ok-put_page.ensures.empty c.in_ok-put_page.ensures.writes c.write_bytes.ensures
