-- the line was read
use Rattle.std.proofs.Common.{◌≡◌, ◌+◌, Some, IfSome, ◌++◌, take, sym, subst, ◌∙◌, ap, arith}
use Rattle.std.specs.Io.BufRead.{drop_through, take_through, FillKeeps}
use Rattle.std.proofs.BufReadLemmas.{Consumes_shown}
use Rattle.chi_watch_text.proofs.HeldLines.{line_read}
use Rattle.chi_watch_text.proofs.lines.held_line.Goals as goal

pub returns-clause-line : goal.returns-clause-line
returns-clause-line g c =
    let held = c.in-Ok.held.now in
    let first = c.in-Some.ensures in
    let rested = c.fill_buf.follows.lender-at-none in
    let filled = subst (FillKeeps _ (g.R.Read.remaining rested) (g.R.BufRead.consumable_len rested)) c.in-Ok.is c.fill_buf.follows.holds-at-none in
    let moved = Consumes_shown _ _ _ _ held (c.in-Some.end + 1) (omega (arith, first.0.high)) c.in-Ok.ensures.front c.in-Ok.ensures.end filled.0 filled.1 c.consume.ensures.bytes in
    let read = line_read _ _ held c.in-Some.end first.0.high first.1 (λ m less is. first.0.before m (omega arith) less is) moved.0 in
    let line = c.in_ok-extend_from_slice.ensures.items ∙ ap (λ l. l ++ take (c.in-Some.end + 1) held) c.requires.empty in
    λ _. subst (λ l. IfSome (g.R.Read.remaining c.args.from.now) (λ text. (l ≡ take_through 10 text) × (g.R.Read.remaining c.consume.new.self ≡ Some (drop_through 10 text)))) (sym line) read
