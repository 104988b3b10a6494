-- a blank line more, and the end
use Rattle.std.proofs.Common.{sym, ap, ◌∙◌, eqb-true}
use Rattle.std.proofs.lemmas.List.{nil_from_length}
use Rattle.chi_watch_text.specs.Lines.{is_blank}
use Rattle.chi_watch_text.proofs.Blank.{blank_after, blank_then, none_left}
use Rattle.chi_watch_text.proofs.lines.is_at_end.Goals as goal

pub returns-then-is_empty-clause-blank : goal.returns-then-is_empty-clause-blank
returns-then-is_empty-clause-blank g c so =
    let line = c.next_line.new.line.items in
    let now = g.R.Read.remaining c.loop.from in
    blank_then (g.R.Read.remaining c.args.from.now) now c.loop.invariant
    (none_left now (g.R.Read.remaining c.next_line.new.from) line
    (nil_from_length line (sym c.next_line.new.line.ok.0 ∙ eqb-true c.next_line.new.line.len 0 (sym c.is_empty.ensures ∙ c.if-is_empty.true))) c.in_ok-next_line.ensures.line)

pub loop-preserved : goal.loop-preserved
loop-preserved g c =
    let line = c.next_line.new.line.items in
    blank_after (g.R.Read.remaining c.args.from.now) (g.R.Read.remaining c.loop.from) (g.R.Read.remaining c.next_line.new.from) line c.loop.invariant c.in_ok-next_line.ensures.line
    (ap is_blank (sym c.deref.ensures.value) ∙ (sym c.is_blank.ensures ∙ c.if-not-is_blank.false))
