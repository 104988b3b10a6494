-- a line more is read, or nothing but white space is left
use Rattle.std.proofs.Common.{◌≡◌, ◌∙◌, ◌+◌, ◌<◌, ap, eqb-true, length, ℕ, subst, sym}
use Rattle.std.proofs.lemmas.List.{nil_from_length}
use Rattle.chi_watch_text.specs.LineTold.{line_told}
use Rattle.chi_watch_text.specs.Lines.{is_blank}
use Rattle.chi_watch_text.specs.Reading.{RefusesBy, TakesBy}
use Rattle.chi_watch_text.proofs.Blank.{blank_line, none_left}
use Rattle.chi_watch_text.proofs.Readings.{line_after, line_of, line_read_of, line_refused, some_read}
use Rattle.chi_watch_text.proofs.reading.Reading.read_line.Goals as goal

pub returns-then-is_empty-clause-ended : goal.returns-then-is_empty-clause-ended
returns-then-is_empty-clause-ended g c = λ _.
    let line = c.next_line.new.line.items in
    none_left (g.R.Read.remaining c.args.from.now) (g.R.Read.remaining c.next_line.new.from) line
    (nil_from_length line (sym c.next_line.new.line.ok.0 ∙ eqb-true c.next_line.new.line.len 0 (sym c.is_empty.ensures ∙ c.if-is_empty.true))) c.in_ok-next_line.ensures.line

pub returns-in-Ok-clause-read : goal.returns-in-Ok-clause-read
returns-in-Ok-clause-read g c = λ _ start events has.
    let old = c.args.self.now in
    let new = c.take_line.new.self in
    let line = c.next_line.new.line.items in
    let number : c.in-Some.number ≡ old.number + 1 = c.in-Some.ensures.1 in
    let some : 0 < length line = subst (λ n. 0 < n) c.next_line.new.line.ok.0 (some_read c.next_line.new.line.len c.is_empty.result c.is_empty.ensures c.if-is_empty.false) in
    line_read_of start (g.R.Read.remaining c.args.from.now) (g.R.Read.remaining c.next_line.new.from) events line old new has c.in_ok-next_line.ensures.line some c.requires
    (subst (λ (n : ℕ). TakesBy old.format n line old.port old.awaited new.pending.items new.port new.awaited) number c.in-Ok.ensures.told) (c.in-Ok.ensures.number ∙ number) c.take_line.ensures.format

pub returns-in-Ok-clause-lines : goal.returns-in-Ok-clause-lines
returns-in-Ok-clause-lines g c = λ _ begin begins.
    line_after begin (g.R.Read.remaining c.args.from.now) (g.R.Read.remaining c.next_line.new.from) c.args.self.now.lines.items c.next_line.new.line.items c.take_line.new.self.lines.items begins
    c.in_ok-next_line.ensures.line c.in-Ok.ensures.lines

pub returns-then-not-is_blank-clause-fault : goal.returns-then-not-is_blank-clause-fault
returns-then-not-is_blank-clause-fault g c = λ start events has.
    let old = c.args.self.now in
    let line = c.next_line.new.line.items in
    let now = g.R.Read.remaining c.args.from.now in
    let number : c.in-Some.number ≡ old.number + 1 = c.in-Some.ensures.1 in
    line_refused start now events line old c.take_line.new.self c.in-Err.fault has c.requires (line_of now (g.R.Read.remaining c.next_line.new.from) line c.in_ok-next_line.ensures.line)
    (subst (λ (n : ℕ). RefusesBy (λ seen. line_told old.format seen n line) old.port n c.in-Err.fault) number c.in-Err.ensures.fault) c.take_line.ensures.format c.in-Err.ensures.refused c.take_line.ensures.line

pub returns-then-branch-clause-ended : goal.returns-then-branch-clause-ended
returns-then-branch-clause-ended g c = λ _.
    let line = c.next_line.new.line.items in
    let blank = ap is_blank (sym (c.deref.ensures.value ∙ c.take_line.ensures.line)) ∙ (sym c.is_blank.ensures ∙ c.if-not-is_blank.false) in
    blank_line (g.R.Read.remaining c.args.from.now) (g.R.Read.remaining c.next_line.new.from) line c.in_ok-next_line.ensures.line blank (c.in_ok-is_at_end.ensures.blank c.if-branch.true)

pub returns-clause-fault : goal.returns-clause-fault
returns-clause-fault g c = λ start events has.
    let old = c.args.self.now in
    let line = c.next_line.new.line.items in
    let now = g.R.Read.remaining c.args.from.now in
    let number : c.in-Some.number ≡ old.number + 1 = c.in-Some.ensures.1 in
    line_refused start now events line old (record c.take_line.new.self { lines = c.is_at_end.new.line }) c.in-Err.fault has c.requires (line_of now (g.R.Read.remaining c.next_line.new.from) line c.in_ok-next_line.ensures.line)
    (subst (λ (n : ℕ). RefusesBy (λ seen. line_told old.format seen n line) old.port n c.in-Err.fault) number c.in-Err.ensures.fault) c.take_line.ensures.format c.in-Err.ensures.refused c.take_line.ensures.line
