-- the next event of the last line, or of a line that is read
use Rattle.std.proofs.Common.{◌∙◌, ap, IfErr, IfSome, List, ℕ, Option, Result, inl, refl, subst, sym}
use Rattle.chi_events.specs.declared.event.Event.{Event}
use Rattle.chi_watch_text.specs.Reading.{FailsNext, HasGivenAll, HasGivenOf, IsAtRefused, IsReadingFault}
use Rattle.chi_watch_text.specs.declared.fault.LinesFault.{LinesFault}
use Rattle.chi_watch_text.specs.declared.line_format.LineFormat.{LineFormat}
use Rattle.chi_watch_text.specs.declared.reading.Reading.{Reading}
use Rattle.chi_watch_text.proofs.Readings.{all_given, nothing_read, one_given_of, same_given}
use Rattle.chi_watch_text.proofs.Told.{passed_on}
use Rattle.chi_watch_text.proofs.reading.Reading.next_event.Goals as goal

pub loop-init : goal.loop-init
loop-init g c = record {
  given = λ start events has. same_given start (g.R.Read.remaining c.args.from.now) events c.args.self.now _ refl refl refl refl refl has;
  lines = nothing_read (g.R.Read.remaining c.args.from.now) c.clear.new.self.items c.clear.ensures.items;
  format = refl;
  whole = inl refl;
}

pub returns-in-Some-clause-gives : goal.returns-in-Some-clause-gives
returns-in-Some-clause-gives g c = λ start events has.
    one_given_of start (g.R.Read.remaining c.loop.from) events c.loop.self c.give.new.self c.in-Some.event (c.loop.invariant.given start events has) c.in-Some.ensures.given
    c.give.ensures.others.0 c.give.ensures.others.1 c.give.ensures.others.2 c.give.ensures.others.3

pub returns-in_err-read_line-clause-fault : goal.returns-in_err-read_line-clause-fault
returns-in_err-read_line-clause-fault g c =
    let old = c.args.self.now in
    let f = c.in_err-read_line.field-0.0 in
    let now = g.R.Read.remaining c.loop.from in
    let same = c.give.ensures.unchanged c.in_default.is in
    passed_on c.from_residual.result f (λ (r : Result (Option Event) LinesFault). IfErr r (λ x. (start : Option (List ℕ)) → FailsNext start old (g.R.Read.remaining c.args.from.now) c.read_line.new.self x)) c.from_residual.ensures.1
    (λ start events has. subst (λ (k : LineFormat). IfSome start (λ text. IsReadingFault k text events f × IsAtRefused text events c.read_line.new.self f)) (c.give.ensures.others.0 ∙ c.loop.invariant.format)
    (c.in_err-read_line.ensures.fault start events (subst (λ (r : Reading). HasGivenOf start events r now) (sym same) (c.loop.invariant.given start events has))))

pub returns-then-not-branch-clause-gives : goal.returns-then-not-branch-clause-gives
returns-then-not-branch-clause-gives g c = λ start events has.
    let now = g.R.Read.remaining c.loop.from in
    let same = c.give.ensures.unchanged c.in_default.is in
    let none = ap (λ (r : Reading). r.pending.items) same ∙ c.give.ensures.none c.in_default.is in
    subst (λ (k : LineFormat). IfSome start (λ text. HasGivenAll k text events c.read_line.new.self)) (c.give.ensures.others.0 ∙ c.loop.invariant.format)
    (all_given start now events c.give.new.self c.read_line.new.self (subst (λ (r : Reading). HasGivenOf start events r now) (sym same) (c.loop.invariant.given start events has)) none
    (c.in_ok-read_line.ensures.ended c.if-not-branch.true) (c.in_ok-read_line.ensures.same c.if-not-branch.true))
