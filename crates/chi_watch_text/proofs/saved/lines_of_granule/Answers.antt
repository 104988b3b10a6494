-- line by line what tells of the granule is saved
use Rattle.std.proofs.Common.{◌≡◌, ◌∙◌, ℕ, ◌+◌, ◌++◌, List, IfErr, Result, Ok, length, ap, eqb-true, subst, sym}
use Rattle.std.specs.BTreeSet.{contains}
use Rattle.std.specs.Io.BufRead.{drop_through, take_through}
use Rattle.std.specs.Ordering.{nat_cmp}
use Rattle.chi_points.specs.PointedPort.{nothing_seen}
use Rattle.chi_reading.specs.EventText.{event_text}
use Rattle.chi_watch_text.specs.LineTold.{event_told}
use Rattle.chi_watch_text.specs.Reading.{IsLineFault}
use Rattle.chi_watch_text.specs.Saved.{IsSavingFault, line_about, lines_about, no_number}
use Rattle.chi_watch_text.specs.declared.fault.LinesFault.{LinesFault}
use Rattle.chi_watch_text.proofs.SavedLines.{IsLeft, line_saved, none_left, none_refused, some_left}
use Rattle.chi_watch_text.proofs.Told.{passed_on}
use Rattle.chi_watch_text.proofs.saved.lines_of_granule.Goals as goal

pub returns-then-is_empty-clause-saved : goal.returns-then-is_empty-clause-saved
returns-then-is_empty-clause-saved c =
    λ lines events whole. none_left c.args.granule (contains nat_cmp c.loop-number.numbers) c.loop-number.number c.loop-number.from.now c.loop-number.saved.items _
    (eqb-true (length c.loop-number.from.now) 0 (sym c.is_empty.ensures ∙ c.if-is_empty.true)) (c.loop-number.invariant.left lines events whole)

pub returns-in_err-event-clause-fault : goal.returns-in_err-event-clause-fault
returns-in_err-event-clause-fault c =
    let rest = c.loop-number.from.now in
    let some = some_left rest c.is_empty.result c.is_empty.ensures c.if-is_empty.false in
    let read = c.in_ok-next_line.ensures.line in
    let refused = subst (λ (l : List ℕ). IsLineFault (event_told nothing_seen (event_text c.loop-number.number l)) c.loop-number.number c.in_err-event.field-0.0) (c.deref.ensures.value ∙ read.0) c.in_err-event.ensures.fault in
    passed_on c.from_residual-in_err-event.result c.in_err-event.field-0.0 (λ (r : Result _ LinesFault). IfErr r (IsSavingFault c.args.text.now)) c.from_residual-in_err-event.ensures.1
    (λ lines events whole. none_refused c.args.granule (contains nat_cmp c.loop-number.numbers) c.loop-number.number rest c.loop-number.saved.items _ c.in_err-event.field-0.0 some refused
    (c.loop-number.invariant.left lines events whole))

pub loop-number-preserved : goal.loop-number-preserved
loop-number-preserved c =
    let rest = c.loop-number.from.now in
    let g = c.args.granule in
    let some = some_left rest c.is_empty.result c.is_empty.ensures c.if-is_empty.false in
    let read = c.in_ok-next_line.ensures.line in
    let event = c.in_ok-event.event in
    let numbers = contains nat_cmp c.loop-number.numbers in
    let told : event_text c.loop-number.number (take_through 10 rest) ≡ Ok event = ap (event_text c.loop-number.number) (sym (c.deref.ensures.value ∙ read.0)) ∙ c.in_ok-event.ensures.told in
    let added = c.in_ok-add_line.ensures ∙ ap (λ (l : List ℕ). c.loop-number.saved.items ++ line_about g numbers l event.kind) (c.deref-in-loop-number.ensures.value ∙ read.0) in
    let left_is : c.next_line.new.from.now ≡ drop_through 10 rest = let both = read.1 in cc in
    let all = lines_about g no_number in
    let after = contains nat_cmp c.note_number.new.numbers in
    let new = c.add_line.new.saved.items in
    record {
      left = λ lines events whole. subst (λ (l : List ℕ). IsLeft g after (c.loop-number.number + 1) l new (all lines events)) (sym left_is)
          (line_saved g numbers after c.loop-number.number rest c.loop-number.saved.items new (all lines events) event some told added c.in_ok-note_number.ensures
          (c.loop-number.invariant.left lines events whole));
    }
