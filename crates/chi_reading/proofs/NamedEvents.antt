-- an object that names an event is neither a trace nor a flit
use Rattle.std.proofs.Common.{◌≡◌, ℕ, Bool, false, ◌&&◌, Option, None, Some, is_none, is_some, ap, refl}
use Rattle.std.proofs.Math.Bool.{and-false}
use Rattle.std.specs.Prelude.{Ok}
use Rattle.serde_json.specs.Data.{Data}
use Rattle.serde_json.specs.Find.{get}
use Rattle.chi_events.specs.declared.event.Event.{Event}
use Rattle.chi_reading.specs.declared.line_kind.LineKind.{LineKind}
use Rattle.chi_reading.specs.declared.member.Member.TheVariants as member
use Rattle.chi_reading.specs.EventText.{stated_event}
use Rattle.chi_reading.specs.Member.{member_name}
use Rattle.chi_reading.specs.OtherKind.{is_of_flit, is_of_trace}

named : (n : ℕ) (d : Data) (s : LineKind × Event) → stated_event n d ≡ Ok s → is_none (get (member_name member.Event) d) ≡ false
unfolding stated_event
named n d s is = by_event (get (member_name member.Event) d) refl
  where
    by_event : (o : Option Data) → get (member_name member.Event) d ≡ o → is_none o ≡ false
    by_event None none = absurd (cc)
    by_event (Some value) some = refl

pub no_other_kind : (n : ℕ) (d : Data) (s : LineKind × Event) → stated_event n d ≡ Ok s → (is_of_trace d ≡ false) × (is_of_flit d ≡ false)
no_other_kind n d s is = (
  rw (named n d s is) (and-false _),
  rw (named n d s is) (ap (λ has. has && is_none (get (member_name member.Requests) d)) (and-false _)),
)
