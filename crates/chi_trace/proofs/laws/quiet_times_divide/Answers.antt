-- A quiet time divides what leads from a word to another.
use Rattle.chi_trace.proofs.AfterQuiet.{may_before, whole_leads}
use Rattle.chi_trace.proofs.BeforeQuiet.{parts_lead}
use Rattle.chi_trace.proofs.laws.quiet_times_divide.Goals as goal

pub returns : goal.returns
returns c earlier later w v apart lasts lasting = (
  λ whole. parts_lead earlier later w v apart whole,
  λ parts. whole_leads earlier later w v (may_before earlier later apart lasts lasting) parts.0 parts.1 parts.2,
)
