-- a request more is kept, or none
use Rattle.std.proofs.Common.{◌≡◌, ℕ, ◌==◌, List, [], ◌∷◌, ◌++◌, cond, ap, ◌∙◌, rules, arith}
use Rattle.chi_events.specs.Granules.{granule_of_request}
use Rattle.chi_events.specs.Outstanding.{open_with}
use Rattle.chi_events.specs.Requests.{requests_of, start_of, starts_at}
use Rattle.chi_events.specs.declared.outstanding.Open.{Open}
use Rattle.chi_events.proofs.Kept.{more_are_kept, put_first, put_out, same_are_kept}
use Rattle.chi_events.proofs.Numbers.{latest}
use Rattle.chi_events.proofs.requests.Requests.push.Goals as goal

pub invariant_of-self-else-is_err : goal.invariant_of-self-else-is_err
invariant_of-self-else-is_err c =
    let o : Open = c.args.request in
    let s = c.self.inside in
    let first = put_first s.by_number s.starts c.self.invariant o c.put.new.self (omega (arith, c.len-count.ensures.len, c.len-count.ensures.fits)) c.len-count.ensures.valid.0
    (ap (open_with o.id) c.self.view_is ∙ c.requires) c.in_ok-put.ensures.entries in
    let added : (g : ℕ) → starts_at c.add_start.new.starts g ≡ starts_at s.starts g ++ cond (granule_of_request o == g) (start_of o ∷ []) [] = search rules in
    more_are_kept s.by_number s.starts c.self.invariant c.put.new.self c.add_start.new.starts o first added

pub returns-clause-taken : goal.returns-clause-taken
returns-clause-taken c =
    let o : Open = c.args.request in
    let s = c.self.inside in
    let first = put_first s.by_number s.starts c.self.invariant o c.put.new.self (omega (arith, c.len-count.ensures.len, c.len-count.ensures.fits)) c.len-count.ensures.valid.0
    (ap (open_with o.id) c.self.view_is ∙ c.requires) c.in_ok-put.ensures.entries in
    ap requests_of first ∙ (latest (o.id, o) s.by_number.entries ∙ ap (λ (l : List Open). l ++ o ∷ []) c.self.view_is)

pub invariant_of-self-then-is_err : goal.invariant_of-self-then-is_err
invariant_of-self-then-is_err c =
    let o : Open = c.args.request in
    let s = c.self.inside in
    let first = put_first s.by_number s.starts c.self.invariant o c.put.new.self (omega (arith, c.len-count.ensures.len, c.len-count.ensures.fits)) c.len-count.ensures.valid.0
    (ap (open_with o.id) c.self.view_is ∙ c.requires) c.in_ok-put.ensures.entries in
    let out = put_out s.by_number s.starts c.self.invariant o c.put.new.self c.pop.new.self first c.pop.ensures.entries in
    let same : (g : ℕ) → starts_at c.add_start.new.starts g ≡ starts_at s.starts g = search rules in
    same_are_kept s.by_number s.starts c.self.invariant c.pop.new.self c.add_start.new.starts out same

pub returns-then-is_err-clause-failed : goal.returns-then-is_err-clause-failed
returns-then-is_err-clause-failed c =
    let o : Open = c.args.request in
    let s = c.self.inside in
    let first = put_first s.by_number s.starts c.self.invariant o c.put.new.self (omega (arith, c.len-count.ensures.len, c.len-count.ensures.fits)) c.len-count.ensures.valid.0
    (ap (open_with o.id) c.self.view_is ∙ c.requires) c.in_ok-put.ensures.entries in
    let out = put_out s.by_number s.starts c.self.invariant o c.put.new.self c.pop.new.self first c.pop.ensures.entries in
    ap requests_of out ∙ c.self.view_is
