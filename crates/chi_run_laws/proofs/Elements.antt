-- the array of a run's requests, as it is read
use Rattle.std.proofs.Common.{◌≡◌, ℕ, suc, ◌+◌, ◌-◌, ◌^◌, ◌≤◌, List, [], ◌∷◌, All, length, Result, Ok, Err, refl, sym, ap, subst, ◌∙◌, arith}
use Rattle.std.proofs.lemmas.List.Elements.{All-head, All-tail}
use Rattle.std.specs.List.{enumerate_from, filter_map}
use Rattle.std.specs.Prelude.{Some, codes}
use Rattle.serde_json.specs.Data.{Data, Items, item, object}
use Rattle.serde_json.specs.Events.{items_len}
use Rattle.serde_json.specs.View.{items_of}
use Rattle.chi_fields.specs.Access.{Access}
use Rattle.chi_fields.specs.Extent.{Extent, IsRegion}
use Rattle.chi_fields.specs.Refusal.{decision, name_of}
use Rattle.chi_fields.specs.declared.refusal.Refusal.{Refusal}
use Rattle.chi_fields.specs.declared.request.Request.{Request}
use Rattle.chi_lanes.specs.After.{after, answer}
use Rattle.chi_lanes.specs.Memory.{IsMemory, Memory}
use Rattle.chi_history.specs.declared.line.Line.{Line}
use Rattle.chi_history.specs.Lines.{serial, serial_after, serial_line}
use Rattle.chi_trace.specs.declared.operation.Operation.{Operation}
use Rattle.chi_json.specs.Object.{with_text}
use Rattle.chi_reading.specs.Requests.{Completed, completed_at, completed_of, joined, none_completed, one_accepted, one_refused}
use Rattle.chi_engine.specs.Trace.{line_data, taken_at, with_reply}
use Rattle.chi_lanes.proofs.AfterLemmas.{IsMemory-after}
use Rattle.chi_run_laws.specs.Executed.{done_at, refusals_in}
use Rattle.chi_run_laws.proofs.Accepted.{answer_read, lawful}
use Rattle.chi_run_laws.proofs.Executions.{ran, ran_accepted, ran_refused}
use Rattle.chi_run_laws.proofs.Reading.{completed_reads, refused_reads}
use Rattle.chi_script.specs.Script.{IsWritable}

-- the requests of lines, the first of which has this place
abbrev pub data_from : ℕ → List Line → List Data
data_from place lines = filter_map (λ p. line_data p.0 p.1) (enumerate_from place lines)

-- what is read of a run's requests: their operations and their refusals
pub record IsReadAs (region : Extent) (place : ℕ) (qs : List Request) (m : Memory) (elements : Items) : Type 0 where
  pub completed : Completed
  pub read : completed_of place (Some region) elements ≡ Ok completed
  pub operations : completed.operations ≡ ran region place qs m
  pub refusals : completed.refusals ≡ refusals_in (serial region qs m)

-- the requests of a run, by what is decided of the first
data_by : (region : Extent) (place : ℕ) (q : Request) (qs : List Request) (m : Memory) (r : Result Access Refusal) → decision q region ≡ r
    → data_from place (serial region (q ∷ qs) m) ≡ data_from place (serial_line r q m ∷ serial region qs (serial_after r m))
unfolding serial
data_by region place q qs m r is = ap (λ (d : Result Access Refusal). data_from place (serial_line d q m ∷ serial region qs (serial_after d m))) is

refusals_by : (region : Extent) (q : Request) (qs : List Request) (m : Memory) (r : Result Access Refusal) → decision q region ≡ r
    → refusals_in (serial region (q ∷ qs) m) ≡ refusals_in (serial_line r q m ∷ serial region qs (serial_after r m))
unfolding serial
refusals_by region q qs m r is = ap (λ (d : Result Access Refusal). refusals_in (serial_line d q m ∷ serial region qs (serial_after d m))) is

-- one request more at the front
read_more : (region : Extent) (place : ℕ) (d : Data) (ds : Items) (first rest : Completed) → completed_at place (Some region) d ≡ Ok first
    → completed_of (place + 1) (Some region) ds ≡ Ok rest → completed_of place (Some region) (item d ds) ≡ Ok (joined first rest)
unfolding completed_of
read_more region place d ds first rest one others = rw (one, others) refl

-- the requests of a run are read as its operations and its refusals
pub requests_read : (region : Extent) → IsRegion region → (qs : List Request) (place : ℕ) (m : Memory) → IsMemory m → All IsWritable qs
    → place + length qs ≤ 2 ^ 64 - 1 → IsReadAs region place qs m (items_of (data_from place (serial region qs m)))
unfolding serial completed_of line_data
requests_read region is [] place m is_m told within = record {
  completed = none_completed;
  read = refl;
  operations = refl;
  refusals = refl;
}
requests_read region is (q ∷ qs) place m is_m told within =
    by_decision (decision q region) refl (λ m' is_m'. requests_read region is qs (place + 1) m' is_m' (All-tail IsWritable q qs told) (omega arith))
  where
    first_told : IsWritable q
    first_told = All-head IsWritable q qs told

    here : place ≤ 2 ^ 64 - 1
    here = omega arith

    by_decision : (r : Result Access Refusal) → decision q region ≡ r
        → ((m' : Memory) → IsMemory m' → IsReadAs region (place + 1) qs m' (items_of (data_from (place + 1) (serial region qs m'))))
        → IsReadAs region place (q ∷ qs) m (items_of (data_from place (serial region (q ∷ qs) m)))
    by_decision (Ok a) decided later =
        let is_lawful = lawful region q a is first_told decided in
        let rest = later (after a m) (IsMemory-after a m is_m is_lawful) in
        let first : Data = object (with_reply (answer a m) (taken_at place q)) in
        let others : List Data = data_from (place + 1) (serial region qs (after a m)) in
        let all : data_from place (serial region (q ∷ qs) m) ≡ first ∷ others = data_by region place q qs m (Ok a) decided in
        let one = completed_reads region place q a m first_told here (answer_read a m is_m is_lawful) decided in
        subst (λ (ds : List Data). IsReadAs region place (q ∷ qs) m (items_of ds)) (sym all) (record {
          completed = joined (one_accepted (done_at place q (answer a m) a)) rest.completed;
          read = read_more region place first (items_of others) _ rest.completed one rest.read;
          operations = ap (λ (ops : List Operation). done_at place q (answer a m) a ∷ ops) rest.operations ∙ sym (ran_accepted region place q qs m a decided);
          refusals = rest.refusals ∙ sym (refusals_by region q qs m (Ok a) decided);
        })
    by_decision (Err refusal) decided later =
        let rest = later m is_m in
        let first : Data = object (with_text (codes "refused") (name_of refusal) (taken_at place q)) in
        let others : List Data = data_from (place + 1) (serial region qs m) in
        let all : data_from place (serial region (q ∷ qs) m) ≡ first ∷ others = data_by region place q qs m (Err refusal) decided in
        let one = refused_reads region place q refusal first_told here decided in
        subst (λ (ds : List Data). IsReadAs region place (q ∷ qs) m (items_of ds)) (sym all) (record {
          completed = joined (one_refused refusal) rest.completed;
          read = read_more region place first (items_of others) _ rest.completed one rest.read;
          operations = rest.operations ∙ sym (ran_refused region place q qs m refusal decided);
          refusals = ap (λ (rs : List Refusal). refusal ∷ rs) rest.refusals ∙ sym (refusals_by region q qs m (Err refusal) decided);
        })

-- as many elements as requests
pub count_of_data : (region : Extent) (qs : List Request) (place : ℕ) (m : Memory) → items_len (items_of (data_from place (serial region qs m))) ≡ length qs
unfolding serial line_data
count_of_data region [] place m = refl
count_of_data region (q ∷ qs) place m = by_decision (decision q region) refl (count_of_data region qs (place + 1))
  where
    by_decision : (r : Result Access Refusal) → decision q region ≡ r
        → ((m' : Memory) → items_len (items_of (data_from (place + 1) (serial region qs m'))) ≡ length qs)
        → items_len (items_of (data_from place (serial region (q ∷ qs) m))) ≡ suc (length qs)
    by_decision (Ok a) decided later = ap (λ (ds : List Data). items_len (items_of ds)) (data_by region place q qs m (Ok a) decided) ∙ ap suc (later (after a m))
    by_decision (Err refusal) decided later = ap (λ (ds : List Data). items_len (items_of ds)) (data_by region place q qs m (Err refusal) decided) ∙ ap suc (later m)
