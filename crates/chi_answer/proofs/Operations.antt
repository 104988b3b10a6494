-- the lines of an order's operations, one more
use Rattle.std.proofs.Common.{◌≡◌, ℕ, zero, suc, ◌+◌, ◌<◌, List, [], ◌∷◌, ◌++◌, length, take, get_or, flat_map, OnOk, Result, Ok, Err, Some, refl, sym, ap, ap₂, ◌∙◌, append-nil, append_assoc, add-one, arith}
use Rattle.std.proofs.lemmas.List.{get_or_default}
use Rattle.chi_lanes.specs.After.{after, answer}
use Rattle.chi_lanes.specs.Memory.{Memory}
use Rattle.chi_lanes.specs.declared.reply.Reply.{Reply}
use Rattle.chi_trace.specs.declared.operation.Operation.{Operation}
use Rattle.chi_trace.specs.Explains.{at, nothing}
use Rattle.chi_trace.specs.declared.words.GranuleWord.{GranuleWord}
use Rattle.chi_trace.specs.Executions.{replies_in}
use Rattle.chi_trace.specs.Words.{memory_of}
use Rattle.chi_trace.specs.declared.operation.Operation.{Operation}
use Rattle.chi_reading.specs.TraceText.{RecordedValue}
use Rattle.chi_answer.specs.Lines.{operation_text}
use Rattle.chi_answer.specs.Witnesses.{AreLeft, IsWitness, memory_line, operation_lines}

-- each operation has a reply
pub length-replies_in : (ops : List Operation) (m : Memory) (order : List ℕ) → length (replies_in ops m order) ≡ length order
unfolding replies_in
length-replies_in ops m [] = refl
length-replies_in ops m (i ∷ order) = ap suc (length-replies_in ops (after (at ops i).access m) order)

-- one operation more, with its reply
pub lines_more : (r : RecordedValue) (m : Memory) (order : List ℕ) (k : ℕ) (d : Reply) → k < length order
    → operation_lines r m (take (k + 1) order)
    ≡ operation_lines r m (take k order) ++ operation_text (at r.trace.operations (get_or order k 0)) (Some (get_or (replies_in r.trace.operations m order) k d))
unfolding operation_lines replies_in
lines_more r m order k d under = rw (add-one k) (go m order k under)
  where
    go : (m : Memory) (order : List ℕ) (k : ℕ) → k < length order
        → operation_lines r m (take (suc k) order)
        ≡ operation_lines r m (take k order) ++ operation_text (at r.trace.operations (get_or order k 0)) (Some (get_or (replies_in r.trace.operations m order) k d))
    go m [] k under = absurd (omega arith)
    go m (i ∷ order) zero under = append-nil (operation_text (at r.trace.operations i) (Some (answer (at r.trace.operations i).access m)))
    go m (i ∷ order) (suc k) under =
        let rest : k < length order = omega arith in
        let line : List ℕ = operation_text (at r.trace.operations i) (Some (answer (at r.trace.operations i).access m)) in
        ap (λ (l : List ℕ). line ++ l) (go (after (at r.trace.operations i).access m) order k rest) ∙ sym (append_assoc line _ _)

-- what a line adds to those so far
pub line_added : (r : RecordedValue) (m : Memory) (order : List ℕ) (replies : List Reply) (k : ℕ) (d : Operation) (e : Reply) (start before after_it : List ℕ)
    → k < length order → get_or order k 0 < length r.trace.operations → replies ≡ replies_in r.trace.operations m order
    → before ≡ start ++ operation_lines r m (take k order)
    → after_it ≡ before ++ operation_text (get_or r.trace.operations (get_or order k 0) d) (Some (get_or replies k e))
    → after_it ≡ start ++ operation_lines r m (take (k + 1) order)
line_added r m order replies k d e start before after_it under inside same so_far added =
    added
    ∙ (ap₂ (λ (l : List ℕ) (op : Operation). l ++ operation_text op (Some (get_or replies k e))) so_far (get_or_default r.trace.operations (get_or order k 0) d nothing inside)
    ∙ (ap (λ (rs : List Reply). (start ++ operation_lines r m (take k order)) ++ operation_text (at r.trace.operations (get_or order k 0)) (Some (get_or rs k e))) same
    ∙ (append_assoc start (operation_lines r m (take k order)) _ ∙ ap (λ (l : List ℕ). start ++ l) (sym (lines_more r m order k e under)))))

-- the operations' lines and the memory's are the witness
pub witness_added : {E : Type 0} (result : Result (Unit {0}) E) (r : RecordedValue) (order : List ℕ) (words : List GranuleWord) (start middle last : List ℕ)
    → AreLeft r.trace order words → middle ≡ start ++ operation_lines r (memory_of r.trace.opening) order → OnOk result (last ≡ middle ++ flat_map memory_line words)
    → OnOk result ((witness : List ℕ) × IsWitness r order witness × (last ≡ start ++ witness))
witness_added (Ok u) r order words start middle last left lines memory =
    let whole = operation_lines r (memory_of r.trace.opening) order ++ flat_map memory_line words in
    (whole, (words, left, refl), memory ∙ (ap (λ (l : List ℕ). l ++ flat_map memory_line words) lines ∙ append_assoc start _ _))
witness_added (Err e) r order words start middle last left lines memory = tt
