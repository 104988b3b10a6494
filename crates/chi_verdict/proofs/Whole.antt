-- a trace of which all is known, and words at the end that were not observed
use Rattle.std.proofs.Common.{◌≡◌, ℕ, ◌≤◌, cond, List, [], ◌∷◌, All, None, filter, map, refl, ap, ◌∙◌, arith}
use Rattle.std.proofs.lemmas.Bool.{le-leb}
use Rattle.std.proofs.lemmas.List.Elements.{All-head, All-tail}
use Rattle.chi_lanes.specs.Memory.{Memory}
use Rattle.chi_trace.specs.declared.operation.Operation.{Operation}
use Rattle.chi_trace.specs.Cuts.{cut, has_started, operation_at}
use Rattle.chi_trace.specs.Explains.{Explains, IsTrace, unobserved}
use Rattle.chi_trace.specs.Words.{find_word}

-- by the latest end all is known
pub cut_all : (time : ℕ) (ops : List Operation) → IsTrace ops → All (λ op. op.end ≤ time) ops → cut time ops ≡ ops
unfolding IsTrace
cut_all time [] is all = refl
cut_all time (op ∷ ops) is all =
    let ended : op.end ≤ time = All-head (λ (o : Operation). o.end ≤ time) op ops all in
    let lasting = is.0.lasting in
    let started : op.start ≤ time = omega (arith, lasting, ended) in
    ap (λ b. map (operation_at time) (cond b (op ∷ filter (has_started time) ops) (filter (has_started time) ops))) (le-leb op.start time started)
    ∙ ap (λ b. cond b op (record op { reply = None }) ∷ cut time ops) (le-leb op.end time ended)
    ∙ ap (λ rest. op ∷ rest) (cut_all time ops is.2 (All-tail (λ (o : Operation). o.end ≤ time) op ops all))

-- where no words are told at the end, none were observed
pub unseen : (opening : Memory) (ops : List Operation) (order : List ℕ) → Explains opening (find_word []) ops order → Explains opening unobserved ops order
unseen opening ops order e = record { done = e.done; once = e.once; times = e.times; answers = e.answers; ending = λ g. tt }

-- and the other way round
pub seen : (opening : Memory) (ops : List Operation) (order : List ℕ) → Explains opening unobserved ops order → Explains opening (find_word []) ops order
unfolding find_word
seen opening ops order e = record { done = e.done; once = e.once; times = e.times; answers = e.answers; ending = λ g. tt }
