-- one request more is listed, and all of the first 16 are
use Rattle.std.proofs.Common.{◌≡◌, ◌∙◌, ◌+◌, ◌++◌, ◌∷◌, [], List, ap, arith, map, sym, take}
use Rattle.std.proofs.lemmas.List.{map-append, take_all, take_min, take_more}
use Rattle.chi_events.specs.declared.outstanding.Open.{Open}
use Rattle.chi_watch_text.specs.Waiting.{waiting_of}
use Rattle.chi_watch_text.specs.declared.waiting.Waiting.{Waiting}
use Rattle.chi_watch_text.proofs.waiting.first_waiting.Goals as goal

pub loop-request-init : goal.loop-request-init
loop-request-init c = λ flits has. c.new-listed.ensures.items

pub loop-request-preserved : goal.loop-request-preserved
loop-request-preserved c = λ flits has.
    let items = take c.min-count.result c.args.requests.now in
    let i = c.loop-request.request-index in
    let it = c.request-item.result in
    let grown : take (i + 1) items ≡ take i items ++ it ∷ [] = take_more items i it c.loop-request-test.true ∙ ap (λ (r : Open). take i items ++ r ∷ []) (sym c.request-item.is) in
    c.in_ok-push.ensures.items
    ∙ ap (λ (l : List Waiting). l ++ c.waiting_of.result ∷ []) (c.loop-request.invariant flits has)
    ∙ ap (λ (w : Waiting). map (waiting_of flits) (take i items) ++ w ∷ []) (c.waiting_of.ensures flits has)
    ∙ sym (map-append (waiting_of flits) (take i items) (it ∷ []))
    ∙ ap (map (waiting_of flits)) (sym grown)

pub returns : goal.returns
returns c = λ flits has.
    let all = c.args.requests.now in
    let items = take c.min-count.result all in
    let first : items ≡ take 16 all = ap (λ n. take n all) c.min-count.ensures ∙ take_min 16 all in
    c.loop-request.invariant flits has
    ∙ ap (map (waiting_of flits)) (take_all c.loop-request.request-index items (omega (arith, c.loop-request-test.false)) ∙ first)
