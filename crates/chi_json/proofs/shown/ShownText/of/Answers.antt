-- the first bytes of the text, and zeros after them
use Rattle.std.proofs.Common.{◌≡◌, List, ℕ, ◌++◌, drop, min, length, replicate, take, ap, ◌∙◌}
use Rattle.chi_json.proofs.ShownTexts.{kept, shown}
use Rattle.chi_json.proofs.shown.ShownText.of.Goals as goal

pub returns : goal.returns
returns c =
    let text = c.args.text.now in
    let count : c.min-count.result ≡ min (length text) 32 = c.min-count.ensures ∙ ap (λ (s : List ℕ). min (length s) 32) c.as_bytes-bytes.ensures.value in
    let copied : c.copy_from_slice.new.self ≡ take c.min-count.result text = c.copy_from_slice.ensures.after ∙ ap (take c.min-count.result) c.as_bytes-bytes.ensures.value in
    shown text _ _ (ap (λ (l : List ℕ). l ++ drop c.min-count.result (replicate 32 0)) copied ∙ kept text c.min-count.result count) (ap length c.as_bytes-bytes.ensures.value)
