-- the requests of lines as those of a trace
use Rattle.std.proofs.Common.{◌≡◌, ℕ, suc, ◌+◌, ◌<◌, ◌≤◌, List, [], ◌∷◌, ◌++◌, Option, None, Some, append_assoc, append-nil, drop, get_or, length, ap, sym, ◌∙◌, arith}
use Rattle.std.proofs.Math.Seq.{drop-cons}
use Rattle.std.proofs.lemmas.List.{drop_all, map-append}
use Rattle.std.specs.List.{cons_option, enumerate_from, filter_map}
use Rattle.std.specs.Prelude.{map}
use Rattle.serde_json.specs.Data.{Data, depth, items_depth}
use Rattle.serde_json.specs.View.{items_of, view}
use Rattle.serde_json.specs.declared.value.Value.{Value}
use Rattle.chi_fields.specs.Extent.{Extent}
use Rattle.chi_lanes.specs.declared.reply.Reply.TheVariants.{Comp, CompData}
use Rattle.chi_history.specs.declared.line.Line.{Line}
use Rattle.chi_history.specs.declared.line.Line.TheVariants.{Completed, Refused, Retried}
use Rattle.chi_json.specs.Object.{with_array, with_bytes, with_number, with_request, with_text}
use Rattle.chi_engine.specs.Trace.{line_data, lines_data, taken_at, trace_data, with_reply}

-- the requests of the lines from a place on
abbrev pub left : ℕ → List Line → List Data
left place lines = filter_map (λ p. line_data p.0 p.1) (enumerate_from place (drop place lines))

left_one : (place : ℕ) (lines : List Line) (line : Line) → place < length lines
    → left place lines ≡ cons_option (line_data place (get_or lines place line)) (left (place + 1) lines)
left_one place lines line below =
    let next : suc place ≡ place + 1 = omega arith in
    ap (λ (l : List Line). filter_map (λ p. line_data p.0 p.1) (enumerate_from place l)) (drop-cons lines place line below)
    ∙ ap (λ (n : ℕ). cons_option (line_data place (get_or lines place line)) (filter_map (λ p. line_data p.0 p.1) (enumerate_from (place + 1) (drop n lines)))) next

-- the values of the first lines, and those of the lines to come, are all
abbrev pub AreToldTo : ℕ → List Line → List Value → Type 0
AreToldTo place lines values = map view values ++ left place lines ≡ lines_data lines

-- the line at a place has a request, or it has none
pub told_some : (values : List Value) (place : ℕ) (lines : List Line) (line : Line) (value : Value) → place < length lines
    → Some (view value) ≡ line_data place (get_or lines place line) → AreToldTo place lines values → AreToldTo (place + 1) lines (values ++ value ∷ [])
told_some values place lines line value below is so_far =
    ap (λ l. l ++ left (place + 1) lines) (map-append view values (value ∷ []))
    ∙ (append_assoc (map view values) (view value ∷ []) (left (place + 1) lines)
    ∙ (ap (λ (o : Option Data). map view values ++ cons_option o (left (place + 1) lines)) is ∙ (ap (λ l. map view values ++ l) (sym (left_one place lines line below)) ∙ so_far)))

pub told_none : (values : List Value) (place : ℕ) (lines : List Line) (line : Line) → place < length lines
    → None ≡ line_data place (get_or lines place line) → AreToldTo place lines values → AreToldTo (place + 1) lines values
told_none values place lines line below is so_far =
    ap (λ (o : Option Data). map view values ++ cons_option o (left (place + 1) lines)) is ∙ (ap (λ l. map view values ++ l) (sym (left_one place lines line below)) ∙ so_far)

-- after the last line there is none to come
pub all_told : (values : List Value) (place : ℕ) (lines : List Line) → length lines ≤ place → AreToldTo place lines values → map view values ≡ lines_data lines
all_told values place lines past so_far =
    sym (append-nil (map view values)) ∙ (ap (λ (l : List Line). map view values ++ filter_map (λ p. line_data p.0 p.1) (enumerate_from place l)) (sym (drop_all place lines past)) ∙ so_far)

-- a request of a trace nests once
line_depth : (time : ℕ) (line : Line) (rest : List Data) → items_depth (items_of rest) ≤ 1 → items_depth (items_of (cons_option (line_data time line) rest)) ≤ 1
unfolding line_data with_reply taken_at with_request with_number with_text with_bytes
line_depth time (Completed q Comp) rest few = omega arith
line_depth time (Completed q (CompData lanes)) rest few = omega arith
line_depth time (Refused q refusal) rest few = omega arith
line_depth time (Retried q) rest few = few

lines_depth : (place : ℕ) (lines : List Line) → items_depth (items_of (filter_map (λ p. line_data p.0 p.1) (enumerate_from place lines))) ≤ 1
lines_depth place [] = omega arith
lines_depth place (line ∷ lines) = line_depth place line (filter_map (λ p. line_data p.0 p.1) (enumerate_from (place + 1) lines)) (lines_depth (place + 1) lines)

-- a trace nests three times at most
pub trace_depth : (region : Extent) (image words : List ℕ) (lines : List Line) → depth (trace_data region image words lines) ≤ 127
unfolding trace_data with_array with_bytes with_number
trace_depth region image words lines = let deep = lines_depth 0 lines in omega arith
