-- the words are the entries of the map
use Rattle.std.proofs.Common.{◌≡◌, ℕ, List, [], ◌∷◌, ◌++◌, map, ◌^◌, ◌<◌, sym, ap, ◌∙◌, append_assoc, append-nil, arith}
use Rattle.std.proofs.lemmas.List.Elements.{All-push}
use Rattle.chi_trace.specs.declared.words.GranuleWord.{GranuleWord}
use Rattle.chi_trace.proofs.Entries.{AreInOrder-entries, told-entries, word_of_entry}
use Rattle.chi_trace.proofs.words.GranuleWords.of_map.Goals as goal

pub loop-granule-preserved : goal.loop-granule-preserved
loop-granule-preserved c =
    let items = c.loop-granule.words.items in
    let word : GranuleWord = record { granule = c.in-Some.granule.now; word = c.in-Some.word.now } in
    let pushed : c.push.new.self.items ≡ items ++ word ∷ [] = c.in_ok-push.ensures.items in
    record {
      words =
          ap (λ ws. ws ++ map word_of_entry c.next.new.self) pushed
          ∙ (append_assoc items (word ∷ []) (map word_of_entry c.next.new.self)
          ∙ (ap (λ rest. items ++ map word_of_entry rest) (sym c.in-Some.ensures.steps) ∙ c.loop-granule.invariant.words));
      each = rw pushed (All-push (λ w. w.word < 2 ^ 64) items word c.loop-granule.invariant.each (omega arith));
    }

-- all words, once none is still to come
all : (words : List GranuleWord) (rest es : List (ℕ × ℕ)) → words ++ map word_of_entry rest ≡ map word_of_entry es → rest ≡ [] → words ≡ map word_of_entry es
all words rest es is none = sym (append-nil words) ∙ (ap (λ left. words ++ map word_of_entry left) (sym none) ∙ is)

pub invariant_of-result : goal.invariant_of-result
invariant_of-result c =
    let every = all c.loop-granule.words.items c.loop-granule.granule-iterator c.args.map.now.entries c.loop-granule.invariant.words c.in-None.ensures.steps.0 in
    (rw every (AreInOrder-entries c.args.map.now.entries c.len.ensures.ordered), c.loop-granule.invariant.each)

pub returns : goal.returns
returns c g =
    let every = all c.loop-granule.words.items c.loop-granule.granule-iterator c.args.map.now.entries c.loop-granule.invariant.words c.in-None.ensures.steps.0 in
    rw every (told-entries c.args.map.now.entries g)
