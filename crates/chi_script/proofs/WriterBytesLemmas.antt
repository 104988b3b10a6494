-- lemmas on what writing calls do
use Rattle.std.proofs.Common.{◌≡◌, ℕ, ◌+◌, ◌-◌, ◌≤◌, List, [], ◌++◌, length, take, drop, Option, None, Some, Result, Ok, Err, IsErr, OnOk, refl, sym, ap, ◌∙◌, append_assoc, append-nil, take-append-drop, length-drop, subst, arith}
use Rattle.std.proofs.Math.Seq.{take-add}
use Rattle.std.proofs.lemmas.List.{take_rest}
use Rattle.std.specs.Io.KnownBytes.{Appends, Keeps}
use Rattle.chi_script.specs.WriterBytes.{AppendsFront, Puts, Moves, Writes}

-- nothing appended
pub none_taken : (a : Option (List ℕ)) → Appends a a []
none_taken None = tt
none_taken (Some xs) = sym (append-nil xs)

-- a fault that kept what was held
pub taken_kept : (a b : Option (List ℕ)) → Keeps a b → Appends a b []
taken_kept None b k = tt
taken_kept (Some xs) None k = absurd k
taken_kept (Some xs) (Some ys) k = k ∙ sym (append-nil xs)

-- one text after the other
pub taken_then : (a b c : Option (List ℕ)) (s t : List ℕ) → Appends a b s → Appends b c t → Appends a c (s ++ t)
taken_then None b c s t p q = tt
taken_then (Some x) None c s t p q = absurd p
taken_then (Some x) (Some y) None s t p q = absurd q
taken_then (Some x) (Some y) (Some z) s t p q = q ∙ ap (λ l. l ++ t) p ∙ append_assoc x s t

-- nothing moved
pub moves_none : (a : Option (List ℕ)) (held : List ℕ) → Moves a held a held []
moves_none a held = record { front = []; whole = sym (append-nil held); taken = none_taken a }

-- one text after the other
pub moves_then : (a b c : Option (List ℕ)) (held mid last s t : List ℕ) → Moves a held b mid s → Moves b mid c last t → Moves a held c last (s ++ t)
moves_then a b c held mid last s t p q = record {
  front = p.front ++ q.front;
  whole = append_assoc p.front q.front last ∙ ap (λ l. p.front ++ l) q.whole ∙ sym (append_assoc p.front mid t) ∙ ap (λ l. l ++ t) p.whole ∙ append_assoc held s t;
  taken = taken_then a b c p.front q.front p.taken q.taken;
}

-- a fault in the second text
pub cut_then : (a b c : Option (List ℕ)) (held mid s t : List ℕ) → Moves a held b mid s → AppendsFront b c (mid ++ t) → AppendsFront a c (held ++ (s ++ t))
cut_then a b c held mid s t p q = record {
  front = p.front ++ q.front;
  rest = q.rest;
  whole = append_assoc p.front q.front q.rest ∙ ap (λ l. p.front ++ l) q.whole ∙ sym (append_assoc p.front mid t) ∙ ap (λ l. l ++ t) p.whole ∙ append_assoc held s t;
  taken = taken_then a b c p.front q.front p.taken q.taken;
}

-- a prefix of a text is one of the text with more after it
pub cut_more : (a b : Option (List ℕ)) (text more : List ℕ) → AppendsFront a b text → AppendsFront a b (text ++ more)
cut_more a b text more p = record {
  front = p.front;
  rest = p.rest ++ more;
  whole = sym (append_assoc p.front p.rest more) ∙ ap (λ l. l ++ more) p.whole;
  taken = p.taken;
}

-- a fault after the first bytes
pub front_cut : (a b c : Option (List ℕ)) (bytes : List ℕ) (at : ℕ) → Appends a b (take at bytes) → Appends b c [] → AppendsFront a c bytes
front_cut a b c bytes at p q = record {
  front = take at bytes ++ [];
  rest = drop at bytes;
  whole = ap (λ l. l ++ drop at bytes) (append-nil (take at bytes)) ∙ take-append-drop at bytes;
  taken = taken_then a b c (take at bytes) [] p q;
}

-- one write more
pub taken_more : (a b c : Option (List ℕ)) (bytes : List ℕ) (at n : ℕ) → Appends a b (take at bytes) → Appends b c (take n (take (length bytes - at) (drop at bytes))) → Appends a c (take (at + n) bytes)
taken_more a b c bytes at n p q =
    let joined : take (at + n) bytes ≡ take at bytes ++ take n (take (length bytes - at) (drop at bytes)) =
    take-add at n bytes ∙ ap (λ l. take at bytes ++ take n l) (sym (take_rest bytes at)) in
    subst (Appends a c) (sym joined) (taken_then a b c _ _ p q)

-- what one write takes is within the bytes
pub within_more : (bytes : List ℕ) (at n : ℕ) → at ≤ length bytes → n ≤ length (take (length bytes - at) (drop at bytes)) → at + n ≤ length bytes
within_more bytes at n h k = omega (arith, ap length (take_rest bytes at), length-drop at bytes)

-- ---- steps of a loop: done so far, and the rest of the whole text

-- a part of the whole text is in the writer and the page, and the rest of it is still to come
pub record Leads (old : Option (List ℕ)) (held : List ℕ) (new : Option (List ℕ)) (kept rest text : List ℕ) : Type 0 where
  pub done : List ℕ
  pub joined : done ++ rest ≡ text
  pub moved : Moves old held new kept done

-- at the start
pub leads_start : (a : Option (List ℕ)) (held text : List ℕ) → Leads a held a held text text
leads_start a held text = record { done = []; joined = refl; moved = moves_none a held }

-- one step more
pub leads_next : (a b c : Option (List ℕ)) (held mid last step rest rest' text : List ℕ) → Leads a held b mid rest text → Moves b mid c last step → rest ≡ step ++ rest' → Leads a held c last rest' text
leads_next a b c held mid last step rest rest' text p q e = record {
  done = p.done ++ step;
  joined = append_assoc p.done step rest' ∙ ap (λ l. p.done ++ l) (sym e) ∙ p.joined;
  moved = moves_then a b c held mid last p.done step p.moved q;
}

-- a fault in a step
pub leads_cut : {E : Type 0} (a b c : Option (List ℕ)) (held mid kept step rest rest' text : List ℕ) (r : Result (Unit {0}) E) → IsErr r → Leads a held b mid rest text → AppendsFront b c (mid ++ step) → rest ≡ step ++ rest' → Writes a held c kept r text
leads_cut a b c held mid kept step rest rest' text (Ok u) f p q e = absurd (cc)
leads_cut a b c held mid kept step rest rest' text (Err x) f p q e =
    let text_is : held ++ (p.done ++ step) ++ rest' ≡ held ++ text =
    append_assoc held (p.done ++ step) rest' ∙ ap (λ l. held ++ l) (append_assoc p.done step rest' ∙ ap (λ l. p.done ++ l) (sym e) ∙ p.joined) in
    subst (AppendsFront a c) text_is (cut_more a c (held ++ (p.done ++ step)) rest' (cut_then a b c held mid p.done step p.moved q))

-- at the end
pub leads_end : (a b : Option (List ℕ)) (held mid rest text : List ℕ) → Leads a held b mid rest text → rest ≡ [] → Moves a held b mid text
leads_end a b held mid rest text p e =
    subst (Moves a held b mid) (sym (append-nil p.done) ∙ ap (λ l. p.done ++ l) (sym e) ∙ p.joined) p.moved

-- ---- one call after the other

-- a fault in the first call
pub cut_before : {E : Type 0} (a b : Option (List ℕ)) (held kept text more : List ℕ) (r : Result (Unit {0}) E) → IsErr r → AppendsFront a b (held ++ text) → Writes a held b kept r (text ++ more)
cut_before a b held kept text more (Ok u) f p = absurd (cc)
cut_before a b held kept text more (Err x) f p = subst (AppendsFront a b) (append_assoc held text more) (cut_more a b (held ++ text) more p)

-- what the second call does
pub writes_both : {E : Type 0} (a b c : Option (List ℕ)) (held mid last s t : List ℕ) (r : Result (Unit {0}) E) → Moves a held b mid s → Writes b mid c last r t → Writes a held c last r (s ++ t)
writes_both a b c held mid last s t (Ok u) p q = moves_then a b c held mid last s t p q
writes_both a b c held mid last s t (Err x) p q = cut_then a b c held mid s t p q

-- a text that goes past the page
pub writes_past : {E : Type 0} (a b c : Option (List ℕ)) (held mid text : List ℕ) (r : Result (Unit {0}) E) → mid ≡ [] → Moves a held b mid [] → Puts b c r text → Writes a held c mid r text
writes_past a b c held mid text (Ok u) e p q = moves_then a b c held mid mid [] text p (record {
  front = text;
  whole = ap (λ l. text ++ l) e ∙ append-nil text ∙ sym (ap (λ l. l ++ text) e);
  taken = q;
})
writes_past a b c held mid text (Err x) e p q = cut_then a b c held mid [] text p (subst (AppendsFront b c) (sym (ap (λ l. l ++ text) e)) q)

-- ---- a whole call, with a page of its own

-- a fault in the first text
pub puts_before : {E : Type 0} (a b : Option (List ℕ)) (held text more : List ℕ) (r : Result (Unit {0}) E) → IsErr r → held ≡ [] → AppendsFront a b (held ++ text) → Puts a b r (text ++ more)
puts_before a b held text more (Ok u) f e p = absurd (cc)
puts_before a b held text more (Err x) f e p = cut_more a b text more (subst (λ l. AppendsFront a b (l ++ text)) e p)

-- a fault in the second text
pub puts_after : {E : Type 0} (a b c : Option (List ℕ)) (held mid s t : List ℕ) (r : Result (Unit {0}) E) → IsErr r → held ≡ [] → Moves a held b mid s → AppendsFront b c (mid ++ t) → Puts a c r (s ++ t)
puts_after a b c held mid s t (Ok u) f e p q = absurd (cc)
puts_after a b c held mid s t (Err x) f e p q =
    subst (λ l. AppendsFront a c (l ++ (s ++ t))) e (cut_then a b c held mid s t p q)

-- what is left in the page goes last
pub puts_all : {E : Type 0} (a b c : Option (List ℕ)) (held mid last text : List ℕ) (r : Result (Unit {0}) E) → held ≡ [] → Moves a held b mid text → Writes b mid c last r [] → OnOk r (last ≡ []) → Puts a c r text
puts_all a b c held mid last text (Ok u) e p q n =
    let all : Moves a held c last (text ++ []) = moves_then a b c held mid last text [] p q in
    let whole : all.front ≡ text =
    sym (append-nil all.front) ∙ ap (λ l. all.front ++ l) (sym n) ∙ all.whole ∙ ap (λ l. l ++ (text ++ [])) e ∙ append-nil text in
    subst (Appends a c) whole all.taken
puts_all a b c held mid last text (Err x) e p q n =
    subst (AppendsFront a c) (ap (λ l. l ++ (text ++ [])) e ∙ append-nil text) (cut_then a b c held mid text [] p q)
