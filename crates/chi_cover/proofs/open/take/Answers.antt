-- what is kept of the operation's granule
use Rattle.std.proofs.Common.{◌≡◌, ℕ, ◌<◌, ◌==◌, false, cond, nat_eq, nat_le, List, [], ◌∷◌, ◌++◌, All, filter, length, Option, unwrap_or, sym, subst, ap, ◌∙◌, arith}
use Rattle.std.specs.HashMap.{get}
use Rattle.std.proofs.lemmas.List.Elements.{All-filter}
use Rattle.std.proofs.lemmas.List.Kept.{AllPairs-filter}
use Rattle.std.proofs.lemmas.List.Sums.{count_by-le-length, length-filter}
use Rattle.chi_trace.specs.declared.operation.Operation.{Operation}
use Rattle.chi_trace.specs.Explains.{at}
use Rattle.chi_trace.specs.Granules.{granule_of}
use Rattle.chi_cover.specs.declared.kept.Kept.{Kept}
use Rattle.chi_cover.specs.Open.{AreLatest, AreLatestEnds, AreUnlike, OpenOperations, are_alike, ended_after, ends_in, ends_of, places_in, places_of}
use Rattle.chi_cover.proofs.StillKept.{ends_or_none, kept_more, looked_up, open_now, places_or_none}
use Rattle.chi_cover.proofs.Traced.{read_at}
use Rattle.chi_cover.proofs.open.take.Goals as goal

-- what was kept of a granule
record IsFound (kept : OpenOperations) (granule : ℕ) (before : Kept) : Type 0 where
  ends : before.ends.items ≡ ends_of kept granule
  places : before.places.items ≡ places_of kept granule

-- it is taken out of the map
found : (ops : List Operation) (place : ℕ) (kept : OpenOperations) (o : Operation) (key : ℕ) (removed : Option Kept) (none before : Kept) → o ≡ at ops place → key ≡ granule_of o
    → removed ≡ get nat_eq kept key → none.ends.items ≡ [] → none.places.items ≡ [] → before ≡ unwrap_or removed none → IsFound kept (granule_of (at ops place)) before
found ops place kept o key removed none before read is taken no_ends no_places had =
    let own : key ≡ granule_of (at ops place) = is ∙ ap granule_of read in
    record {
      ends = ap (λ (k : Kept). k.ends.items) had ∙ (ends_or_none removed none no_ends ∙ (ap ends_in taken ∙ ap (ends_of kept) own));
      places = ap (λ (k : Kept). k.places.items) had ∙ (places_or_none removed none no_places ∙ (ap places_in taken ∙ ap (places_of kept) own));
    }

-- and what is left of it when an operation starts
record IsLeft (ops : List Operation) (place : ℕ) (kept : OpenOperations) (left : Kept) : Type 0 where
  ends : left.ends.items ≡ filter (nat_le (at ops place).start) (ends_of kept (granule_of (at ops place)))
  places : left.places.items ≡ ended_after ops (at ops place).start (places_of kept (granule_of (at ops place)))

left_of : (ops : List Operation) (place : ℕ) (kept : OpenOperations) (o : Operation) (before left : Kept) → o ≡ at ops place → IsFound kept (granule_of (at ops place)) before
    → left.ends.items ≡ filter (nat_le o.start) before.ends.items → left.places.items ≡ ended_after ops o.start before.places.items → IsLeft ops place kept left
left_of ops place kept o before left read is ends places = record {
  ends = ends ∙ (ap (λ (o : Operation). filter (nat_le o.start) before.ends.items) read ∙ ap (filter (nat_le (at ops place).start)) is.ends);
  places = places ∙ (ap (λ (o : Operation). ended_after ops o.start before.places.items) read ∙ ap (ended_after ops (at ops place).start) is.places);
}

pub left-requires : goal.left-requires
left-requires c =
    let ops = c.args.ops.now in
    let place = c.args.place in
    let kept = c.args.kept.now in
    let read = read_at ops place c.index-ops-place.result c.requires.place c.index-ops-place.is in
    let is = found ops place kept _ _ _ _ c.unwrap_or-before.result read c.granule-granule.ensures c.remove.ensures.value c.none.ensures.ends c.none.ensures.places c.unwrap_or-before.ensures in
    let inside : ℕ → Type 0 = λ j. j < length ops in
    subst (All inside) (sym is.places) (λ k d under. let first = c.requires.kept.places (granule_of (at ops place)) k d under in omega (arith, first, c.requires.place))

pub with-requires-clause-places : goal.with-requires-clause-places
with-requires-clause-places c =
    let ops = c.args.ops.now in
    let place = c.args.place in
    let kept = c.args.kept.now in
    let read = read_at ops place c.index-ops-place.result c.requires.place c.index-ops-place.is in
    let before = c.unwrap_or-before.result in
    let is = found ops place kept _ _ _ _ before read c.granule-granule.ensures c.remove.ensures.value c.none.ensures.ends c.none.ensures.places c.unwrap_or-before.ensures in
    let left = left_of ops place kept c.index-ops-place.result before c.in_ok-left.left read is c.in_ok-left.ensures.ends c.in_ok-left.ensures.places in
    let earlier : ℕ → Type 0 = λ j. j < place in
    subst (All earlier) (sym left.places)
    (All-filter _ earlier (places_of kept (granule_of (at ops place))) (c.requires.kept.places (granule_of (at ops place))))

pub with-requires-clause-unlike : goal.with-requires-clause-unlike
with-requires-clause-unlike c =
    let ops = c.args.ops.now in
    let place = c.args.place in
    let kept = c.args.kept.now in
    let read = read_at ops place c.index-ops-place.result c.requires.place c.index-ops-place.is in
    let before = c.unwrap_or-before.result in
    let is = found ops place kept _ _ _ _ before read c.granule-granule.ensures c.remove.ensures.value c.none.ensures.ends c.none.ensures.places c.unwrap_or-before.ensures in
    let left = left_of ops place kept c.index-ops-place.result before c.in_ok-left.left read is c.in_ok-left.ensures.ends c.in_ok-left.ensures.places in
    subst (AreUnlike ops) (sym left.places)
    (AllPairs-filter (λ j k. are_alike (at ops j) (at ops k) ≡ false) (λ j. nat_le (at ops place).start (at ops j).end) (places_of kept (granule_of (at ops place))) (c.requires.kept.unlike (granule_of (at ops place))))

pub with-requires-clause-few : goal.with-requires-clause-few
with-requires-clause-few c =
    let ops = c.args.ops.now in
    let place = c.args.place in
    let kept = c.args.kept.now in
    let read = read_at ops place c.index-ops-place.result c.requires.place c.index-ops-place.is in
    let before = c.unwrap_or-before.result in
    let is = found ops place kept _ _ _ _ before read c.granule-granule.ensures c.remove.ensures.value c.none.ensures.ends c.none.ensures.places c.unwrap_or-before.ensures in
    let left = left_of ops place kept c.index-ops-place.result before c.in_ok-left.left read is c.in_ok-left.ensures.ends c.in_ok-left.ensures.places in
    let open_then = nat_le (at ops place).start in
    let ends = ends_of kept (granule_of (at ops place)) in
    let long = ap length left.ends ∙ length-filter open_then ends in
    omega (arith, long, count_by-le-length open_then ends, c.requires.kept.few (granule_of (at ops place)))

pub returns-clause-still_open : goal.returns-clause-still_open
returns-clause-still_open c =
    let ops = c.args.ops.now in
    let place = c.args.place in
    let kept = c.args.kept.now in
    let read = read_at ops place c.index-ops-place.result c.requires.place c.index-ops-place.is in
    let before = c.unwrap_or-before.result in
    let is = found ops place kept _ _ _ _ before read c.granule-granule.ensures c.remove.ensures.value c.none.ensures.ends c.none.ensures.places c.unwrap_or-before.ensures in
    let left = left_of ops place kept c.index-ops-place.result before c.in_ok-left.left read is c.in_ok-left.ensures.ends c.in_ok-left.ensures.places in
    open_now ops place kept c.in_ok-left.left c.requires.traced c.requires.place c.requires.kept left.ends left.places

pub returns-clause-kept : goal.returns-clause-kept
returns-clause-kept c =
    let ops = c.args.ops.now in
    let place = c.args.place in
    let kept = c.args.kept.now in
    let read = read_at ops place c.index-ops-place.result c.requires.place c.index-ops-place.is in
    let before = c.unwrap_or-before.result in
    let is = found ops place kept _ _ _ _ before read c.granule-granule.ensures c.remove.ensures.value c.none.ensures.ends c.none.ensures.places c.unwrap_or-before.ensures in
    let left = left_of ops place kept c.index-ops-place.result before c.in_ok-left.left read is c.in_ok-left.ensures.ends c.in_ok-left.ensures.places in
    let key = c.granule-granule.result in
    let own : key ≡ granule_of (at ops place) = c.granule-granule.ensures ∙ ap granule_of read in
    let after = c.in_ok-after.after in
    let new = c.insert.new.self in
    kept_more ops place kept new after.ends.items after.places.items c.requires.kept
    (subst (λ (ends : List ℕ). AreLatestEnds (ends ++ (at ops place).end ∷ []) after.ends.items) left.ends c.in_ok-after.ensures.ends)
    c.in_ok-after.ensures.places
    (subst (λ (places : List ℕ). AreLatest ops (places ++ place ∷ []) after.places.items) left.places c.in_ok-after.ensures.latest)
    (λ granule.
    looked_up ends_in (key == granule) (get nat_eq kept granule) _ (get nat_eq new granule) after (c.remove.ensures.updates.0 granule) (c.in_ok-insert.ensures.updates.0 granule)
    ∙ ap (λ k. cond (k == granule) after.ends.items (ends_of kept granule)) own)
    (λ granule.
    looked_up places_in (key == granule) (get nat_eq kept granule) _ (get nat_eq new granule) after (c.remove.ensures.updates.0 granule) (c.in_ok-insert.ensures.updates.0 granule)
    ∙ ap (λ k. cond (k == granule) after.places.items (places_of kept granule)) own)
