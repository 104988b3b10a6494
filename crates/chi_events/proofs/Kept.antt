-- how the outstanding requests are kept once one was taken, replaced or taken out
use Rattle.std.proofs.Common.{◌≡◌, ℕ, ◌-◌, ◌^◌, ◌<◌, ◌==◌, Bool, true, false, cond, not, nat_eq, List, [], ◌∷◌, ◌++◌, length, take, Some, None, refl, sym, ap, subst, ◌∙◌, arith, eq-eqb}
use Rattle.std.specs.Prelude.{filter}
use Rattle.std.specs.List.{IsDistinct}
use Rattle.std.specs.Map.{keys_of, lookup, remove_entry, set_value}
use Rattle.std.specs.Option.{option_map_or}
use Rattle.std.proofs.lemmas.List.{take_all}
use Rattle.std.proofs.lemmas.List.Elements.{All-cons}
use Rattle.lru.specs.LruCache.{LruCache, lru_cache, put_entries}
use Rattle.chi_events.specs.declared.outstanding.Open.{Open}
use Rattle.chi_events.specs.declared.starts.Start.{Start}
use Rattle.chi_events.specs.Granules.{granule_of_request}
use Rattle.chi_events.specs.Outstanding.{open_with}
use Rattle.chi_events.specs.Requests.{AreKept, Starts, requests_of, start_of, starts_among, starts_at}
use Rattle.chi_events.proofs.Numbers.{IsNumbered, found_number, latest, no_entry, numbered_left, numbered_set, others_left, removed, replaced, taken, with_number}
use Rattle.chi_events.proofs.GranuleStarts.{more, other_left, own_left, same_kept}

module _ (kept : LruCache ℕ Open) (starts : Starts) (are : AreKept kept starts) where
  abbrev with_first : Open → LruCache ℕ Open
  with_first o = lru_cache ((o.id, o) ∷ kept.entries) kept.cap

  -- what is put stands first, where its number is free
  pub put_first : (o : Open) (put : LruCache ℕ Open) → length kept.entries < 2 ^ 63 → IsDistinct nat_eq (keys_of kept.entries) → open_with o.id (requests_of kept) ≡ None
      → put ≡ lru_cache (put_entries nat_eq kept o.id o) kept.cap → put ≡ with_first o
  put_first o put few distinct free is =
      let room = are.room in
      let none = no_entry (nat_eq o.id) kept.entries (with_number o.id kept.entries are.numbered distinct ∙ free) in
      is ∙ ap (λ es. lru_cache es kept.cap)
      (ap (λ found. option_map_or (λ e. (e.0, o) ∷ remove_entry (nat_eq o.id) kept.entries) found ((o.id, o) ∷ take (kept.cap - 1) kept.entries)) none
      ∙ ap (λ l. (o.id, o) ∷ l) (take_all (kept.cap - 1) kept.entries (omega (arith, few, room))))

  -- and is taken out again
  pub put_out : (o : Open) (put out : LruCache ℕ Open) → put ≡ with_first o → out ≡ lru_cache (remove_entry (nat_eq o.id) put.entries) put.cap → out ≡ kept
  put_out o put out first is =
      is ∙ (ap (λ (n : LruCache ℕ Open). lru_cache (remove_entry (nat_eq o.id) n.entries) n.cap) first
      ∙ ap (λ t. lru_cache (cond t kept.entries ((o.id, o) ∷ remove_entry (nat_eq o.id) kept.entries)) kept.cap) (eq-eqb o.id o.id refl))

  module _ (new : LruCache ℕ Open) (after : Starts) where
    -- nothing changes
    pub same_are_kept : new ≡ kept → ((g : ℕ) → starts_at after g ≡ starts_at starts g) → AreKept new after
    same_are_kept is same = subst (λ n. AreKept n after) (sym is) (record { numbered = are.numbered; room = are.room; granules = λ g. same g ∙ are.granules g })

    -- one more is taken
    pub more_are_kept : (o : Open) → new ≡ lru_cache ((o.id, o) ∷ kept.entries) kept.cap
        → ((g : ℕ) → starts_at after g ≡ starts_at starts g ++ cond (granule_of_request o == g) (start_of o ∷ []) []) → AreKept new after
    more_are_kept o is added = subst (λ n. AreKept n after) (sym is) (record {
      numbered = All-cons IsNumbered (o.id, o) kept.entries refl are.numbered;
      room = are.room;
      granules = λ g. added g ∙ (ap (λ l. l ++ cond (granule_of_request o == g) (start_of o ∷ []) []) (are.granules g)
          ∙ (sym (more g (requests_of kept) o) ∙ ap (starts_among g) (sym (latest (o.id, o) kept.entries))));
    })

    -- one is replaced by itself as it is now
    pub replaced_are_kept : (now o : Open) → lookup (nat_eq now.id) kept.entries ≡ Some o → granule_of_request now ≡ granule_of_request o → now.start ≡ o.start
        → new ≡ lru_cache (set_value (nat_eq now.id) kept.entries now) kept.cap → ((g : ℕ) → starts_at after g ≡ starts_at starts g) → AreKept new after
    replaced_are_kept now o found granule start is same = subst (λ n. AreKept n after) (sym is) (record {
      numbered = numbered_set now.id now kept.entries refl are.numbered;
      room = are.room;
      granules = λ g. same g ∙ (are.granules g ∙ sym (same_kept g o now (requests_of kept) (taken (set_value (nat_eq now.id) kept.entries now))
          (replaced (nat_eq now.id) now o kept.entries found) granule same_start));
    })
      where
        same_start : start_of now ≡ start_of o
        same_start = let number = found_number now.id o kept.entries are.numbered found in cc

    -- one is taken out
    pub left_are_kept : (id : ℕ) (o : Open) → lookup (nat_eq id) kept.entries ≡ Some o → IsDistinct nat_eq (keys_of kept.entries)
        → new ≡ lru_cache (remove_entry (nat_eq id) kept.entries) kept.cap
        → ((g : ℕ) → starts_at after g ≡ cond (granule_of_request o == g) (filter (λ start. not (start.id == id)) (starts_at starts g)) (starts_at starts g)) → AreKept new after
    left_are_kept id o found distinct is out = subst (λ n. AreKept n after) (sym is) (record {
      numbered = numbered_left (nat_eq id) kept.entries are.numbered;
      room = are.room;
      granules = λ g. out g ∙ by_granule g (granule_of_request o == g) refl;
    })
      where
        left : List Open
        left = taken (remove_entry (nat_eq id) kept.entries)

        by_granule : (g : ℕ) (t : Bool) → (granule_of_request o == g) ≡ t → cond t (filter (λ (start : Start). not (start.id == id)) (starts_at starts g)) (starts_at starts g) ≡ starts_among g left
        by_granule g true own =
            ap (filter (λ (start : Start). not (start.id == id))) (are.granules g)
            ∙ (sym (own_left g id (requests_of kept)) ∙ ap (starts_among g) (sym (others_left id kept.entries are.numbered distinct)))
        by_granule g false other = are.granules g ∙ sym (other_left g o (requests_of kept) left (removed (nat_eq id) o kept.entries found) other)
