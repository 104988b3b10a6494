-- an outline of an object, one member more, and the trace of a whole one
use Rattle.std.proofs.Common.{◌≡◌, ◌≢◌, ℕ, Bool, true, false, ◌&&◌, bytes_eq, true≢false, if◌then◌else◌, List, [], ◌∷◌, Option, None, Some, is_none, is_some, MatchOption, Ok, Err, refl, sym, ap, ◌∙◌, subst}
use Rattle.std.proofs.lemmas.Slice.Eq.{bytes_eq-Decides}
use Rattle.std.specs.Option.{ok_or, option_eq, option_or}
use Rattle.std.specs.Prelude.{codes}
use Rattle.serde_json.specs.Data.{Data, Items, Members, array, no_members, object, put}
use Rattle.serde_json.specs.Find.{as_array, as_object, get_member}
use Rattle.serde_json.specs.View.{members_view}
use Rattle.serde_json.proofs.Views.{get_member-put, get_member-put_other}
use Rattle.chi_json.specs.Members.{◌>>=◌}
use Rattle.chi_json.specs.Unknown.{is_known, unknown_in}
use Rattle.chi_json.specs.Values.{json_value}
use Rattle.chi_json.proofs.FlatLemmas.{unknown_in-put}
use Rattle.chi_json.specs.declared.fault.ObjectFault.TheVariants.{NotObject}
use Rattle.chi_json.specs.declared.member.MemberFault.TheVariants.{BadMember, Missing}
use Rattle.chi_reading.specs.declared.fault.TraceFault.TheVariants.{Object, OfEvents, OfFlits}
use Rattle.chi_reading.specs.declared.member.Member.TheVariants as member
use Rattle.chi_reading.specs.declared.usual_trace.Listed.{Listed}
use Rattle.chi_reading.specs.declared.usual_trace.Outline.{Outline}
use Rattle.chi_reading.specs.Mark.{without_mark}
use Rattle.chi_reading.specs.Member.{member_name, trace_members}
use Rattle.chi_reading.specs.OtherKind.{is_of_event, is_of_flit, unread_text}
use Rattle.chi_reading.specs.Outline.{IsOutlineOf}
use Rattle.chi_reading.specs.Requests.{all_completed}
use Rattle.chi_reading.specs.TraceText.{MemoryText, memory_text, object_text, trace_text}
use Rattle.chi_reading.proofs.ObjectText.{object_says}
use Rattle.chi_reading.proofs.SameMemory.{memory_same}

abbrev requests_name : List ℕ
requests_name = member_name member.Requests

-- before the first member
pub none_outlined : (o : Outline) → o.members.entries ≡ [] → o.requests ≡ None → IsOutlineOf no_members o
unfolding unknown_in
none_outlined o empty none = record { others = λ name apart. rw empty refl; requests = rw none refl; known = refl }

module _ (all : Members) (old new : Outline) (is : IsOutlineOf all old) where
  -- another member
  pub other_outlined : (name : List ℕ) (d : Data) → is_known member_name (trace_members ∷ []) name ≡ true → name ≢ requests_name
      → members_view new.members.entries ≡ put name d (members_view old.members.entries) → new.requests ≡ old.requests → IsOutlineOf (put name d all) new
  other_outlined name d may apart puts same = record {
    others = λ q other. by_name q other (bytes_eq q name) refl;
    requests =
        subst (λ v. MatchOption new.requests (v ≡ None) (λ listed. (ds : Items) × (v ≡ Some (array ds)) × (all_completed listed.region ds ≡ Ok listed.found)))
        (sym (get_member-put_other requests_name name d all (λ e. apart (sym e)))) (rw same is.requests);
    known = unknown_in-put member_name (trace_members ∷ []) name d all may is.known;
  }
    where
      by_name : (q : List ℕ) → q ≢ requests_name → (b : Bool) → bytes_eq q name ≡ b → get_member q (put name d all) ≡ get_member q (members_view new.members.entries)
      by_name q other true e =
          let here = (bytes_eq-Decides q name).0 e in
          ap (λ k. get_member k (put name d all)) here ∙ get_member-put name d all
          ∙ (sym (get_member-put name d (members_view old.members.entries)) ∙ (ap (λ k. get_member k (put name d (members_view old.members.entries))) (sym here) ∙ ap (get_member q) (sym puts)))
      by_name q other false e =
          let elsewhere = λ (h : q ≡ name). true≢false (sym ((bytes_eq-Decides q name).1 h) ∙ e) in
          get_member-put_other q name d all elsewhere ∙ (is.others q other
          ∙ (sym (get_member-put_other q name d (members_view old.members.entries) elsewhere) ∙ ap (get_member q) (sym puts)))

  -- the requests
  pub requests_outlined : (ds : Items) (listed : Listed) → new.members ≡ old.members → new.requests ≡ Some listed → all_completed listed.region ds ≡ Ok listed.found
      → IsOutlineOf (put requests_name (array ds) all) new
  unfolding is_known
  requests_outlined ds listed same some completed = record {
    others = λ q other. get_member-put_other q requests_name (array ds) all other ∙ (is.others q other ∙ ap (λ ms. get_member q (members_view ms.entries)) (sym same));
    requests = rw some (ds, get_member-put requests_name (array ds) all, completed);
    known = unknown_in-put member_name (trace_members ∷ []) requests_name (array ds) all refl is.known;
  }

never : (b : Bool) → b && false ≡ false
never true = refl
never false = refl

never_both : (a b : Bool) → a && b && false ≡ false
never_both true true = refl
never_both true false = refl
never_both false true = refl
never_both false false = refl

-- the trace of a text whose object has such an outline
module _ (text : List ℕ) (all : Members) (o : Outline) (listed : Listed) (t : MemoryText) (is : IsOutlineOf all o) (some : o.requests ≡ Some listed) where
  whole : Data
  whole = object all

  requests : (ds : Items) × (get_member requests_name all ≡ Some (array ds)) × (all_completed listed.region ds ≡ Ok listed.found)
  requests = subst (λ r. MatchOption r (get_member requests_name all ≡ None) (λ listed. (ds : Items) × (get_member requests_name all ≡ Some (array ds)) × (all_completed listed.region ds ≡ Ok listed.found))) some is.requests

  no_event : is_of_event whole ≡ false
  unfolding whole
  no_event = ap (λ v. is_some (get_member (member_name member.Event) all) && is_none v) requests.1 ∙ never (is_some (get_member (member_name member.Event) all))

  no_flit : is_of_flit whole ≡ false
  unfolding whole
  no_flit =
      ap (λ v. is_some (get_member (codes "channel") all) && is_none (get_member (member_name member.Event) all) && is_none v) requests.1
      ∙ never_both (is_some (get_member (codes "channel") all)) (is_none (get_member (member_name member.Event) all))

  pub outline_text : json_value text ≡ Some (object all) → memory_text (object (members_view o.members.entries)) ≡ Ok t → t.region ≡ listed.region
      → trace_text text ≡ Ok (record { memory = t; completed = listed.found })
  unfolding trace_text whole
  outline_text read says same =
      let memory = memory_same (object (members_view o.members.entries)) whole (λ m apart. is.others (member_name m) apart) t says in
      let are_listed = ap (λ v. ok_or v (Missing member.Requests) >>= (λ value. ok_or (as_array value) (BadMember member.Requests))) requests.1 in
      let completed = ap (λ r. all_completed r requests.0) same ∙ requests.2 in
      ap (λ v. ok_or (option_or v (json_value (without_mark text))) (unread_text text) >>= (λ d. ok_or (as_object d) (Object NotObject) >>= (λ members.
      if is_of_event d then Err OfEvents else if is_of_flit d then Err OfFlits else object_text d members))) read
      ∙ (ap (λ b. if b then Err OfEvents else if is_of_flit whole then Err OfFlits else object_text whole all) no_event
      ∙ (ap (λ b. if b then Err OfFlits else object_text whole all) no_flit
      ∙ object_says whole all requests.0 t listed.found memory are_listed is.known completed))

-- options are the same where `==` says so, if it says so only of the same values
pub same_option : {T : Type 0} (E : T → T → Bool) → ((x y : T) → E x y ≡ true → x ≡ y) → (a b : Option T) → option_eq E a b ≡ true → a ≡ b
same_option E same None None is = refl
same_option E same None (Some y) is = absurd (true≢false (sym is))
same_option E same (Some x) None is = absurd (true≢false (sym is))
same_option E same (Some x) (Some y) is = ap Some (same x y is)
