-- What is known of a body and of the gates asked for if no ground holds.
use Rattle.std.proofs.Common.{◌≡◌, ℕ, suc, ◌≤◌, ◌==◌, ◌&&◌, ◌||◌, Bool, true, false, if◌then◌else◌, List, [], ◌∷◌, map, Option, Some, None, refl, sym, ap, ◌∙◌}
use Rattle.std.{proofs.{Common.arith, lemmas.{Bool.or_parts, List.Elements.{All-contains_itself, recursion_from_All}}}, specs.List.{list_any, list_all}}
use Rattle.std.specs.{List.{filter_map, cons_option}, Option.option_or, Prelude.{is_some, find, option_map, unwrap_or, Result, Ok, Err, Contains, decimal}}
use Rattle.{std.specs.Str.bytes_eq, iodef_tree.{proofs.Identified.{IsIdentified, reported}, specs.{Json.incident_id, Paths.located, Reading.reading}}}
use Rattle.{iodef_tree.specs.{Text.{Bytes, Tokens, is_root}, declared.fault.ReadFault.ReadFault}, marking.specs.Marks.first_bad_marking}
use Rattle.{circle.{proofs.Keeping.{each_weaker, none_of}, specs.{Sound.Each, declared.directory.Person.Person}}, hub_state.proofs.Keeping.all_each}
use Rattle.hub_state.specs.Documents.{Lines, documents_of, documents_in, fault_of, fault_in, ident_of, is_class_in, at_pointer, bad_marking, bad_marking_from}
use Rattle.hub_state.specs.{Documents.marking_told, Facts.{first_number, posted_in, length_as_u32}, Requests.has_joined_all, State.{State, incident_named}}
use Rattle.hub_state.specs.declared.{TheConstants.GATE_LIMIT, request.{Distribution.Distribution, WantedGate.WantedGate}, state.Incident.Incident}
use Rattle.hub_core.{proofs.{Named.all_there, Posted.{Wishes, IsFit, IsNew, StandAtClasses}}, specs.Refusals.{is_bad_gate, is_bad_pointer, is_bad_level}}
use Rattle.hub_core.specs.Refusals.{is_bad_group, are_bad_gates, stands_twice, stand_at_classes}
use Rattle.circle.specs.Sound as circle

-- ---- the documents

read_as : (r : Result (List Lines) ReadFault) → is_some (fault_of r) ≡ false → r ≡ Ok (documents_of r)
read_as (Ok docs) h = refl
read_as (Err e) h = cc

pub body_read : (body : Bytes) → is_some (fault_in body) ≡ false → reading body ≡ Ok (documents_in body)
body_read body h = read_as (reading body) h

well_marked : (k : ℕ) (docs : List Lines) → is_some (bad_marking_from k docs) ≡ false → Each (λ (doc : Lines). first_bad_marking (located doc) ≡ None) docs
well_marked k [] h = tt
well_marked k (doc ∷ docs) h = split (first_bad_marking (located doc)) refl (well_marked (suc k) docs)
  where
    split : (o : Option Tokens) → first_bad_marking (located doc) ≡ o → (is_some (bad_marking_from (suc k) docs) ≡ false → Each (λ (doc : Lines). first_bad_marking (located doc) ≡ None) docs) → Each (λ (doc : Lines). first_bad_marking (located doc) ≡ None) (doc ∷ docs)
    split None is rest = (is, rest (sym (ap (λ o. is_some (option_or (option_map (marking_told k) o) (bad_marking_from (suc k) docs))) is) ∙ h))
    split (Some p) is rest = let said = sym (ap (λ o. is_some (option_or (option_map (marking_told k) o) (bad_marking_from (suc k) docs))) is) ∙ h in cc (said)

named_is : (o : Option Bytes) → is_some o ≡ true → o ≡ Some (unwrap_or o [])
named_is None h = cc
named_is (Some x) h = refl

classes_are : (wanted : List WantedGate) (docs : List Lines) → stand_at_classes wanted docs ≡ true → Each (StandAtClasses wanted) docs
classes_are wanted docs h = each_weaker _ _ docs (λ doc e. all_each (λ (w : WantedGate). at_pointer (is_class_in doc) w.path) wanted e) (all_each (λ (doc : Lines). list_all (λ (w : WantedGate). at_pointer (is_class_in doc) w.path) wanted) docs h)

-- each document of a body without a fault and without a bad marking is accepted
pub fit : (body : Bytes) (docs : List Lines) (wanted : List WantedGate) → reading body ≡ Ok docs → is_some (bad_marking docs) ≡ false → stand_at_classes wanted docs ≡ true → Each (IsFit wanted) docs
fit body docs wanted read marked classes = go docs (recursion_from_All (Contains docs) docs (All-contains_itself docs)) (well_marked 0 docs marked) (reported body docs read).identified (classes_are wanted docs classes)
  where
    go : (ds : List Lines) → Each (Contains docs) ds → Each (λ (doc : Lines). first_bad_marking (located doc) ≡ None) ds → Each IsIdentified ds → Each (StandAtClasses wanted) ds → Each (IsFit wanted) ds
    go [] a b c e = tt
    go (d ∷ ds) a b c e = (record { accepted = record { body = body; docs = docs; read = read; among = a.0; marked = b.0 }; named = named_is (incident_id d) c.0; classes = e.0 }, go ds a.1 b.1 c.1 e.1)

-- ---- what was posted before

number_none : (o : Option ℕ) → is_some (option_map decimal o) ≡ false → o ≡ None
number_none None h = refl
number_none (Some n) h = cc

no_first : (is : List Incident) → first_number is ≡ None → is ≡ []
no_first [] h = refl
no_first (i ∷ is) h = cc

not_found : {X : Type 0} (p : X → Bool) (xs : List X) → find p xs ≡ None → Each (λ x. p x ≡ false) xs
not_found p [] h = tt
not_found p (x ∷ xs) h = split (p x) refl (not_found p xs)
  where
    split : (b : Bool) → p x ≡ b → (find p xs ≡ None → Each (λ y. p y ≡ false) xs) → Each (λ y. p y ≡ false) (x ∷ xs)
    split true is rest = let said = sym (ap (λ b. if b then Some x else find p xs) is) ∙ h in cc (said)
    split false is rest = (is, rest (sym (ap (λ b. if b then Some x else find p xs) is) ∙ h))

none_named : (s : State) (source : ℕ) (docs : List Lines) → filter_map (λ (doc : Lines). incident_named source (ident_of doc) s) docs ≡ [] → Each (IsNew source s.incidents) docs
none_named s source [] h = tt
none_named s source (doc ∷ docs) h = split (incident_named source (ident_of doc) s) refl (none_named s source docs)
  where
    split : (o : Option Incident) → incident_named source (ident_of doc) s ≡ o → (filter_map (λ (doc : Lines). incident_named source (ident_of doc) s) docs ≡ [] → Each (IsNew source s.incidents) docs) → Each (IsNew source s.incidents) (doc ∷ docs)
    split None is rest = (not_found (λ (i : Incident). i.naming.source == source && bytes_eq i.naming.ident (ident_of doc)) s.incidents is, rest (sym (ap (λ o. cons_option o (filter_map (λ (doc : Lines). incident_named source (ident_of doc) s) docs)) is) ∙ h))
    split (Some i) is rest = let said = sym (ap (λ o. cons_option o (filter_map (λ (doc : Lines). incident_named source (ident_of doc) s) docs)) is) ∙ h in cc (said)

pub not_posted : (s : State) (source : ℕ) (docs : List Lines) → is_some (option_map decimal (posted_in s source docs)) ≡ false → Each (IsNew source s.incidents) docs
not_posted s source docs h = none_named s source docs (no_first _ (number_none (posted_in s source docs) h))

-- ---- the gates

good_gates : (wanted : List WantedGate) → list_any is_bad_gate wanted ≡ false → Each (λ (w : WantedGate). at_pointer is_root w.path ≡ false) wanted
good_gates wanted h = each_weaker _ _ wanted (λ w e. (or_parts (at_pointer is_root w.path) (is_bad_level false w.level || is_bad_group w.level w.group) (or_parts (is_bad_pointer w.path) _ e).1).0) (none_of is_bad_gate wanted h)

pub wishes : (s : State) (a : Person) (d : Distribution) → circle.IsSound s.directory → are_bad_gates d.gates ≡ false → has_joined_all s a d ≡ true → length_as_u32 d.gates ≤ GATE_LIMIT → Wishes s.directory d
wishes s a d h good own few =
    let parts = or_parts (list_any is_bad_gate d.gates) (stands_twice (map (λ (w : WantedGate). w.path) d.gates)) good in
    record { there = all_there s a d h own; below = good_gates d.gates parts.0; once = parts.1; few = omega (arith, few) }
