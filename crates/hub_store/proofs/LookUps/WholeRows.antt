-- The edits that put all elements of a state make that state without its documents.
use Rattle.std.{proofs.Common.{◌≡◌, List, [], ◌∷◌, ◌++◌, map, false, refl, sym, ap, subst, ◌∙◌, append-nil, append_assoc}, specs.Cmp.IsTotalOrder}
use Rattle.std.specs.{List.AllByRecursion, Ordering.{is_lt, ordering_reverse}, declared.cmp.Ordering.{Ordering, TheVariants.Less}}
use Rattle.{sqlite_trees.{proofs.ListLemmas.{map-map, ascending-map, ascending_weaker}, specs.Tree.IsAscending}, circle.specs.Ordered.{put_by, by_number}}
use Rattle.hub_state.{proofs.Then.after_append, specs.{Bare.{bare, bare_incident}, Edits.{edited, with_edits}, Orders.incident_total, Sound.IsSound}}
use Rattle.hub_state.specs.{State.{State, empty, incident_number}, declared.{edit.Edit.{Edit, TheVariants.PutIncident}, state.Incident.Incident}}
use Rattle.hub_store.proofs.Rows.{Rising.counted, SetKinds.Kind, Sets.{orgs, persons, communities, groups, gates, recipients, permissions, in_pairs, clients}}
use Rattle.hub_store.{proofs.Rows.Sets.{memberships, connections, group_members, arrangements}, specs.inner.Adds.{org_edit, account_edit, community_edit}}
use Rattle.hub_store.specs.inner.Adds.{group_edit, client_edit, membership_edit, connection_edit, group_member_edit, arrangement_edit, naming_edit, gate_edit}
use Rattle.hub_store.specs.inner.Adds.{recipient_edit, permission_edit, account_edits, community_edits, group_edits, membership_edits, connection_edits}
use Rattle.hub_store.specs.inner.Adds.{group_member_edits, arrangement_edits, naming_edits, gate_edits, recipient_edits, permission_edits, numbered_edits}
use Rattle.hub_store.specs.inner.Adds.{pair_edits, incident_edits, all_edits}

-- ---- each element goes to the end

-- the second is not below the first
abbrev Before : {X : Type 0} → (X → X → Ordering) → X → X → Type 0
Before cmp a b = is_lt (cmp b a) ≡ false

last_put : {X : Type 0} (cmp : X → X → Ordering) (x : X) (xs : List X) → AllByRecursion (λ y. Before cmp y x) xs → put_by cmp x xs ≡ xs ++ x ∷ []
last_put cmp x [] h = refl
last_put cmp x (y ∷ ys) h = rw h.0 (ap (λ l. y ∷ l) (last_put cmp x ys h.1))

all_at : {X : Type 0} (P : X → Type 0) (xs : List X) (x : X) (ys : List X) → AllByRecursion P (xs ++ x ∷ ys) → P x
all_at P [] x ys h = h.0
all_at P (z ∷ xs) x ys h = all_at P xs x ys h.1

below_last : {X : Type 0} (R : X → X → Type 0) (xs : List X) (x : X) (ys : List X) → IsAscending R (xs ++ x ∷ ys) → AllByRecursion (λ y. R y x) xs
below_last R [] x ys up = tt
below_last R (y ∷ xs) x ys up = (all_at (R y) xs x ys up.0, below_last R xs x ys up.1)

-- the edits of a set, whose rows are put by an order into one list of the state
module _ {X : Type 0} (edit : X → Edit) (cmp : X → X → Ordering) (set : List X → State → State)
    (step : (x : X) (l : List X) (s : State) → edited (edit x) (set l s) ≡ set (put_by cmp x l) s) where
  filled_on : (done xs : List X) (s : State) → IsAscending (Before cmp) (done ++ xs)
      → with_edits (map edit xs) (set done s) ≡ set (done ++ xs) s
  filled_on done [] s up = ap (λ l. set l s) (sym (append-nil done))
  filled_on done (x ∷ xs) s up =
      ap (with_edits (map edit xs)) (step x done s ∙ ap (λ l. set l s) (last_put cmp x done (below_last (Before cmp) done x xs up)))
      ∙ (filled_on (done ++ x ∷ []) xs s (subst (IsAscending (Before cmp)) (sym (append_assoc done (x ∷ []) xs)) up)
      ∙ ap (λ l. set l s) (append_assoc done (x ∷ []) xs))

  -- a list that rises is put as it is
  filled : IsTotalOrder cmp → (xs : List X) (s : State) → IsAscending (λ a b. cmp a b ≡ Less) xs
      → with_edits (map edit xs) (set [] s) ≡ set xs s
  filled total xs s up =
      filled_on [] xs s (ascending_weaker (λ a b. cmp a b ≡ Less) (Before cmp)
      (λ a b less. ap is_lt (total.antisymm b a ∙ ap ordering_reverse less)) xs up)

then_filled : (es more : List Edit) (s t u : State) → with_edits es s ≡ t → with_edits more t ≡ u
    → with_edits (es ++ more) s ≡ u
then_filled es more s t u one two = after_append es more s ∙ (ap (with_edits more) one ∙ two)

-- ---- set after set

abbrev set_incidents : List Incident → State → State
set_incidents l s = record s { incidents = l }

-- an edit puts an element into a set
abbrev Puts : {X : Type 0} → Kind X → (X → Edit) → Type 0
Puts {X} K edit = (x : X) (l : List X) (t : State) → edited (edit x) (K.set l t) ≡ K.set (put_by K.cmp x l) t

namings_put : (is : List Incident) → map naming_edit (map (λ (i : Incident). i.naming) is) ≡ map PutIncident (map bare_incident is)
namings_put is = map-map naming_edit (λ (i : Incident). i.naming) is ∙ sym (map-map PutIncident bare_incident is)

module _ (s : State) (sound : IsSound s) where
  -- the edits of a set put it into a state where it is empty
  fill : {X : Type 0} (K : Kind X) (edit : X → Edit) → Puts K edit → (t : State) → K.set [] t ≡ t
      → with_edits (map edit (K.get s)) t ≡ K.set (K.get s) t
  fill K edit step t none =
      subst (λ u. with_edits (map edit (K.get s)) u ≡ K.set (K.get s) t) none
      (filled edit K.cmp K.set step K.total (K.get s) t (K.rises s sound))

  -- the same, and more edits after them
  fill_then : {X : Type 0} (K : Kind X) (edit : X → Edit) → Puts K edit → (t : State) → K.set [] t ≡ t → (more : List Edit) (u : State)
      → with_edits more (K.set (K.get s) t) ≡ u → with_edits (map edit (K.get s) ++ more) t ≡ u
  fill_then K edit step t none more u rest =
      then_filled (map edit (K.get s)) more t (K.set (K.get s) t) u (fill K edit step t none) rest

  numbered_whole : with_edits (numbered_edits s) empty ≡ record empty {
    directory = record empty.directory {
      orgs = s.directory.orgs;
      accounts = s.directory.accounts;
      communities = s.directory.communities;
      groups = s.directory.groups;
    };
  }
  numbered_whole =
      fill_then orgs org_edit (λ x l t. refl) _ refl (account_edits s ++ (community_edits s ++ group_edits s)) _
      (fill_then persons account_edit (λ x l t. refl) _ refl (community_edits s ++ group_edits s) _
      (fill_then communities community_edit (λ x l t. refl) _ refl (group_edits s) _ (fill groups group_edit (λ x l t. refl) _ refl)))

  pairs_whole : with_edits (pair_edits s) (with_edits (numbered_edits s) empty) ≡ record empty { directory = s.directory }
  pairs_whole =
      let after_connections = group_member_edits s ++ arrangement_edits s in
      ap (with_edits (pair_edits s)) numbered_whole
      ∙ fill_then (in_pairs clients) client_edit (λ x l t. refl) _ refl (membership_edits s ++ (connection_edits s ++ after_connections)) _
      (fill_then (in_pairs memberships) membership_edit (λ x l t. refl) _ refl (connection_edits s ++ after_connections) _
      (fill_then (in_pairs connections) connection_edit (λ x l t. refl) _ refl after_connections _
      (fill_then (in_pairs group_members) group_member_edit (λ x l t. refl) _ refl (arrangement_edits s) _
      (fill (in_pairs arrangements) arrangement_edit (λ x l t. refl) _ refl))))

  incidents_whole : with_edits (incident_edits s) (record empty { directory = s.directory }) ≡ bare s
  incidents_whole =
      let start : State = record empty { directory = s.directory } in
      let bares = map bare_incident s.incidents in
      then_filled (naming_edits s) (gate_edits s ++ (recipient_edits s ++ permission_edits s)) start (set_incidents bares start) _
      (ap (λ es. with_edits es start) (namings_put s.incidents)
      ∙ filled PutIncident (by_number incident_number) set_incidents (λ x l t. refl) incident_total bares start
      (ascending-map _ bare_incident s.incidents (counted incident_number 0 s.incidents sound.incidents.numbered.0)))
      (fill_then gates gate_edit (λ x l t. refl) _ refl (recipient_edits s ++ permission_edits s) _
      (fill_then recipients recipient_edit (λ x l t. refl) _ refl (permission_edits s) _
      (fill permissions permission_edit (λ x l t. refl) _ refl)))

-- ---- all of them

pub whole_rows : (s : State) → IsSound s → with_edits (all_edits s) empty ≡ bare s
whole_rows s sound =
    after_append (numbered_edits s) (pair_edits s ++ incident_edits s) empty
    ∙ (after_append (pair_edits s) (incident_edits s) (with_edits (numbered_edits s) empty)
    ∙ (ap (with_edits (incident_edits s)) (pairs_whole s sound) ∙ incidents_whole s sound))
