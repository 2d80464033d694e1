-- Putting or taking a permission leaves a sound state.
use Rattle.std.proofs.{Common.{◌≡◌, ℕ, ◌≤◌, ◌==◌, Bool, not, List, [], ◌∷◌, filter, Option, Some, None, true, false, subst, sym, ◌∙◌}, lemmas.Bool.ltb-false}
use Rattle.{std.{proofs.lemmas.Bool.{not-false, not-true}, specs.{Option.option_map_or, Prelude.{ℤ, option_map}}}, hub_state.proofs.Keeping.count_left}
use Rattle.hub_state.{proofs.{Keeping.{at_most, each_passes}, Keys.apart_permission}, specs.{Aftermath.{changed, put_permission}, Documents.at_pointer}}
use Rattle.hub_state.specs.{Documents.is_class_in, Edits.with_edits, Facts.{facts_of, permissions_then}, Orders.permission_total, Requests.is_grantee}
use Rattle.hub_state.specs.{Sound.{IsSound, SoundPermissions, IsGrantee}, State.{State, permission_cmp, permission_with, permissions_of, is_permission_being}}
use Rattle.hub_state.specs.{State.{is_class_of, incident_of}, declared.{TheConstants.PERMISSION_LIMIT, edit.Edit.TheVariants.TakePermission}}
use Rattle.hub_state.specs.declared.{request.{Grant.Grant, Withdraw.Withdraw}, state.{Incident.Incident, Permission.Permission, PermissionKey.PermissionKey}}
use Rattle.{iodef_tree.specs.{Pointer.pointer_tokens, Text.Tokens}, policy.specs.declared.permission.Grantee.Grantee, circle.proofs.Judged.passed}
use Rattle.circle.{proofs.Keeping.{each_put, each_left, each_weaker, pairs_left, order_put}, specs.{Sound.Each, declared.directory.Person.Person}}
use Rattle.hub_core.{proofs.{Agrees.agrees, Limits.limit_put, Named.{own, counted_is, grantee_is, of_document}}, specs.Judgement.{grounds_by, is_class_at}}
use Rattle.hub_core.specs.Refusals.{refusal_of}
use Rattle.hub_state.specs.declared.request.Request.TheVariants as ask

with_permissions : (s : State) (rows : List Permission) → IsSound s → SoundPermissions s.directory s.incidents rows → IsSound (record s { permissions = rows })
with_permissions s rows h new = record { directory = h.directory; incidents = h.incidents; gates = h.gates; recipients = h.recipients; permissions = new }

abbrev other : PermissionKey → Permission → Bool
other key x = not (is_permission_being key x)

-- removing the permissions of a key raises no count
still_few : (s : State) (key : PermissionKey) → IsSound s → Each (λ (i : Incident). permissions_of i.naming.number (filter (other key) s.permissions) ≤ PERMISSION_LIMIT) s.incidents
still_few s key h = each_weaker _ _ s.incidents (λ i e. at_most _ _ PERMISSION_LIMIT (count_left (λ (x : Permission). x.incident == i.naming.number) (other key) s.permissions) e) h.permissions.limit

-- at the path that the pointer names
granted_at : (s : State) (n : ℕ) (o : Option Tokens) (grantee : Grantee) (until : Option ℤ) → IsSound s →
    option_map_or (is_class_of s.incidents n) o false ≡ true → IsGrantee s.directory grantee →
    permissions_of n (with_edits (option_map_or (λ p. put_permission (record { incident = n; path = p; grantee = grantee }) until) o []) s).permissions ≤ PERMISSION_LIMIT →
    IsSound (with_edits (option_map_or (λ p. put_permission (record { incident = n; path = p; grantee = grantee }) until) o []) s)
granted_at s n None grantee until h class known few = h
granted_at s n (Some p) grantee until h class known few =
    let key : PermissionKey = record { incident = n; path = p; grantee = grantee } in
    let row : Permission = permission_with key until in
    let left : List Permission = filter (other key) s.permissions in
    with_permissions s _ h (record {
      rising = order_put permission_cmp row left permission_total (each_weaker _ _ left (λ x e. apart_permission row x (not-true (is_permission_being key x) e)) (each_passes (other key) s.permissions)) (pairs_left _ _ s.permissions h.permissions.rising);
      places = each_put _ permission_cmp row left class (each_left _ _ s.permissions h.permissions.places);
      grantees = each_put _ permission_cmp row left known (each_left _ _ s.permissions h.permissions.grantees);
      limit = limit_put (λ (x : Permission). x.incident) permission_cmp PERMISSION_LIMIT row left s.incidents few (still_few s key h);
    })

pub grant_kept : (s : State) (a : Person) (r : Grant) → IsSound s → refusal_of s a (ask.Grant r) ≡ None → IsSound (changed s a (ask.Grant r))
grant_kept s a r h fine =
    let n = r.incident in
    let path = r.path in
    let p = passed (grounds_by (facts_of s a (ask.Grant r)) a (ask.Grant r)) (agrees s a (ask.Grant r) ∙ fine) in
    let it = own s a n p.1.1.0 in
    let few : permissions_then s a (ask.Grant r) ≤ PERMISSION_LIMIT = ltb-false PERMISSION_LIMIT _ p.1.1.1.1.1.1.1.0 in
    granted_at s n (pointer_tokens path) r.grantee r.until h (sym (of_document is_class_in (incident_of n s) path) ∙ not-false (at_pointer (is_class_at (option_map (λ (i : Incident). i.document) (incident_of n s))) path) p.1.1.1.1.0)
    (grantee_is s.directory a.org r.grantee h.directory (not-false (is_grantee s.directory a.org r.grantee) p.1.1.1.0))
    (subst (λ m. m ≤ PERMISSION_LIMIT) (counted_is s n it.incident (λ m. permissions_of m (changed s a (ask.Grant r)).permissions) it.found) few)

withdrawn_at : (s : State) (n : ℕ) (o : Option Tokens) (grantee : Grantee) → IsSound s → IsSound (with_edits (option_map_or (λ p. TakePermission (record { incident = n; path = p; grantee = grantee }) ∷ []) o []) s)
withdrawn_at s n None grantee h = h
withdrawn_at s n (Some p) grantee h = with_permissions s _ h (record {
  rising = pairs_left _ _ s.permissions h.permissions.rising;
  places = each_left _ _ s.permissions h.permissions.places;
  grantees = each_left _ _ s.permissions h.permissions.grantees;
  limit = still_few s (record { incident = n; path = p; grantee = grantee }) h;
})

pub withdraw_kept : (s : State) (a : Person) (r : Withdraw) → IsSound s → IsSound (changed s a (ask.Withdraw r))
withdraw_kept s a r h = withdrawn_at s r.incident (pointer_tokens r.path) r.grantee h
