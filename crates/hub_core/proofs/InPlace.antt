-- A permission that replaces another meets no limit.
use Rattle.std.proofs.Common.{◌≡◌, ℕ, ◌≤◌, ◌==◌, Bool, true, false, not, List, [], filter, Option, Some, None, if◌then◌else◌, refl, arith}
use Rattle.std.{proofs.lemmas.Bool.{and_parts, eq-eqb, false≢true}, specs.{Option.option_map_or, Prelude.{ℤ, is_some}}}
use Rattle.{iodef_tree.specs.{Pointer.pointer_tokens, Text.Tokens}, policy.specs.declared.permission.Grantee.Grantee, hub_state.proofs.Bounded.few_permissions}
use Rattle.hub_state.{proofs.Keeping.{count_fewer, count_more}, specs.{Aftermath.{changed, put_permission}, Edits.with_edits, Sound.IsSound, State.State}}
use Rattle.hub_state.specs.State.{has_permission, incident_of, is_permission_being, permission_cmp, permission_with, permissions_of}
use Rattle.hub_state.specs.declared.{TheConstants.PERMISSION_LIMIT, state.{Permission.Permission, PermissionKey.PermissionKey}}
use Rattle.hub_core.specs.Laws.{GrantsInPlaceMeetNoLimit}
use Rattle.hub_state.specs.declared.request.Request.TheVariants as ask

in_place : (s : State) (n : ℕ) (o : Option Tokens) (grantee : Grantee) (until : Option ℤ) → IsSound s → option_map_or (λ p. has_permission (record { incident = n; path = p; grantee = grantee }) s) o false ≡ true →
    permissions_of n (with_edits (option_map_or (λ p. put_permission (record { incident = n; path = p; grantee = grantee }) until) o []) s).permissions ≤ PERMISSION_LIMIT
in_place s n None grantee until sound there = absurd (false≢true there)
in_place s n (Some p) grantee until sound there =
    let key : PermissionKey = record { incident = n; path = p; grantee = grantee } in
    let left : List Permission = filter (λ (x : Permission). not (is_permission_being key x)) s.permissions in
    let more = count_more (λ (x : Permission). x.incident == n) permission_cmp (permission_with key until) left (eq-eqb n n refl) in
    let fewer = count_fewer (λ (x : Permission). x.incident == n) (is_permission_being key) s.permissions there
    (λ x is. (and_parts (x.incident == n) _ is).0) in
    let few = few_permissions s n sound in
    omega arith

pub grants_in_place_meet_no_limit : GrantsInPlaceMeetNoLimit
grants_in_place_meet_no_limit s a r sound there = by_case (is_some (incident_of r.incident s))
  where
    by_case : (b : Bool) → (if b then permissions_of r.incident (changed s a (ask.Grant r)).permissions else 0) ≤ PERMISSION_LIMIT
    by_case true = in_place s r.incident (pointer_tokens r.path) r.grantee r.until sound there
    by_case false = omega arith
