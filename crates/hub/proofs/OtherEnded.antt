-- Other permissions that have ended, also the person's own; and those at others' reports alone.
use Rattle.std.proofs.{Common.{◌≡◌, Bool, false, List, [], ◌∷◌, refl, sym, ◌∙◌, ap, subst, ◌&&◌, ◌||◌, ◌==◌, inr}, lemmas.Bool.{and_right, or_parts}}
use Rattle.std.{proofs.lemmas.List.map-id, specs.{List.AllByRecursion, Prelude.{ℤ, None, Some, filter, map, Contains, option_map}}}
use Rattle.{policy.specs.{Permissions.{includes, is_before, holds_for}, declared.standing.Standing.Standing}, redact.proofs.Filtered.filter-both}
use Rattle.redact.{proofs.{Filtered.{filter-within, filter-map}, ToldAlike.alike-told}, specs.{Alike.IsToldAlike, Told.{is_listed, finds, excerpt_of}}}
use Rattle.{circle.specs.declared.directory.{Account.Account, Person.Person}, hub_core.specs.{Reads.case_for, Sound.IsSound, State.{State, incident_of}}}
use Rattle.{hub_core.specs.State.incident_number, hub_state.specs.declared.state.{Incident.Incident, Permission.Permission}, hub.proofs.Numbered.all_found}
use Rattle.hub.proofs.{OtherDocument.{ToldOf, page-same, view-same}, OtherLines.marked-document, OtherUnseen.known, SharedSteps.{kept-in, ended-shared}}
use Rattle.hub.{proofs.{Standings.standing_at-is, ToldSame.{TellsSame, TellsShared, reply-same, reply-alike}}, specs.Alike.{report_of, is_own}}
use Rattle.hub.specs.{Alike.{live_permissions, live_or_own_permissions, EndedPermissionsAreNotFelt, OthersEndedPermissionsAreNotFelt}, Told.standing_at}
use Rattle.hub.specs.Told.{is_served, is_found, is_addressed, view_with}

module _ (now : ℤ) (a : Account) (s : State) (permissions : List Permission) where
  abbrev p : Person
  p = a.person

  abbrev w : State
  w = record s { permissions = permissions }

  abbrev lives : Permission → Bool
  lives x = is_before now x.permission.until

  module _ (same_live : live_permissions now s ≡ live_permissions now w) where
    kept-permissions : (i : Incident) → filter (holds_for (standing_at s now p i)) (case_for s i).permissions ≡ filter (holds_for (standing_at s now p i)) (case_for w i).permissions
    kept-permissions i = one s.permissions ∙ ap (λ xs. map (λ (x : Permission). x.permission) (filter both xs)) same_live ∙ sym (one permissions)
      where
        both : Permission → Bool
        both x = x.incident == i.naming.number && holds_for (standing_at s now p i) x.permission

        no : (x : Permission) → lives x ≡ false → (x.incident == i.naming.number && holds_for (standing_at s now p i) x.permission) ≡ false
        no x ended = and_right (x.incident == i.naming.number) _ (and_right (includes (standing_at s now p i) x.permission.grantee) _ (ap (λ (st : Standing). is_before st.now x.permission.until) (standing_at-is s now p i) ∙ ended))

        one : (xs : List Permission) → filter (holds_for (standing_at s now p i)) (map (λ (x : Permission). x.permission) (filter (λ (x : Permission). x.incident == i.naming.number) xs))
            ≡ map (λ (x : Permission). x.permission) (filter (λ (x : Permission). x.incident == i.naming.number && holds_for (standing_at s now p i) x.permission) (filter lives xs))
        one xs = filter-map (holds_for (standing_at s now p i)) (λ (x : Permission). x.permission) (filter (λ (x : Permission). x.incident == i.naming.number) xs)
            ∙ ap (map (λ (x : Permission). x.permission)) (filter-both (λ (x : Permission). holds_for (standing_at s now p i) x.permission) (λ (x : Permission). x.incident == i.naming.number) xs
            ∙ filter-within (λ (x : Permission). x.incident == i.naming.number && holds_for (standing_at s now p i) x.permission) lives xs no)

    told-of : IsSound s → (i : Incident) → incident_of i.naming.number s ≡ Some i → ToldOf now p s w i i
    told-of ss i at =
        let st = standing_at s now p i in
        let there : standing_at w now p i ≡ st = standing_at-is w now p i ∙ sym (standing_at-is s now p i) in
        let doc = marked-document s i ss at in
        let h : IsToldAlike st (report_of s i i.document) (report_of w i i.document) =
        alike-told st (report_of s i i.document) (report_of w i i.document) doc doc (inr (inr (record { lines = refl; source = refl; gates = refl; permissions = kept-permissions i }))) in
        let c = case_for w i in
        record {
          number = refl;
          entry = refl;
          served = h.met None None ∙ sym (ap (is_listed i.document c) there);
          found = λ needle class. h.met (Some needle) class ∙ sym (ap (λ x. finds i.document c x needle class) there);
          addressed = sym (ap (λ (x : Standing). x.person || x.addressed) there);
          view = ap (option_map (view_with i)) (h.excerpt ∙ sym (ap (excerpt_of i.document c) there));
        }

    ended-told : IsSound s → IsSound w → Contains s.directory.accounts a → TellsSame now a s w
    ended-told ss sw there =
        let all = each s.incidents (all_found incident_number 0 s.incidents ss.incidents.numbered.0) in
        let same = sym (map-id s.incidents) in
        record {
          first = known s a ss there;
          second = known w a sw there;
          groups = refl;
          view = view-same now p s w (λ x. x) same all;
          listed = λ n. page-same now p s w (λ x. x) same all (is_served s now p) (is_served w now p) n (λ x h. h.served);
          found = λ needle class n. page-same now p s w (λ x. x) same all (λ x. is_found s now p x needle class) (λ x. is_found w now p x needle class) n (λ x h. h.found needle class);
          addressed = λ n. page-same now p s w (λ x. x) same all (λ x. is_addressed s now p x && is_served s now p x) (λ x. is_addressed w now p x && is_served w now p x) n
              (λ x h. ap (λ b. b && is_served s now p x) h.addressed ∙ ap (λ b. is_addressed w now p x && b) h.served);
        }
      where
        each : (xs : List Incident) → AllByRecursion (λ (x : Incident). incident_of x.naming.number s ≡ Some x) xs → AllByRecursion (λ x. ToldOf now p s w x x) xs
        each [] f = tt
        each (x ∷ xs) f = (told-of ss x f.0, each xs f.1)

pub ended-unfelt : EndedPermissionsAreNotFelt
ended-unfelt now a s t request ss st there h told =
    reply-same now a s t
    (subst (λ x. TellsSame now a s x) (sym h.after) (ended-told now a s t.permissions (h.permissions ∙ ap (live_permissions now) h.after) ss (subst IsSound h.after st) there))
    request told

-- ---- at others' reports alone

-- the permissions that haven't ended are the same if those and the own are
live-kept : (now : ℤ) (a : Account) (s : State) (permissions : List Permission) →
    live_or_own_permissions now a s ≡ live_or_own_permissions now a (record s { permissions = permissions }) →
    live_permissions now s ≡ live_permissions now (record s { permissions = permissions })
live-kept now a s permissions same = kept-in lives keeps keeps s.permissions permissions same gone gone
  where
    lives : Permission → Bool
    lives x = is_before now x.permission.until

    keeps : Permission → Bool
    keeps x = is_before now x.permission.until || is_own now a s x.incident

    gone : (x : Permission) → keeps x ≡ false → lives x ≡ false
    gone x e = (or_parts (is_before now x.permission.until) (is_own now a s x.incident) e).0

pub others-ended-unfelt : OthersEndedPermissionsAreNotFelt
others-ended-unfelt now a s t request ss st there h told =
    let same : live_or_own_permissions now a s ≡ live_or_own_permissions now a (record s { permissions = t.permissions }) =
    h.permissions ∙ ap (live_or_own_permissions now a) h.after in
    reply-alike now a s t
    (subst (λ x. TellsSame now a s x) (sym h.after)
    (ended-told now a s t.permissions (live-kept now a s t.permissions same) ss (subst IsSound h.after st) there))
    (subst (λ x. TellsShared now a s x) (sym h.after) (ended-shared now a s t.permissions same))
    request told
