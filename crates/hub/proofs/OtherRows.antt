-- Other permissions, recipients, persons, arrangements and memberships, none of which concern a person.
use Rattle.std.proofs.Common.{◌≡◌, ◌⊎◌, Bool, true, false, List, [], ◌∷◌, refl, sym, ◌∙◌, ap, subst, ◌&&◌, ◌||◌, ◌==◌, if◌then◌else◌, inl, inr}
use Rattle.std.proofs.lemmas.{Bool.{eqb-true, eq-eqb, false≢true, true≢false, and_parts, and_left, and_right, or_parts}, List.{map-id, Elements.filter_agree}}
use Rattle.std.specs.{List.{AllByRecursion, list_any, filter_map}, Prelude.{ℤ, Option, Some, None, filter, find, map, Contains, option_map}}
use Rattle.{marking.specs.declared.label.Handling.Handling, policy.specs.{Permissions.{includes, holds_for}, declared.permission.Grantee.Grantee}}
use Rattle.{policy.specs.declared.standing.Standing.Standing, redact.proofs.{Filtered.{any-each, any-kept, filter-both, filter-within, filter-map}, InOrder.In}}
use Rattle.redact.{proofs.{InOrder.{in_contained, contains_in}, ToldAlike.alike-told}, specs.{Alike.IsToldAlike, Told.{is_listed, finds, excerpt_of}}}
use Rattle.circle.specs.{Directory.has_group_being, Reads.{group_of, communities_of, memberships_in_groups, share_community, are_connected}}
use Rattle.circle.specs.declared.directory.{Account.Account, Arrangement.Arrangement, Client.Client, GroupMember.GroupMember, Person.Person}
use Rattle.hub_core.specs.{Handlings.handling_in, Reads.{is_peer, joined, standing_for, case_for}, Sound.IsSound, State.{State, incident_of, incident_number}}
use Rattle.{hub_core.specs.State.{is_recipient_being, same_target}, hub_state.{proofs.Keeping.find_left, specs.declared.request.Target.Target}}
use Rattle.{hub_state.specs.declared.state.{Incident.Incident, Permission.Permission, Recipient.Recipient}, hub.proofs.Numbered.all_found}
use Rattle.hub.proofs.{OtherDocument.{ToldOf, page-same, view-same}, OtherLines.marked-document, OtherUnseen.known, Standings.standing_at-is}
use Rattle.hub.{proofs.ToldSame.TellsSame, specs.Alike.{report_of, is_own, includes_person, is_org_or_person, staying_permissions, staying_recipients}}
use Rattle.hub.specs.{Alike.{staying_accounts, staying_arrangements, staying_members, HasOtherRows}, Told.{standing_at, is_served, is_found, is_addressed}}
use Rattle.hub.specs.Told.{view_with}
use Rattle.policy.specs.declared.permission.Grantee.TheVariants as grantee
use Rattle.hub_state.specs.declared.request.Target.TheVariants as target

in-filter : {X : Type 0} (f : X → Bool) (xs : List X) (x : X) → f x ≡ true → In xs x → In (filter f xs) x
in-filter f [] x k h = absurd h
in-filter f (y ∷ ys) x k (inl h) = subst (λ b. In (if b then y ∷ filter f ys else filter f ys) x) (sym (ap f h ∙ k)) (inl h)
in-filter f (y ∷ ys) x k (inr h) = by_test (f y) (in-filter f ys x k h)
  where
    by_test : (b : Bool) → In (filter f ys) x → In (if b then y ∷ filter f ys else filter f ys) x
    by_test true r = inr r
    by_test false r = r

filter-in : {X : Type 0} (f : X → Bool) (xs : List X) (x : X) → In (filter f xs) x → In xs x
filter-in f [] x h = h
filter-in f (y ∷ ys) x h = by_test (f y) h (filter-in f ys x)
  where
    by_test : (b : Bool) → In (if b then y ∷ filter f ys else filter f ys) x → (In (filter f ys) x → In ys x) → (y ≡ x) ⊎ In ys x
    by_test true (inl e) ih = inl e
    by_test true (inr r) ih = inr (ih r)
    by_test false r ih = inr (ih r)

or-false : (b c : Bool) → (b || c) ≡ false → b ≡ false
or-false b c h = (or_parts b c h).0

module _ (now : ℤ) (a : Account) (s : State) (accounts : List Account) (arrangements : List Arrangement) (members : List GroupMember) (recipients : List Recipient) (permissions : List Permission) where
  abbrev p : Person
  p = a.person

  abbrev w : State
  w = record s { directory = record s.directory { accounts = accounts; arrangements = arrangements; group_members = members }; recipients = recipients; permissions = permissions }

  module _ (same_permissions : staying_permissions now a s ≡ staying_permissions now a w) (same_recipients : staying_recipients now a s ≡ staying_recipients now a w)
      (same_accounts : staying_accounts now a s.directory ≡ staying_accounts now a w.directory) (same_arrangements : staying_arrangements now a s.directory ≡ staying_arrangements now a w.directory)
      (same_members : staying_members now a s.directory ≡ staying_members now a w.directory) where
    -- ---- a standing, by the rows that may differ
    abbrev made : Incident → Bool → Bool → Bool → Option Handling → List GroupMember → Standing
    made i person org client arrangement ms = record {
      source = p.org == i.naming.source;
      person = person;
      nominated = p.nominated;
      addressed = org;
      client = client;
      community = share_community p.org i.naming.source s.directory;
      peer = is_peer p.org i.naming.source i.naming.community s.directory;
      connected = are_connected p.org i.naming.source s.directory;
      arrangement = arrangement;
      who = p.number;
      org = p.org;
      groups = map (λ (m : GroupMember). m.group) ms;
      active_groups = filter (λ n. has_group_being n true s.directory) (map (λ (m : GroupMember). m.group) ms);
      communities = communities_of p.org s.directory;
      now = now;
    }

    abbrev has_in : List Recipient → Incident → Target → Bool
    has_in rs i x = list_any (is_recipient_being i.naming.number x) rs

    abbrev client_in : List Recipient → Incident → Client → Bool
    client_in rs i c = c.client == p.org && (c.org == i.naming.source || has_in rs i (target.Org c.org))

    abbrev arranged_in : List Arrangement → Incident → Option Handling
    arranged_in xs i = option_map handling_in (option_map (λ (x : Arrangement). x.handling) (find (λ (x : Arrangement). x.source == i.naming.source && x.org == p.org) xs))

    -- a recipient that is the person or an organisation stays
    kept-recipient : (i : Incident) (x : Target) → is_org_or_person now a x ≡ true → has_in s.recipients i x ≡ has_in recipients i x
    kept-recipient i x k =
        any-kept (is_recipient_being i.naming.number x) (λ (r : Recipient). is_org_or_person now a r.target || is_own now a s r.incident) s.recipients gone
        ∙ ap (list_any (is_recipient_being i.naming.number x)) same_recipients
        ∙ sym (any-kept (is_recipient_being i.naming.number x) (λ (r : Recipient). is_org_or_person now a r.target || is_own now a s r.incident) recipients gone)
      where
        differ : (y x : Target) → is_org_or_person now a x ≡ true → is_org_or_person now a y ≡ false → same_target y x ≡ false
        differ (target.Person m) (target.Person n) k g = unequal (m == n) refl
          where
            unequal : (b : Bool) → (m == n) ≡ b → ((0 == 0) && b) ≡ false
            unequal true e = absurd (false≢true (sym g ∙ ap (λ q. q == a.person.number) (eqb-true m n e) ∙ k))
            unequal false e = refl
        differ (target.Person m) (target.Org n) k g = refl
        differ (target.Org m) x k g = absurd (true≢false g)

        gone : (r : Recipient) → (is_org_or_person now a r.target || is_own now a s r.incident) ≡ false → is_recipient_being i.naming.number x r ≡ false
        gone r g = and_right (r.incident == i.naming.number) (same_target r.target x) (differ r.target x k (or-false (is_org_or_person now a r.target) _ g))

    standing-same : (i : Incident) → standing_for s now p i ≡ standing_for w now p i
    standing-same i =
        let ms = memberships_in_groups p.org s.directory in
        let person = has_in recipients i (target.Person p.number) in
        let org = has_in recipients i (target.Org p.org) in
        let client = list_any (client_in recipients i) s.directory.clients in
        let arrangement = arranged_in arrangements i in
        ap (λ b. made i b (has_in s.recipients i (target.Org p.org)) (list_any (client_in s.recipients i) s.directory.clients) (arranged_in s.directory.arrangements i) ms) (kept-recipient i (target.Person p.number) (eq-eqb p.number p.number refl))
        ∙ ap (λ b. made i person b (list_any (client_in s.recipients i) s.directory.clients) (arranged_in s.directory.arrangements i) ms) (kept-recipient i (target.Org p.org) refl)
        ∙ ap (λ b. made i person org b (arranged_in s.directory.arrangements i) ms) (any-each (client_in s.recipients i) (client_in recipients i) s.directory.clients
        (λ c. ap (λ b. c.client == p.org && (c.org == i.naming.source || b)) (kept-recipient i (target.Org c.org) refl)))
        ∙ ap (λ o. made i person org client (option_map handling_in (option_map (λ (x : Arrangement). x.handling) o)) ms)
        (sym (find_left (λ (x : Arrangement). x.source == i.naming.source && x.org == p.org) (λ (x : Arrangement). x.org == p.org) s.directory.arrangements (λ x k. (and_parts (x.source == i.naming.source) (x.org == p.org) k).1))
        ∙ ap (find (λ (x : Arrangement). x.source == i.naming.source && x.org == p.org)) same_arrangements
        ∙ find_left (λ (x : Arrangement). x.source == i.naming.source && x.org == p.org) (λ (x : Arrangement). x.org == p.org) arrangements (λ x k. (and_parts (x.source == i.naming.source) (x.org == p.org) k).1))
        ∙ ap (made i person org client arrangement) same_members

    -- ---- permissions

    includes-stands : (i : Incident) (g : Grantee) → includes (standing_for s now p i) g ≡ includes_person now a s.directory g
    includes-stands i (grantee.Person n) = refl
    includes-stands i (grantee.Org n) = refl
    includes-stands i (grantee.Community n) = refl
    includes-stands i (grantee.Group n) = refl

    includes-both : (g : Grantee) → includes_person now a s.directory g ≡ includes_person now a w.directory g
    includes-both g = sym (includes-stands blank g) ∙ ap (λ st. includes st g) (standing-same blank) ∙ stands g
      where
        blank : Incident
        blank = record { naming = record { number = 0; source = 0; ident = []; revision = 0; community = None }; document = [] }

        stands : (g : Grantee) → includes (standing_for w now p blank) g ≡ includes_person now a w.directory g
        stands (grantee.Person n) = refl
        stands (grantee.Org n) = refl
        stands (grantee.Community n) = refl
        stands (grantee.Group n) = refl

    abbrev keeps : Permission → Bool
    keeps x = includes_person now a s.directory x.permission.grantee || is_own now a s x.incident

    kept-permissions : (i : Incident) → filter (holds_for (standing_at s now p i)) (case_for s i).permissions ≡ filter (holds_for (standing_at s now p i)) (case_for w i).permissions
    kept-permissions i = one s.permissions ∙ ap (λ xs. map (λ (x : Permission). x.permission) (filter both xs)) same ∙ sym (one permissions)
      where
        abbrev-of : Permission → Bool
        abbrev-of x = x.incident == i.naming.number

        both : Permission → Bool
        both x = x.incident == i.naming.number && holds_for (standing_at s now p i) x.permission

        includes-is : (x : Permission) → includes (standing_at s now p i) x.permission.grantee ≡ includes_person now a s.directory x.permission.grantee
        includes-is x = ap (λ st. includes st x.permission.grantee) (standing_at-is s now p i) ∙ includes-stands i x.permission.grantee

        no : (x : Permission) → keeps x ≡ false → (x.incident == i.naming.number && holds_for (standing_at s now p i) x.permission) ≡ false
        no x g = and_right (x.incident == i.naming.number) _ (and_left (includes (standing_at s now p i) x.permission.grantee) _ (includes-is x ∙ or-false (includes_person now a s.directory x.permission.grantee) _ g))

        same : filter keeps s.permissions ≡ filter keeps permissions
        same = same_permissions ∙ sym (filter_agree keeps (λ (x : Permission). includes_person now a w.directory x.permission.grantee || is_own now a s x.incident) (λ x. ap (λ b. b || is_own now a s x.incident) (includes-both x.permission.grantee)) permissions)

        one : (xs : List Permission) → filter (holds_for (standing_at s now p i)) (map (λ (x : Permission). x.permission) (filter (λ (x : Permission). x.incident == i.naming.number) xs))
            ≡ map (λ (x : Permission). x.permission) (filter (λ (x : Permission). x.incident == i.naming.number && holds_for (standing_at s now p i) x.permission) (filter keeps xs))
        one xs = filter-map (holds_for (standing_at s now p i)) (λ (x : Permission). x.permission) (filter (λ (x : Permission). x.incident == i.naming.number) xs)
            ∙ ap (map (λ (x : Permission). x.permission)) (filter-both (λ (x : Permission). holds_for (standing_at s now p i) x.permission) (λ (x : Permission). x.incident == i.naming.number) xs
            ∙ filter-within (λ (x : Permission). x.incident == i.naming.number && holds_for (standing_at s now p i) x.permission) keeps xs no)

    told-of : IsSound s → (i : Incident) → incident_of i.naming.number s ≡ Some i → ToldOf now p s w i i
    told-of ss i at =
        let st = standing_at s now p i in
        let there : standing_at w now p i ≡ st = standing_at-is w now p i ∙ sym (standing-same i) ∙ sym (standing_at-is s now p i) in
        let doc = marked-document s i ss at in
        let h : IsToldAlike st (report_of s i i.document) (report_of w i i.document) =
        alike-told st (report_of s i i.document) (report_of w i i.document) doc doc (inr (inr (record { lines = refl; source = refl; gates = refl; permissions = kept-permissions i }))) in
        let c = case_for w i in
        record {
          number = refl;
          entry = refl;
          served = h.met None None ∙ sym (ap (is_listed i.document c) there);
          found = λ needle class. h.met (Some needle) class ∙ sym (ap (λ x. finds i.document c x needle class) there);
          addressed = sym (ap (λ (x : Standing). x.person || x.addressed) there);
          view = ap (option_map (view_with i)) (h.excerpt ∙ sym (ap (excerpt_of i.document c) there));
        }

    pub rows-told : IsSound s → IsSound w → Contains s.directory.accounts a → TellsSame now a s w × Contains w.directory.accounts a
    rows-told ss sw there =
        let there' : Contains w.directory.accounts a = contains_in accounts a (filter-in (λ (b : Account). b.person.number == p.number) accounts a
        (subst (λ bs. In bs a) same_accounts (in-filter (λ (b : Account). b.person.number == p.number) s.directory.accounts a (eq-eqb p.number p.number refl) (in_contained s.directory.accounts a there)))) in
        let all = each s.incidents (all_found incident_number 0 s.incidents ss.incidents.numbered.0) in
        let same = sym (map-id s.incidents) in (
          record {
            first = known s a ss there;
            second = known w a sw there';
            groups = ap (filter_map (λ (m : GroupMember). option_map (joined m) (group_of m.group s.directory))) same_members;
            view = view-same now p s w (λ x. x) same all;
            listed = λ n. page-same now p s w (λ x. x) same all (is_served s now p) (is_served w now p) n (λ x h. h.served);
            found = λ needle class n. page-same now p s w (λ x. x) same all (λ x. is_found s now p x needle class) (λ x. is_found w now p x needle class) n (λ x h. h.found needle class);
            addressed = λ n. page-same now p s w (λ x. x) same all (λ x. is_addressed s now p x && is_served s now p x) (λ x. is_addressed w now p x && is_served w now p x) n
                (λ x h. ap (λ b. b && is_served s now p x) h.addressed ∙ ap (λ b. is_addressed w now p x && b) h.served);
          },
          there',
        )
      where
        each : (xs : List Incident) → AllByRecursion (λ (x : Incident). incident_of x.naming.number s ≡ Some x) xs → AllByRecursion (λ x. ToldOf now p s w x x) xs
        each [] f = tt
        each (x ∷ xs) f = (told-of ss x f.0, each xs f.1)

pub rows-step : (now : ℤ) (a : Account) (s t : State) → IsSound s → IsSound t → Contains s.directory.accounts a → HasOtherRows now a s t → TellsSame now a s t × Contains t.directory.accounts a
rows-step now a s t ss st there h =
    subst (λ x. TellsSame now a s x × Contains x.directory.accounts a) (sym h.after)
    (rows-told now a s t.directory.accounts t.directory.arrangements t.directory.group_members t.recipients t.permissions
    (h.permissions ∙ ap (staying_permissions now a) h.after) (h.recipients ∙ ap (staying_recipients now a) h.after)
    (h.accounts ∙ refl) (h.arrangements ∙ refl) (h.group_members ∙ refl)
    ss (subst IsSound h.after st) there)
