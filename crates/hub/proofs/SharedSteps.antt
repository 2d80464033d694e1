-- Over each step between worlds that are alike, a person's communities and how its own reports are shared stay.
use Rattle.std.proofs.{Common.{◌≡◌, ℕ, Bool, true, false, not, List, [], ◌∷◌, refl, sym, ◌∙◌, ap, subst, ◌||◌, ◌==◌, if◌then◌else◌, cond}, lemmas.Bool.eqb-true}
use Rattle.std.{proofs.lemmas.Bool.{true≢false, false_from_ne_true, cond-false, or_parts, not-false}, specs.{Option.option_map_or, Prelude.{ℤ, Option, Some}}}
use Rattle.{std.specs.Prelude.{filter, find, map, option_map}, iodef_tree.specs.Text.is_prefix, policy.specs.Permissions.is_before}
use Rattle.{circle.specs.declared.directory.Account.Account, hub_core.specs.{Documents.Lines, Reads.{its_gates, its_permissions, joined_communities}}}
use Rattle.{hub_core.specs.State.{State, incident_of}, hub_state.{proofs.Keeping.{not_both, turned, find_left}, specs.declared.state.Gate.Gate}}
use Rattle.{hub_state.specs.declared.state.{Incident.Incident, Permission.Permission, Recipient.Recipient}, redact.proofs.Filtered.filter-within}
use Rattle.hub.proofs.{OtherDocument.{other_of, redone}, OtherLines.{find-other, of-others}, Shared.{rows-shared, foreign-shared, own-shared}}
use Rattle.hub.{proofs.ToldSame.TellsShared, specs.Alike.{with_document, is_own, is_org_or_person, includes_person, staying_recipients, staying_permissions}}
use Rattle.hub.specs.{Alike.{live_or_own_permissions, HasOtherPlainLines, HasOtherUnseenIncident, HasOtherRows}, Serving.due_to}
use Rattle.hub.specs.inner.Exchanged.{HasExchangedClass}
use Rattle.hub_state.specs.declared.request.Request.TheVariants as ask

-- Rows that pass a test are the same if the rows that pass wider tests are.
pub kept-in : {X : Type 0} (of keeps keeps' : X → Bool) (xs ys : List X) → filter keeps xs ≡ filter keeps' ys →
    ((x : X) → keeps x ≡ false → of x ≡ false) → ((x : X) → keeps' x ≡ false → of x ≡ false) → filter of xs ≡ filter of ys
kept-in of keeps keeps' xs ys h gone gone' = filter-within of keeps xs gone ∙ ap (filter of) h ∙ sym (filter-within of keeps' ys gone')

-- the rows of an own incident are the same if the rows are that pass a test or are own
own-kept : {X : Type 0} (number : X → ℕ) (own : ℕ → Bool) (test test' : X → Bool) (n : ℕ) (xs ys : List X) →
    own n ≡ true → filter (λ x. test x || own (number x)) xs ≡ filter (λ x. test' x || own (number x)) ys →
    filter (λ x. number x == n) xs ≡ filter (λ x. number x == n) ys
own-kept {X} number own test test' n xs ys k h =
    kept-in (λ x. number x == n) (λ x. test x || own (number x)) (λ x. test' x || own (number x)) xs ys h (gone test) (gone test')
  where
    gone : (test : X → Bool) (x : X) → (test x || own (number x)) ≡ false → (number x == n) ≡ false
    gone test x e = false_from_ne_true (number x == n) (λ is.
        true≢false (sym k ∙ ap own (sym (eqb-true (number x) n is)) ∙ (or_parts (test x) (own (number x)) e).1))

-- ---- another document

abbrev of_number : ℕ → Incident → Bool
of_number q i = i.naming.number == q

-- another incident is found as before
find-apart : (n q : ℕ) (doc : Lines) (xs : List Incident) → (q == n) ≡ false → find (of_number q) (map (other_of n doc) xs) ≡ find (of_number q) xs
find-apart n q doc [] k = refl
find-apart n q doc (x ∷ xs) k = by_test (x.naming.number == n) refl (find-apart n q doc xs k)
  where
    by_test : (b : Bool) → (x.naming.number == n) ≡ b → find (of_number q) (map (other_of n doc) xs) ≡ find (of_number q) xs →
        (let y = (if b then redone doc x else x) in cond (y.naming.number == q) (Some y) (find (of_number q) (map (other_of n doc) xs)))
        ≡ cond (x.naming.number == q) (Some x) (find (of_number q) xs)
    by_test true is ih =
        let apart : (x.naming.number == q) ≡ false = not_both x.naming.number n q (turned q n k) is in
        cond-false (x.naming.number == q) _ _ apart ∙ ih ∙ sym (cond-false (x.naming.number == q) _ _ apart)
    by_test false is ih = ap (cond (x.naming.number == q) (Some x)) ih

module _ (now : ℤ) (a : Account) (s : State) (i : Incident) (doc : Lines) (at : incident_of i.naming.number s ≡ Some i)
    (foreign : is_own now a s i.naming.number ≡ false) (gates : List Gate) (permissions : List Permission) where
  abbrev u : State
  u = record s { incidents = with_document i.naming.number doc s.incidents; gates = gates; permissions = permissions }

  abbrev ours : Option Incident → Bool
  ours o = option_map_or (λ (x : Incident). x.naming.source == a.person.org) o false

  foreign-there : is_own now a u i.naming.number ≡ false
  foreign-there = ap ours (find-other i.naming.number doc s.incidents ∙ ap (option_map (redone doc)) at) ∙ sym (ap ours at) ∙ foreign

  exchanged-shared : ((q : ℕ) → (q == i.naming.number) ≡ false →
      (its_gates q s.gates ≡ its_gates q gates) × (its_permissions q s.permissions ≡ its_permissions q permissions)) → TellsShared now a s u
  exchanged-shared others = record { communities = refl; sharing = λ q. by_number q (q == i.naming.number) refl }
    where
      by_number : (q : ℕ) (b : Bool) → (q == i.naming.number) ≡ b → due_to s now a.person (ask.Sharing q) ≡ due_to u now a.person (ask.Sharing q)
      by_number q true k =
          subst (λ m. due_to s now a.person (ask.Sharing m) ≡ due_to u now a.person (ask.Sharing m)) (sym (eqb-true q i.naming.number k))
          (foreign-shared now a.person s u i.naming.number foreign foreign-there)
      by_number q false k =
          let rest = others q k in
          rows-shared now a.person s u q (record {
            incident = sym (find-apart i.naming.number q doc s.incidents k);
            gates = rest.0;
            recipients = refl;
            permissions = rest.1;
          })

pub plain-shared : (now : ℤ) (a : Account) (s t : State) → HasOtherPlainLines now a s t → TellsShared now a s t
plain-shared now a s t h = subst (λ w. TellsShared now a s w) (sym h.after)
    (exchanged-shared now a s h.incident h.document h.there h.foreign s.gates s.permissions (λ q k. (refl, refl)))

pub hidden-shared : (now : ℤ) (a : Account) (s t : State) → HasExchangedClass now a s t → TellsShared now a s t
hidden-shared now a s t h = subst (λ w. TellsShared now a s w) (sym h.after)
    (exchanged-shared now a s h.incident h.document h.there h.foreign t.gates t.permissions others)
  where
    others : (q : ℕ) → (q == h.incident.naming.number) ≡ false →
        (its_gates q s.gates ≡ its_gates q t.gates) × (its_permissions q s.permissions ≡ its_permissions q t.permissions)
    others q k = (
      ap (map (λ (g : Gate). g.gate))
          (of-others (λ (g : Gate). g.incident) (λ (g : Gate). is_prefix h.path g.gate.path) h.incident.naming.number q s.gates t.gates k h.gates),
      ap (map (λ (x : Permission). x.permission))
          (of-others (λ (x : Permission). x.incident) (λ (x : Permission). is_prefix h.path x.permission.path) h.incident.naming.number
          q s.permissions t.permissions k h.permissions),
    )

-- ---- another unseen incident

pub unseen-shared : (now : ℤ) (a : Account) (s t : State) → HasOtherUnseenIncident now a s t → TellsShared now a s t
unseen-shared now a s t h = record {
  communities =
      ap (λ d. joined_communities a.person (record { directory = d; incidents = []; gates = []; recipients = []; permissions = [] })) h.others.directory;
  sharing = λ q. by_number q (q == h.number) refl;
}
  where
    apart : (q : ℕ) → (q == h.number) ≡ false → (m : ℕ) → not (m == h.number) ≡ false → (m == q) ≡ false
    apart q k m gone = not_both m h.number q (turned q h.number k) (not-false (m == h.number) gone)

    stays : (q : ℕ) → (q == h.number) ≡ false → (x : Incident) → (x.naming.number == q) ≡ true → not (x.naming.number == h.number) ≡ true
    stays q k x e = ap not (ap (λ y. y == h.number) (eqb-true x.naming.number q e) ∙ k)

    of-rest : {X : Type 0} (number : X → ℕ) (q : ℕ) → (q == h.number) ≡ false → (xs ys : List X) →
        filter (λ x. not (number x == h.number)) xs ≡ filter (λ x. not (number x == h.number)) ys →
        filter (λ x. number x == q) xs ≡ filter (λ x. number x == q) ys
    of-rest number q k xs ys same =
        kept-in (λ x. number x == q) (λ x. not (number x == h.number)) (λ x. not (number x == h.number)) xs ys same
        (λ x gone. apart q k (number x) gone) (λ x gone. apart q k (number x) gone)

    by_number : (q : ℕ) (b : Bool) → (q == h.number) ≡ b → due_to s now a.person (ask.Sharing q) ≡ due_to t now a.person (ask.Sharing q)
    by_number q true k =
        subst (λ m. due_to s now a.person (ask.Sharing m) ≡ due_to t now a.person (ask.Sharing m)) (sym (eqb-true q h.number k))
        (foreign-shared now a.person s t h.number h.first_foreign h.second_foreign)
    by_number q false k = rows-shared now a.person s t q (record {
      incident = sym (find_left (of_number q) (λ (x : Incident). not (x.naming.number == h.number)) s.incidents (stays q k))
          ∙ ap (find (of_number q)) h.others.incidents
          ∙ find_left (of_number q) (λ (x : Incident). not (x.naming.number == h.number)) t.incidents (stays q k);
      gates = ap (map (λ (g : Gate). g.gate)) (of-rest (λ (g : Gate). g.incident) q k s.gates t.gates h.others.gates);
      recipients = ap (map (λ (r : Recipient). r.target))
          (of-rest (λ (r : Recipient). r.incident) q k s.recipients t.recipients h.others.recipients);
      permissions = ap (map (λ (x : Permission). x.permission))
          (of-rest (λ (x : Permission). x.incident) q k s.permissions t.permissions h.others.permissions);
    })

-- ---- other rows, and other permissions that have ended

pub other-rows-shared : (now : ℤ) (a : Account) (s t : State) → HasOtherRows now a s t → TellsShared now a s t
other-rows-shared now a s t h = subst (λ w. TellsShared now a s w) (sym h.after) (record {
  communities = refl;
  sharing = λ q. own-shared now a.person s w q refl (λ own. record {
    incident = refl;
    gates = refl;
    recipients = ap (map (λ (r : Recipient). r.target)) (own-kept (λ (r : Recipient). r.incident) (is_own now a s)
        (λ (r : Recipient). is_org_or_person now a r.target) (λ (r : Recipient). is_org_or_person now a r.target) q s.recipients t.recipients own
        (h.recipients ∙ ap (staying_recipients now a) h.after));
    permissions = ap (map (λ (x : Permission). x.permission)) (own-kept (λ (x : Permission). x.incident) (is_own now a s)
        (λ (x : Permission). includes_person now a s.directory x.permission.grantee)
        (λ (x : Permission). includes_person now a w.directory x.permission.grantee) q s.permissions t.permissions own
        (h.permissions ∙ ap (staying_permissions now a) h.after));
  });
})
  where
    w : State
    w = record s {
      directory = record s.directory { accounts = t.directory.accounts; arrangements = t.directory.arrangements; group_members = t.directory.group_members };
      recipients = t.recipients;
      permissions = t.permissions;
    }

pub ended-shared : (now : ℤ) (a : Account) (s : State) (permissions : List Permission) →
    live_or_own_permissions now a s ≡ live_or_own_permissions now a (record s { permissions = permissions }) →
    TellsShared now a s (record s { permissions = permissions })
ended-shared now a s permissions same = record {
  communities = refl;
  sharing = λ q. own-shared now a.person s (record s { permissions = permissions }) q refl (λ own. record {
    incident = refl;
    gates = refl;
    recipients = refl;
    permissions = ap (map (λ (x : Permission). x.permission)) (own-kept (λ (x : Permission). x.incident) (is_own now a s)
        (λ (x : Permission). is_before now x.permission.until) (λ (x : Permission). is_before now x.permission.until) q s.permissions permissions own same);
  });
}
