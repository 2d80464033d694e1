-- An incident of which a person sees nothing may be any.
use Rattle.std.proofs.Common.{◌≡◌, ◌≢◌, inl, inr, bytes_eq, ℕ, Bool, true, false, not, List, [], ◌∷◌, refl, sym, ◌∙◌, ap, subst, ◌&&◌, ◌||◌, ◌==◌, cond}
use Rattle.std.{proofs.lemmas.Bool.{not-false, not-true, eqb-true, false≢true, and_left, cond-false}, specs.List.{AllByRecursion, list_any}}
use Rattle.std.specs.{Option.option_map_or, Prelude.{ℤ, Option, Some, None, filter, find, map, take, nat_lt, Contains, option_map}}
use Rattle.{iodef_tree.{proofs.Order.{bytes_eq-true, bytes_eq-refl}, specs.Text.Bytes}, policy.specs.declared.{case.Case.Case, standing.Standing.Standing}}
use Rattle.circle.specs.{Directory.Directory, Reads.person_in, Sound.Pairwise, declared.directory.{Account.Account, Client.Client, Person.Person}}
use Rattle.hub_core.specs.{Reads.{groups_of, standing_for, case_for, its_gates, its_permissions, entry_of}, Sound.IsSound, State.{State, incident_of}}
use Rattle.{hub_core.specs.State.{incident_number, is_recipient_being}, hub_state.proofs.Keeping.{not_both, turned, find_left, found_is}}
use Rattle.hub_state.specs.declared.{request.Target.Target, state.{Gate.Gate, Incident.Incident, Permission.Permission, Recipient.Recipient}}
use Rattle.redact.proofs.{Filtered.{each-from, any-each, any-kept, filter-within, filter-passing, filter-both, filter-agree}, InOrder.{In, in_contained}}
use Rattle.{redact.{proofs.Promised.found-listed, specs.Told.{is_listed, finds, told_of, excerpt_of}}, hub.proofs.Numbered.all_found}
use Rattle.hub.{proofs.{Standings.standing_at-is, ToldSame.TellsSame}, specs.{Alike.HasOtherUnseenIncident, Replies.{page_of, caller_of, if_active, viewed}}}
use Rattle.hub.specs.{Replies.{view_or_nothing, nothing_for_you}, Told.{standing_at, is_served, is_found, is_addressed, view_with}}
use Rattle.hub.specs.declared.{TheConstants.PAGE_LIMIT, key.Key.TheVariants.Digest}
use Rattle.hub_state.specs.declared.request.Target.TheVariants as target

abbrev pub other : ℕ → Incident → Bool
other n i = not (i.naming.number == n)

-- a page above a number, of two lists that differ only in an incident that fails both tests
page-but : (n after : ℕ) (f g : Incident → Bool) (xs ys : List Incident) → filter (other n) xs ≡ filter (other n) ys →
    ((i : Incident) → other n i ≡ true → f i ≡ g i) → AllByRecursion (λ i. other n i ≡ false → f i ≡ false) xs → AllByRecursion (λ i. other n i ≡ false → g i ≡ false) ys →
    filter f (filter (λ (i : Incident). nat_lt after i.naming.number) xs) ≡ filter g (filter (λ (i : Incident). nat_lt after i.naming.number) ys)
page-but n after f g xs ys same agree none none' =
    let up : Incident → Bool = λ i. nat_lt after i.naming.number in
    filter-both f up xs
    ∙ filter-passing (λ i. up i && f i) (other n) xs (both f xs none)
    ∙ filter-agree (λ i. up i && f i) (λ i. up i && g i) (other n) xs (λ i k. ap (λ b. up i && b) (agree i k))
    ∙ ap (filter (λ i. up i && g i)) same
    ∙ sym (filter-passing (λ i. up i && g i) (other n) ys (both g ys none'))
    ∙ sym (filter-both g up ys)
  where
    late : (a b : Bool) → b ≡ false → (a && b) ≡ false
    late true b h = h
    late false b h = refl

    both : (test : Incident → Bool) (zs : List Incident) → AllByRecursion (λ i. other n i ≡ false → test i ≡ false) zs → AllByRecursion (λ i. other n i ≡ false → (nat_lt after i.naming.number && test i) ≡ false) zs
    both test zs h = each-from (λ i. other n i ≡ false → test i ≡ false) (λ i. other n i ≡ false → (nat_lt after i.naming.number && test i) ≡ false) (λ i e k. late (nat_lt after i.naming.number) (test i) (e k)) zs h

-- a test of the incident of a number is a test of each with that number
none-of : (s : State) (n : ℕ) (test : Incident → Bool) → IsSound s → option_map_or test (incident_of n s) false ≡ false → AllByRecursion (λ i. other n i ≡ false → test i ≡ false) s.incidents
none-of s n test sound h = each s.incidents (all_found incident_number 0 s.incidents sound.incidents.numbered.0)
  where
    each : (is : List Incident) → AllByRecursion (λ (i : Incident). incident_of i.naming.number s ≡ Some i) is → AllByRecursion (λ i. other n i ≡ false → test i ≡ false) is
    each [] f = tt
    each (i ∷ is) f = (
      λ k.
          let at : i.naming.number ≡ n = eqb-true i.naming.number n (not-false (i.naming.number == n) k) in
          ap (λ o. option_map_or test o false) (sym f.0 ∙ ap (λ m. incident_of m s) at) ∙ h,
      each is f.1,
    )

-- a standing depends on the directory and on which recipients are there
pub record Addressed (n : ℕ) (rs rs' : List Recipient) : Type 0 where
  pub any : (x : Target) → list_any (is_recipient_being n x) rs ≡ list_any (is_recipient_being n x) rs'

-- a standing, by the directory and by whether the person, its organisation and the organisations whose client it is are
-- recipients
abbrev made : ℤ → Directory → Person → Incident → Bool → Bool → Bool → Standing
made now d p i person org client = record (standing_for (record { directory = d; incidents = []; gates = []; recipients = []; permissions = [] }) now p i) {
  person = person;
  addressed = org;
  client = client;
}

abbrev client_by : Directory → (Target → Bool) → Person → Incident → Client → Bool
client_by d has p i c = c.client == p.org && (c.org == i.naming.source || has (target.Org c.org))

standing-made : (s : State) (now : ℤ) (p : Person) (i : Incident) → let has = λ (x : Target). list_any (is_recipient_being i.naming.number x) s.recipients in
    standing_for s now p i ≡ made now s.directory p i (has (target.Person p.number)) (has (target.Org p.org)) (list_any (client_by s.directory has p i) s.directory.clients)
standing-made s now p i = refl

pub standing-by : (s t : State) (now : ℤ) (p : Person) (i : Incident) → s.directory ≡ t.directory → Addressed i.naming.number s.recipients t.recipients → standing_for s now p i ≡ standing_for t now p i
standing-by s t now p i d h =
    let has : Target → Bool = λ x. list_any (is_recipient_being i.naming.number x) s.recipients in
    let has' : Target → Bool = λ x. list_any (is_recipient_being i.naming.number x) t.recipients in
    standing-made s now p i
    ∙ ap (λ e. made now e p i (has (target.Person p.number)) (has (target.Org p.org)) (list_any (client_by e has p i) e.clients)) d
    ∙ ap (λ b. made now t.directory p i b (has (target.Org p.org)) (list_any (client_by t.directory has p i) t.directory.clients)) (h.any (target.Person p.number))
    ∙ ap (λ b. made now t.directory p i (has' (target.Person p.number)) b (list_any (client_by t.directory has p i) t.directory.clients)) (h.any (target.Org p.org))
    ∙ ap (λ b. made now t.directory p i (has' (target.Person p.number)) (has' (target.Org p.org)) b)
    (any-each (client_by t.directory has p i) (client_by t.directory has' p i) t.directory.clients (λ c. ap (λ b. c.client == p.org && (c.org == i.naming.source || b)) (h.any (target.Org c.org))))
    ∙ sym (standing-made t now p i)

module _ (now : ℤ) (a : Account) (s t : State) (ss : IsSound s) (st : IsSound t) (h : HasOtherUnseenIncident now a s t) where
  abbrev n : ℕ
  n = h.number

  pub addressed : (i : Incident) → other n i ≡ true → Addressed i.naming.number s.recipients t.recipients
  addressed i k = record {
    any = λ x.
        any-kept (is_recipient_being i.naming.number x) (λ (r : Recipient). not (r.incident == n)) s.recipients (apart x)
        ∙ ap (list_any (is_recipient_being i.naming.number x)) h.others.recipients
        ∙ sym (any-kept (is_recipient_being i.naming.number x) (λ (r : Recipient). not (r.incident == n)) t.recipients (apart x));
  }
    where
      apart : (x : Target) (r : Recipient) → not (r.incident == n) ≡ false → is_recipient_being i.naming.number x r ≡ false
      apart x r gone = and_left (r.incident == i.naming.number) _ (not_both r.incident n i.naming.number (turned i.naming.number n (not-true (i.naming.number == n) k)) (not-false (r.incident == n) gone))

  standing-same : (i : Incident) → other n i ≡ true → standing_at s now a.person i ≡ standing_at t now a.person i
  standing-same i k = standing_at-is s now a.person i ∙ standing-by s t now a.person i h.others.directory (addressed i k) ∙ sym (standing_at-is t now a.person i)

  case-same : (i : Incident) → other n i ≡ true → case_for s i ≡ case_for t i
  case-same i k =
      let gates : filter (λ (g : Gate). g.incident == i.naming.number) s.gates ≡ filter (λ (g : Gate). g.incident == i.naming.number) t.gates =
      filter-within (λ (g : Gate). g.incident == i.naming.number) (λ (g : Gate). not (g.incident == n)) s.gates (λ g gone. apart g.incident gone)
      ∙ ap (filter (λ (g : Gate). g.incident == i.naming.number)) h.others.gates
      ∙ sym (filter-within (λ (g : Gate). g.incident == i.naming.number) (λ (g : Gate). not (g.incident == n)) t.gates (λ g gone. apart g.incident gone)) in
      let permissions : filter (λ (x : Permission). x.incident == i.naming.number) s.permissions ≡ filter (λ (x : Permission). x.incident == i.naming.number) t.permissions =
      filter-within (λ (x : Permission). x.incident == i.naming.number) (λ (x : Permission). not (x.incident == n)) s.permissions (λ x gone. apart x.incident gone)
      ∙ ap (filter (λ (x : Permission). x.incident == i.naming.number)) h.others.permissions
      ∙ sym (filter-within (λ (x : Permission). x.incident == i.naming.number) (λ (x : Permission). not (x.incident == n)) t.permissions (λ x gone. apart x.incident gone)) in
      ap (λ gs. record { source = i.naming.source; community = i.naming.community; gates = map (λ (g : Gate). g.gate) gs; permissions = its_permissions i.naming.number s.permissions }) gates
      ∙ ap (λ xs. record { source = i.naming.source; community = i.naming.community; gates = its_gates i.naming.number t.gates; permissions = map (λ (x : Permission). x.permission) xs }) permissions
    where
      apart : (m : ℕ) → not (m == n) ≡ false → (m == i.naming.number) ≡ false
      apart m gone = not_both m n i.naming.number (turned i.naming.number n (not-true (i.naming.number == n) k)) (not-false (m == n) gone)

  served-same : (i : Incident) → other n i ≡ true → is_served s now a.person i ≡ is_served t now a.person i
  served-same i k = ap (λ c. is_listed i.document c (standing_at s now a.person i)) (case-same i k) ∙ ap (λ st. is_listed i.document (case_for t i) st) (standing-same i k)

  pub listed-same : (after : ℕ) → page_of (is_served s now a.person) after s ≡ page_of (is_served t now a.person) after t
  listed-same after = ap (λ (is : List Incident). take PAGE_LIMIT (map entry_of is))
      (page-but n after (is_served s now a.person) (is_served t now a.person) s.incidents t.incidents h.others.incidents served-same
      (none-of s n (is_served s now a.person) ss h.first) (none-of t n (is_served t now a.person) st h.second))

-- ---- the caller

apart-from : (b : Account) (bs : List Account) (a : Account) → AllByRecursion (λ (y : Account). b.key ≢ y.key) bs → In bs a → b.key ≢ a.key
apart-from b [] a h k = absurd k
apart-from b (c ∷ bs) a h (inl k) = subst (λ y. b.key ≢ y.key) k h.0
apart-from b (c ∷ bs) a h (inr k) = apart-from b bs a h.1 k

pub found-by-key : (bs : List Account) (a : Account) → Pairwise (λ (x y : Account). x.key ≢ y.key) bs → In bs a → find (λ (b : Account). bytes_eq b.key a.key) bs ≡ Some a
found-by-key [] a h k = absurd k
found-by-key (b ∷ bs) a h (inl k) =
    ap (λ t. cond t (Some b) (find (λ (x : Account). bytes_eq x.key a.key) bs)) (subst (λ y. bytes_eq b.key y.key ≡ true) k (bytes_eq-refl b.key)) ∙ ap Some k
found-by-key (b ∷ bs) a h (inr k) = by_test (bytes_eq b.key a.key) refl (found-by-key bs a h.1 k)
  where
    by_test : (t : Bool) → bytes_eq b.key a.key ≡ t → find (λ (x : Account). bytes_eq x.key a.key) bs ≡ Some a → cond t (Some b) (find (λ (x : Account). bytes_eq x.key a.key) bs) ≡ Some a
    by_test true e ih = absurd (apart-from b bs a h.0 k (bytes_eq-true b.key a.key e))
    by_test false e ih = ih

-- a person that is there is found by its key
pub known : (s : State) (a : Account) → IsSound s → Contains s.directory.accounts a → caller_of s (Digest a.key) ≡ if_active (Some a.person)
known s a sound there = ap (λ o. if_active (option_map person_in o)) (found-by-key s.directory.accounts a sound.directory.accounts.keys (in_contained s.directory.accounts a there))

-- ---- the step

view-same-by : (i : Incident) (c c' : Case) (st st' : Standing) → c ≡ c' → st ≡ st' → option_map (view_with i) (excerpt_of i.document c st) ≡ option_map (view_with i) (excerpt_of i.document c' st')
view-same-by i c c' st st' cs ss = ap (λ x. option_map (view_with i) (excerpt_of i.document x st)) cs ∙ ap (λ x. option_map (view_with i) (excerpt_of i.document c' x)) ss

-- nothing is found in an incident of which nothing is visible
unfound : (s : State) (now : ℤ) (p : Person) (i : Incident) (needle : Bytes) (class : Option Bytes) → is_served s now p i ≡ false → is_found s now p i needle class ≡ false
unfound s now p i needle class h = by_test (is_found s now p i needle class) refl
  where
    by_test : (b : Bool) → is_found s now p i needle class ≡ b → is_found s now p i needle class ≡ false
    by_test true e = absurd (false≢true (sym h ∙ found-listed i.document (case_for s i) (standing_at s now p i) needle class e))
    by_test false e = e

unseen-view : (s : State) (now : ℤ) (p : Person) (o : Option Incident) → option_map_or (is_served s now p) o false ≡ false → viewed s now p o ≡ nothing_for_you
unseen-view s now p None h = refl
unseen-view s now p (Some i) h =
    ap (λ o. view_or_nothing (option_map (view_with i) o)) (cond-false (is_served s now p i) (Some (told_of i.document (case_for s i) (standing_at s now p i))) None h)

module _ (now : ℤ) (a : Account) (s t : State) (ss : IsSound s) (st : IsSound t) (there : Contains s.directory.accounts a) (h : HasOtherUnseenIncident now a s t) where
  abbrev p : Person
  p = a.person

  abbrev m : ℕ
  m = h.number

  none : AllByRecursion (λ i. other m i ≡ false → is_served s now p i ≡ false) s.incidents
  none = none-of s m (is_served s now p) ss h.first

  none' : AllByRecursion (λ i. other m i ≡ false → is_served t now p i ≡ false) t.incidents
  none' = none-of t m (is_served t now p) st h.second

  found-page : (needle : Bytes) (class : Option Bytes) (after : ℕ) → page_of (λ (i : Incident). is_found s now p i needle class) after s ≡ page_of (λ (i : Incident). is_found t now p i needle class) after t
  found-page needle class after = ap (λ (is : List Incident). take PAGE_LIMIT (map entry_of is))
      (page-but m after (λ i. is_found s now p i needle class) (λ i. is_found t now p i needle class) s.incidents t.incidents h.others.incidents
      (λ i k. ap (λ c. finds i.document c (standing_at s now p i) needle class) (case-same now a s t ss st h i k) ∙ ap (λ x. finds i.document (case_for t i) x needle class) (standing-same now a s t ss st h i k))
      (each-from _ _ (λ i f k. unfound s now p i needle class (f k)) s.incidents none)
      (each-from _ _ (λ i f k. unfound t now p i needle class (f k)) t.incidents none'))

  late : (x y : Bool) → y ≡ false → (x && y) ≡ false
  late true y k = k
  late false y k = refl

  addressed-page : (after : ℕ) → page_of (λ (i : Incident). is_addressed s now p i && is_served s now p i) after s ≡ page_of (λ (i : Incident). is_addressed t now p i && is_served t now p i) after t
  addressed-page after = ap (λ (is : List Incident). take PAGE_LIMIT (map entry_of is))
      (page-but m after (λ i. is_addressed s now p i && is_served s now p i) (λ i. is_addressed t now p i && is_served t now p i) s.incidents t.incidents h.others.incidents
      (λ i k. ap (λ x. (x.person || x.addressed) && is_served s now p i) (standing-same now a s t ss st h i k) ∙ ap (λ b. is_addressed t now p i && b) (served-same now a s t ss st h i k))
      (each-from _ _ (λ i f k. late (is_addressed s now p i) (is_served s now p i) (f k)) s.incidents none)
      (each-from _ _ (λ i f k. late (is_addressed t now p i) (is_served t now p i) (f k)) t.incidents none'))

  viewed-other : (i : Incident) → other m i ≡ true → viewed s now p (Some i) ≡ viewed t now p (Some i)
  viewed-other i k =
      ap view_or_nothing
      (view-same-by i (case_for s i) (case_for t i) (standing_at s now p i) (standing_at t now p i) (case-same now a s t ss st h i k) (standing-same now a s t ss st h i k))

  view-same : (q : ℕ) → viewed s now p (incident_of q s) ≡ viewed t now p (incident_of q t)
  view-same q = by_number (q == m) refl
    where
      by_number : (b : Bool) → (q == m) ≡ b → viewed s now p (incident_of q s) ≡ viewed t now p (incident_of q t)
      by_number true k = let at = eqb-true q m k in subst (λ x. viewed s now p (incident_of x s) ≡ viewed t now p (incident_of x t)) (sym at)
          (unseen-view s now p (incident_of m s) h.first ∙ sym (unseen-view t now p (incident_of m t) h.second))
      by_number false k = same (incident_of q s) refl
        where
          apart : (x : Incident) → (x.naming.number == q) ≡ true → other m x ≡ true
          apart x e = ap not (ap (λ y. y == m) (eqb-true x.naming.number q e) ∙ k)

          there-too : incident_of q s ≡ incident_of q t
          there-too = sym (find_left (λ (x : Incident). x.naming.number == q) (other m) s.incidents apart)
              ∙ ap (find (λ (x : Incident). x.naming.number == q)) h.others.incidents
              ∙ find_left (λ (x : Incident). x.naming.number == q) (other m) t.incidents apart

          same : (o : Option Incident) → incident_of q s ≡ o → viewed s now p (incident_of q s) ≡ viewed t now p (incident_of q t)
          same None e = ap (viewed s now p) e ∙ sym (ap (viewed t now p) (sym there-too ∙ e))
          same (Some i) e = ap (viewed s now p) e ∙ viewed-other i (apart i (found_is (λ (x : Incident). x.naming.number == q) s.incidents i e)) ∙ sym (ap (viewed t now p) (sym there-too ∙ e))

  pub unseen-told : TellsSame now a s t × Contains t.directory.accounts a
  unseen-told = let there' = subst (λ d. Contains d.accounts a) h.others.directory there in (
    record {
      first = known s a ss there;
      second = known t a st there';
      groups = groups-by h.others.directory;
      view = view-same;
      listed = listed-same now a s t ss st h;
      found = found-page;
      addressed = addressed-page;
    },
    there',
  )
    where
      groups-by : s.directory ≡ t.directory → groups_of p s ≡ groups_of p t
      groups-by d = ap (λ x. groups_of p (record { directory = x; incidents = []; gates = []; recipients = []; permissions = [] })) d
