-- How a standing is made of the results of look-ups.
use Rattle.std.{proofs.Common.{◌≡◌, ℕ, List, ◌==◌, ◌||◌, Bool, filter, Option, None, ap, ◌∙◌}, specs.{List.list_any, Option.option_map_or, Prelude.ℤ}}
use Rattle.{std.specs.Prelude.option_map, circle.{proofs.Lookup.any_having, specs.{Directory.has_membership, Reads.orgs_whose_client}}}
use Rattle.{circle.specs.declared.directory.{Client.Client, Person.Person}, marking.specs.declared.label.Handling.Handling}
use Rattle.{policy.specs.declared.standing.Standing.Standing, hub_state.proofs.{Counted.{any_same, target_among}, Keeping.any_map}}
use Rattle.hub_state.specs.{Handlings.handling_in, KeptReaders.IsReader, Reads.{is_client_for, its_recipients, reader_with, shared_as, standing_for, ties_of}}
use Rattle.hub_state.specs.{State.{State, has_recipient}, declared.{kept_reader.KeptReader.KeptReader, look_ups.{Reader.Reader, Shared.Shared, Ties.Ties}}}
use Rattle.hub_state.specs.{declared.{request.Target.Target, state.{Incident.Incident, Naming.Naming}}, inner.Questions.is_target_among}
use Rattle.hub_state.specs.declared.request.Target.TheVariants as target

-- one of the organisations whose client it is is the source or a recipient
client_there : (s : State) (i : Incident) (org : ℕ) →
    list_any (λ o. o == i.naming.source || has_recipient i.naming.number (target.Org o) s) (orgs_whose_client org s.directory) ≡ is_client_for s i org
client_there s i org =
    any_map (λ o. o == i.naming.source || has_recipient i.naming.number (target.Org o) s) (λ (c : Client). c.org) (filter (λ (c : Client). c.client == org) s.directory.clients)
    ∙ any_having (λ (c : Client). c.client == org) (λ (c : Client). c.org == i.naming.source || has_recipient i.naming.number (target.Org c.org) s) s.directory.clients

-- the same by copies of the recipients
client_is : (s : State) (i : Incident) (org : ℕ) →
    list_any (λ o. o == i.naming.source || is_target_among (target.Org o) (its_recipients i.naming.number s.recipients)) (orgs_whose_client org s.directory) ≡ is_client_for s i org
client_is s i org =
    any_same (λ o. o == i.naming.source || is_target_among (target.Org o) (its_recipients i.naming.number s.recipients)) (λ o. o == i.naming.source || has_recipient i.naming.number (target.Org o) s) (orgs_whose_client org s.directory) (λ o. ap (λ b. o == i.naming.source || b) (target_among i.naming.number (target.Org o) s))
    ∙ client_there s i org

-- the standing made of the results of look-ups and of these four values
abbrev made_with : ℤ → Reader → Shared → Ties → Bool → Bool → Bool → Option Handling → Standing
made_with now r k t person addressed client arrangement = record {
  source = r.person.org == k.naming.source;
  person = person;
  nominated = r.person.nominated;
  addressed = addressed;
  client = client;
  community = t.community;
  peer = t.peer;
  connected = t.connected;
  arrangement = arrangement;
  who = r.person.number;
  org = r.person.org;
  groups = r.groups;
  active_groups = r.active_groups;
  communities = r.communities;
  now = now;
}

abbrev made_of : ℤ → Reader → Shared → Ties → Standing
made_of now r k t =
    made_with now r k t (is_target_among (target.Person r.person.number) k.recipients) (is_target_among (target.Org r.person.org) k.recipients)
    (list_any (λ o. o == k.naming.source || is_target_among (target.Org o) k.recipients) r.served) (option_map handling_in t.arrangement)

made_is : (s : State) (now : ℤ) (r : Reader) (k : Shared) (t : Ties) (p : Person) (i : Incident) → r ≡ reader_with s p → k ≡ shared_as s i.naming → t ≡ ties_of p.org i.naming.source i.naming.community s →
    made_of now r k t ≡ standing_for s now p i
made_is s now r k t p i reader shared ties =
    let its = its_recipients i.naming.number s.recipients in
    let client = list_any (λ o. o == i.naming.source || is_target_among (target.Org o) its) (orgs_whose_client p.org s.directory) in
    ap (λ x. made_of now x k t) reader
    ∙ (ap (λ x. made_of now (reader_with s p) x t) shared
    ∙ (ap (made_of now (reader_with s p) (shared_as s i.naming)) ties
    ∙ (ap (λ b. record (standing_for s now p i) { person = b; addressed = is_target_among (target.Org p.org) its; client = client }) (target_among i.naming.number (target.Person p.number) s)
    ∙ (ap (λ b. record (standing_for s now p i) { addressed = b; client = client }) (target_among i.naming.number (target.Org p.org) s)
    ∙ ap (λ b. record (standing_for s now p i) { client = b }) (client_is s i p.org)))))

-- the standing that is made is the person's to the incident, if the look-ups returned theirs
pub made_for : (s : State) (now : ℤ) (r : Reader) (k : Shared) (t : Ties) (p : Person) (i : Incident) (targets : List Target) (served : List ℕ) (person addressed client : Bool) (arrangement : Option Handling) →
    r ≡ reader_with s p → k ≡ shared_as s i.naming → t ≡ ties_of p.org i.naming.source i.naming.community s →
    targets ≡ k.recipients → served ≡ r.served →
    person ≡ is_target_among (target.Person r.person.number) targets →
    addressed ≡ is_target_among (target.Org r.person.org) targets →
    client ≡ list_any (λ o. o == k.naming.source || is_target_among (target.Org o) targets) served →
    arrangement ≡ option_map handling_in t.arrangement →
    made_with now r k t person addressed client arrangement ≡ standing_for s now p i
made_for s now r k t p i targets served person addressed client arrangement reader shared ties to serves told org serving arranged =
    ap (λ b. made_with now r k t b addressed client arrangement) (told ∙ ap (is_target_among (target.Person r.person.number)) to)
    ∙ (ap (λ b. made_with now r k t (is_target_among (target.Person r.person.number) k.recipients) b client arrangement) (org ∙ ap (is_target_among (target.Org r.person.org)) to)
    ∙ (ap (λ b. made_with now r k t (is_target_among (target.Person r.person.number) k.recipients) (is_target_among (target.Org r.person.org) k.recipients) b arrangement)
    (serving
    ∙ (ap (λ (l : List Target). list_any (λ o. o == k.naming.source || is_target_among (target.Org o) l) served) to
    ∙ ap (list_any (λ o. o == k.naming.source || is_target_among (target.Org o) k.recipients)) serves))
    ∙ (ap (made_with now r k t (is_target_among (target.Person r.person.number) k.recipients) (is_target_among (target.Org r.person.org) k.recipients) (list_any (λ o. o == k.naming.source || is_target_among (target.Org o) k.recipients) r.served)) arranged
    ∙ made_is s now r k t p i reader shared ties)))

-- ---- a kept reader

-- the standing that is set for an incident is the person's, if the reader is the person
pub set_is : (s : State) (t : ℤ) (k : KeptReader) (named : Naming) (ties : Ties) (p : Person) (i : Incident) (person addressed client peer : Bool) (arrangement : Option Handling) (served : List ℕ) (now : ℤ) →
    IsReader k p s → named ≡ i.naming → ties ≡ ties_of p.org i.naming.source None s →
    person ≡ has_recipient named.number (target.Person k.standing.who) s →
    addressed ≡ has_recipient named.number (target.Org k.standing.org) s →
    served ≡ k.served →
    client ≡ list_any (λ o. o == named.source || has_recipient named.number (target.Org o) s) served →
    peer ≡ option_map_or (λ c. has_membership c k.standing.org s.directory) named.community ties.community →
    arrangement ≡ option_map handling_in ties.arrangement →
    now ≡ t →
    record {
      source = k.standing.org == named.source;
      person = person;
      nominated = k.standing.nominated;
      addressed = addressed;
      client = client;
      community = ties.community;
      peer = peer;
      connected = ties.connected;
      arrangement = arrangement;
      who = k.standing.who;
      org = k.standing.org;
      groups = k.standing.groups;
      active_groups = k.standing.active_groups;
      communities = k.standing.communities;
      now = now;
    } ≡ standing_for s t p i
set_is s t k named ties p i person addressed client peer arrangement served now is there tied told org serves serving peers arranged moment = λ j. record {
  source = is.org j == (there j).source;
  person = (told ∙ (λ l. has_recipient ((there l).number) (target.Person (is.who l)) s)) j;
  nominated = is.nominated j;
  addressed = (org ∙ (λ l. has_recipient ((there l).number) (target.Org (is.org l)) s)) j;
  client = (serving
      ∙ ((λ l. list_any (λ o. o == (there l).source || has_recipient ((there l).number) (target.Org o) s) ((serves ∙ is.served) l))
      ∙ client_there s i p.org)) j;
  community = (tied j).community;
  peer = (peers ∙ (λ l. option_map_or (λ c. has_membership c (is.org l) s.directory) ((there l).community) ((tied l).community))) j;
  connected = (tied j).connected;
  arrangement = (arranged ∙ (λ l. option_map handling_in ((tied l).arrangement))) j;
  who = is.who j;
  org = is.org j;
  groups = is.groups j;
  active_groups = is.active_groups j;
  communities = is.communities j;
  now = moment j;
}
