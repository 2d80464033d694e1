-- The grounds by the facts of a state are the grounds by its rows.
use Rattle.std.proofs.Common.{◌≡◌, ℕ, ◌+◌, ◌<◌, ◌==◌, ◌&&◌, ◌||◌, Bool, true, false, not, if◌then◌else◌, List, [], ◌∷◌, ◌++◌, map, length, filter, Option, Some}
use Rattle.std.proofs.{Common.{None, refl, sym, ap, ◌∙◌, arith}, Math.Bool.and-true, lemmas.Bool.{true≢false, eq-eqb, Decides.nat_tests}}
use Rattle.std.{proofs.lemmas.List.{Folds.list_all-append, Sums.length-filter}, specs.{List.{list_all, filter_map, cons_option}, Option.option_map_or}}
use Rattle.std.specs.{Prelude.{ℤ, count_by, decimal, find, flat_map, is_none, is_some, min, nat_le, nat_lt, option_map}, Str.bytes_eq}
use Rattle.{std.specs.declared.cmp.Ordering.Ordering, iodef_tree.specs.{Pointer.pointer_tokens, Text.{Bytes, Tokens, is_root, same_path}}}
use Rattle.{policy.specs.declared.permission.Grantee.Grantee, redact.proofs.Counts.count_by-cons, circle.specs.{Ordered.put_by, Reads.person_in}}
use Rattle.circle.specs.{Refusals.{Ground, first_answer, refuse, unknown_unless, already, not_so_unless}, declared.directory.{Account.Account, Person.Person}}
use Rattle.{circle.specs.declared.refusal.Code.TheVariants.{L1, S1, S3}, hub_state.proofs.Counted.{any_same, at_same, count_agree, count_filter}}
use Rattle.hub_state.{proofs.{Indexing.and_and, Keeping.count_put}, specs.{Aftermath.{changed, put_gate, put_permission}, Documents.{Lines, documents_in}}}
use Rattle.hub_state.specs.{Documents.{ident_of, is_class_in, at_pointer}, Edits.with_edits, Facts.{facts_of, first_number, posted_in, length_as_u32, counted}}
use Rattle.hub_state.specs.{Facts.{gates_then, recipients_then, permissions_then}, Requests.{incident_facts, is_own_community, is_own_group, has_joined_all}}
use Rattle.hub_state.specs.{Requests.{is_target, is_grantee, is_active}, State.{State, gate_cmp, recipient_cmp, permission_cmp, gate_with, permission_with}}
use Rattle.hub_state.specs.State.{incident_of, incident_named, is_gate_at, is_recipient_being, is_permission_being, same_group, has_gate, class_gates}
use Rattle.hub_state.specs.{State.{recipients_of, permissions_of}, declared.TheConstants.{REVISION_LIMIT, GATE_LIMIT, RECIPIENT_LIMIT, PERMISSION_LIMIT}}
use Rattle.hub_state.specs.declared.{edit.Edit.TheVariants.TakeGate, facts.IncidentFacts.IncidentFacts, request.{Address.Address, Distribution.Distribution}}
use Rattle.hub_state.specs.declared.request.{Explain.Explain, Grant.Grant, Post.Post, Redistribute.Redistribute, Replace.Replace, Target.Target}
use Rattle.hub_state.specs.declared.{request.{Unaddress.Unaddress, WantedGate.WantedGate, Withdraw.Withdraw}, state.{Gate.Gate, GateKey.GateKey}}
use Rattle.hub_state.specs.declared.state.{Incident.Incident, Permission.Permission, PermissionKey.PermissionKey, Recipient.Recipient}
use Rattle.hub_core.{proofs.Named.{map_or_map, of_document}, specs.Judgement.{grounds_by, other_revision, next_revision, unless_own, keep_ident}}
use Rattle.hub_core.specs.Refusals.{grounds, because, not_for_you, no_class_unless, over, over_at, other_than, given, first_of, numbers_under, holds_of, row_of}
use Rattle.hub_core.specs.Refusals.{unless_ours, unless_joined, is_in_group, is_in_community, groups_given, is_recipient_there, is_grantee_there}
use Rattle.hub_core.specs.Refusals.{is_addressed_to, is_granted_at, stands_gate, gates_with, recipients_with, permissions_with}
use Rattle.policy.specs.declared.permission.Grantee.TheVariants as grantee
use Rattle.hub_core.specs.Refusals as rows
use Rattle.hub_state.specs.declared.request.Request.TheVariants as ask
use Rattle.hub_state.specs.declared.request.Target.TheVariants as target
pub use Rattle.hub_state.proofs.Then.{replace_edits}

-- ---- grounds one by one

-- the same grounds, up to the first that holds
abbrev Alike : List Ground → List Ground → Type 0
Alike [] [] = Unit {0}
Alike (g ∷ gs) (k ∷ ks) = (g ≡ k) × (k.holds ≡ false → Alike gs ks)
Alike _ _ = ⊥

first_alike : (gs ks : List Ground) → Alike gs ks → first_answer gs ≡ first_answer ks
first_alike [] [] h = refl
first_alike [] (k ∷ ks) h = absurd h
first_alike (g ∷ gs) [] h = absurd h
first_alike (g ∷ gs) (k ∷ ks) h = ap (λ (x : Ground). if x.holds then Some x.answer else first_answer gs) h.0 ∙ split k.holds (λ is. first_alike gs ks (h.1 is))
  where
    split : (b : Bool) → (b ≡ false → first_answer gs ≡ first_answer ks) → (if b then Some k.answer else first_answer gs) ≡ (if b then Some k.answer else first_answer ks)
    split true rest = refl
    split false rest = rest refl

-- ---- the incident named

there_by : (test : Incident → Bool) (o : Option Incident) → not (option_map_or test o false) ≡ false → is_some o ≡ true
there_by test None h = absurd (true≢false h)
there_by test (Some i) h = refl

ours : (s : State) (a : Person) (n : ℕ) → unless_own (option_map incident_facts (incident_of n s)) a ≡ unless_ours s a n
ours s a n = ap (λ b. not_for_you (not b)) (map_or_map (λ (k : IncidentFacts). k.source == a.org) incident_facts (incident_of n s) false)

-- the incident is there if it was asked before whether it is the actor's own
there : (s : State) (a : Person) (n : ℕ) → not (holds_of n (λ (i : Incident). i.naming.source == a.org) s) ≡ false → is_some (incident_of n s) ≡ true
there s a n h = there_by (λ (i : Incident). i.naming.source == a.org) (row_of n s) h

seen : (s : State) (n revision : ℕ) → because S3 (other_revision (option_map incident_facts (incident_of n s)) revision) ≡ rows.unless_seen s n revision
seen s n revision = ap (because S3) (map_or_map (λ (k : IncidentFacts). other_than revision k.revision) incident_facts (incident_of n s) None)

ident : (s : State) (n : ℕ) (docs : List Lines) → not_so_unless (keep_ident (option_map incident_facts (incident_of n s)) docs) ≡ rows.unless_same_ident s n docs
ident s n docs = ap not_so_unless (map_or_map (λ (k : IncidentFacts). list_all (λ (doc : Lines). bytes_eq (ident_of doc) k.ident) docs) incident_facts (incident_of n s) false)

one_less : (limit n : ℕ) → nat_lt limit (n + 1) ≡ nat_le limit n
one_less limit n = grind (arith, nat_tests)

revisions_of : (o : Option Incident) → nat_lt REVISION_LIMIT (next_revision (option_map incident_facts o)) ≡ option_map_or (λ (i : Incident). nat_le REVISION_LIMIT i.naming.revision) o false
revisions_of None = refl
revisions_of (Some i) = one_less REVISION_LIMIT i.naming.revision

revisions : (s : State) (n : ℕ) → over REVISION_LIMIT (next_revision (option_map incident_facts (incident_of n s))) ≡ refuse L1 (holds_of n (λ (i : Incident). nat_le REVISION_LIMIT i.naming.revision) s)
revisions s n = ap (refuse L1) (revisions_of (incident_of n s))

class_at : (s : State) (n : ℕ) (path : Bytes) → no_class_unless (at_pointer (λ p. option_map_or (λ (doc : Lines). is_class_in doc p) (option_map (λ (i : Incident). i.document) (incident_of n s)) false) path) ≡ no_class_unless (at_pointer (rows.has_class_at s n) path)
class_at s n path = ap no_class_unless (of_document is_class_in (incident_of n s) path)

place_at : (s : State) (n : ℕ) (path : Bytes) → no_class_unless (at_pointer (λ p. option_map_or (λ (doc : Lines). is_root p || is_class_in doc p) (option_map (λ (i : Incident). i.document) (incident_of n s)) false) path) ≡ no_class_unless (at_pointer (rows.has_place_at s n) path)
place_at s n path = ap no_class_unless (of_document (λ doc p. is_root p || is_class_in doc p) (incident_of n s) path)

none_is : (o : Option Incident) → is_none (option_map incident_facts o) ≡ not (option_map_or (λ (i : Incident). true) o false)
none_is None = refl
none_is (Some i) = refl

-- ---- what a request names

own_group : (s : State) (a : Person) (o : Option ℕ) → is_own_group s a o ≡ list_all (is_in_group s a) (given o)
own_group s a None = refl
own_group s a (Some n) = sym (and-true (is_in_group s a n))

own_community : (s : State) (a : Person) (o : Option ℕ) → is_own_community s a o ≡ list_all (is_in_community s a) (given o)
own_community s a None = refl
own_community s a (Some n) = sym (and-true (is_in_community s a n))

own_gates : (s : State) (a : Person) (gates : List WantedGate) → list_all (λ (g : WantedGate). is_own_group s a g.group) gates ≡ list_all (is_in_group s a) (flat_map (λ (g : WantedGate). given g.group) gates)
own_gates s a [] = refl
own_gates s a (g ∷ gs) =
    ap (λ b. b && list_all (λ (g : WantedGate). is_own_group s a g.group) gs) (own_group s a g.group)
    ∙ (ap (λ b. list_all (is_in_group s a) (given g.group) && b) (own_gates s a gs)
    ∙ sym (list_all-append (is_in_group s a) (given g.group) (flat_map (λ (g : WantedGate). given g.group) gs)))

joined : (s : State) (a : Person) (d : Distribution) → unknown_unless (has_joined_all s a d) ≡ unless_joined s a d
joined s a d =
    let in_groups : (is_own_group s a d.group && list_all (λ (g : WantedGate). is_own_group s a g.group) d.gates) ≡ list_all (is_in_group s a) (groups_given d) =
    ap (λ b. b && list_all (λ (g : WantedGate). is_own_group s a g.group) d.gates) (own_group s a d.group)
    ∙ (ap (λ b. list_all (is_in_group s a) (given d.group) && b) (own_gates s a d.gates)
    ∙ sym (list_all-append (is_in_group s a) (given d.group) (flat_map (λ (g : WantedGate). given g.group) d.gates))) in
    ap unknown_unless
    (ap (λ b. b && (is_own_group s a d.group && list_all (λ (g : WantedGate). is_own_group s a g.group) d.gates)) (own_community s a d.community)
    ∙ ap (λ b. list_all (is_in_community s a) (given d.community) && b) in_groups)

target_there : (s : State) (t : Target) → is_target s.directory t ≡ is_recipient_there s t
target_there s (target.Person n) = refl
target_there s (target.Org n) = refl

grantee_there : (s : State) (a : Person) (g : Grantee) → is_grantee s.directory a.org g ≡ is_grantee_there s a g
grantee_there s a (grantee.Person n) = refl
grantee_there s a (grantee.Org n) = refl
grantee_there s a (grantee.Community n) = refl
grantee_there s a (grantee.Group n) = refl

active_there : (s : State) (n : ℕ) → is_active s.directory n ≡ rows.is_active_there s n
active_there s n = map_or_map (λ (p : Person). p.active) person_in (find (λ (x : Account). x.person.number == n) s.directory.accounts) false

-- ---- what was posted before

-- the first element that passes is the first among these, or else the first of the rest
first_passing : (test : Incident → Bool) (xs more : List Incident) (numbers : List ℕ) → first_number more ≡ first_of numbers →
    first_number (cons_option (find test xs) more) ≡ first_of (map (λ (i : Incident). i.naming.number) (filter test xs) ++ numbers)
first_passing test [] more numbers h = h
first_passing test (x ∷ xs) more numbers h = split (test x) (first_passing test xs more numbers h)
  where
    split : (b : Bool) → first_number (cons_option (find test xs) more) ≡ first_of (map (λ (i : Incident). i.naming.number) (filter test xs) ++ numbers) →
        first_number (cons_option (if b then Some x else find test xs) more) ≡ first_of (map (λ (i : Incident). i.naming.number) (if b then x ∷ filter test xs else filter test xs) ++ numbers)
    split true rest = refl
    split false rest = rest

posted_same : (s : State) (org : ℕ) (docs : List Lines) → posted_in s org docs ≡ first_of (numbers_under s org (map ident_of docs))
posted_same s org [] = refl
posted_same s org (doc ∷ docs) =
    first_passing (λ (i : Incident). i.naming.source == org && bytes_eq i.naming.ident (ident_of doc)) s.incidents
    (filter_map (λ (d : Lines). incident_named org (ident_of d) s) docs) (numbers_under s org (map ident_of docs)) (posted_same s org docs)

posted_before : (s : State) (a : Person) (docs : List Lines) → because S1 (option_map decimal (posted_in s a.org docs)) ≡ rows.posted_already s a docs
posted_before s a docs = ap (λ o. because S1 (option_map decimal o)) (posted_same s a.org docs)

-- ---- how many there would be

-- a count as a u32 is over a limit exactly if the count is
capped : (limit n : ℕ) → limit < 4294967295 → nat_lt limit (min n 4294967295) ≡ nat_lt limit n
capped limit n low = grind (arith, nat_tests)

gates_given : (gates : List WantedGate) → over GATE_LIMIT (length_as_u32 gates) ≡ over GATE_LIMIT (length gates)
gates_given gates = ap (refuse L1) (capped GATE_LIMIT (length gates) (omega arith))

-- the incident is there
counted_there : (s : State) (n : ℕ) (count : ℕ → ℕ) → is_some (incident_of n s) ≡ true → counted s (Some n) count ≡ count n
counted_there s n count h = ap (λ b. if b then count n else 0) h

commute : (a b : Bool) → (not a && b) ≡ (b && not a)
commute true true = refl
commute true false = refl
commute false true = refl
commute false false = refl

-- a row put in place of others
count_in_place : {X : Type 0} (test being : X → Bool) (cmp : X → X → Ordering) (row : X) (xs : List X) →
    count_by test (put_by cmp row (filter (λ x. not (being x)) xs)) ≡ (if test row then 1 else 0) + length (filter (λ x. test x && not (being x)) xs)
count_in_place test being cmp row xs =
    count_put test cmp row (filter (λ x. not (being x)) xs)
    ∙ (count_by-cons test row (filter (λ x. not (being x)) xs)
    ∙ ap (λ n. (if test row then 1 else 0) + n)
    (count_filter test (λ x. not (being x)) xs
    ∙ (count_agree (λ x. not (being x) && test x) (λ x. test x && not (being x)) xs (λ x. commute (being x) (test x))
    ∙ sym (length-filter (λ x. test x && not (being x)) xs))))

-- a row is of the incident, at a class and at another path
elsewhere : (a b c : Bool) → ((a && b) && not (a && c)) ≡ (a && (b && not c))
elsewhere true b c = refl
elsewhere false b c = refl

turned_round : (root : Bool) → ◌≡◌ {A = ℕ} (if not root then 1 else 0) (if root then 0 else 1)
turned_round true = refl
turned_round false = refl

at_class : (n : ℕ) (root : Bool) → ◌≡◌ {A = ℕ} (if n == n && not root then 1 else 0) (if root then 0 else 1)
at_class n root = ap (λ b. if b && not root then 1 else 0) (eq-eqb n n refl) ∙ turned_round root

gates_at : (s : State) (n : ℕ) (p : Tokens) (level : ℕ) (group : Option ℕ) →
    class_gates n (put_by gate_cmp (gate_with (record { incident = n; path = p }) level group) (filter (λ (g : Gate). not (is_gate_at (record { incident = n; path = p }) g)) s.gates)) ≡ gates_with s n p
gates_at s n p level group =
    let key : GateKey = record { incident = n; path = p } in
    let test : Gate → Bool = λ (g : Gate). g.incident == n && not (is_root g.gate.path) in
    let beside : Gate → Bool = λ (g : Gate). g.incident == n && (not (is_root g.gate.path) && not (same_path g.gate.path p)) in
    count_in_place test (is_gate_at key) gate_cmp (gate_with key level group) s.gates
    ∙ (ap (λ m. m + length (filter (λ (g : Gate). test g && not (is_gate_at key g)) s.gates)) (at_class n (is_root p))
    ∙ ap (λ m. (if is_root p then 0 else 1) + m)
    (length-filter (λ (g : Gate). test g && not (is_gate_at key g)) s.gates
    ∙ (count_agree (λ (g : Gate). test g && not (is_gate_at key g)) beside s.gates (λ g. elsewhere (g.incident == n) (not (is_root g.gate.path)) (same_path g.gate.path p))
    ∙ sym (length-filter beside s.gates))))

gates_over : (s : State) (n : ℕ) (o : Option Tokens) (level : ℕ) (group : Option ℕ) → is_none o ≡ false →
    nat_lt GATE_LIMIT (class_gates n (with_edits (option_map_or (λ p. TakeGate (record { incident = n; path = p }) ∷ put_gate n level group p) o []) s).gates)
    ≡ option_map_or (λ p. nat_lt GATE_LIMIT (gates_with s n p)) o false
gates_over s n None level group h = absurd (true≢false h)
gates_over s n (Some p) level group h = ap (nat_lt GATE_LIMIT) (gates_at s n p level group)

more_gates : (s : State) (a : Person) (r : Redistribute) → is_none (pointer_tokens r.path) ≡ false → is_some (incident_of r.incident s) ≡ true →
    over GATE_LIMIT (gates_then s a (ask.Redistribute r)) ≡ over_at GATE_LIMIT (gates_with s r.incident) r.path
more_gates s a r good here =
    ap (over GATE_LIMIT) (counted_there s r.incident (λ m. class_gates m (changed s a (ask.Redistribute r)).gates) here)
    ∙ ap (refuse L1) (gates_over s r.incident (pointer_tokens r.path) r.level r.group good)

permissions_at : (s : State) (n : ℕ) (p : Tokens) (grantee : Grantee) (until : Option ℤ) →
    permissions_of n (put_by permission_cmp (permission_with (record { incident = n; path = p; grantee = grantee }) until) (filter (λ (x : Permission). not (is_permission_being (record { incident = n; path = p; grantee = grantee }) x)) s.permissions))
    ≡ permissions_with s n grantee p
permissions_at s n p grantee until =
    let key : PermissionKey = record { incident = n; path = p; grantee = grantee } in
    count_in_place (λ (x : Permission). x.incident == n) (is_permission_being key) permission_cmp (permission_with key until) s.permissions
    ∙ ap (λ b. (if b then 1 else 0) + length (filter (λ (x : Permission). x.incident == n && not (is_granted_at n p grantee x)) s.permissions)) (eq-eqb n n refl)

permissions_over : (s : State) (n : ℕ) (o : Option Tokens) (grantee : Grantee) (until : Option ℤ) → is_none o ≡ false →
    nat_lt PERMISSION_LIMIT (permissions_of n (with_edits (option_map_or (λ p. put_permission (record { incident = n; path = p; grantee = grantee }) until) o []) s).permissions)
    ≡ option_map_or (λ p. nat_lt PERMISSION_LIMIT (permissions_with s n grantee p)) o false
permissions_over s n None grantee until h = absurd (true≢false h)
permissions_over s n (Some p) grantee until h = ap (nat_lt PERMISSION_LIMIT) (permissions_at s n p grantee until)

more_permissions : (s : State) (a : Person) (r : Grant) → is_none (pointer_tokens r.path) ≡ false → is_some (incident_of r.incident s) ≡ true →
    over PERMISSION_LIMIT (permissions_then s a (ask.Grant r)) ≡ over_at PERMISSION_LIMIT (permissions_with s r.incident r.grantee) r.path
more_permissions s a r good here =
    ap (over PERMISSION_LIMIT) (counted_there s r.incident (λ m. permissions_of m (changed s a (ask.Grant r)).permissions) here)
    ∙ ap (refuse L1) (permissions_over s r.incident (pointer_tokens r.path) r.grantee r.until good)

recipients_at : (s : State) (n : ℕ) (target : Target) →
    recipients_of n (put_by recipient_cmp (record { incident = n; target = target }) (filter (λ (r : Recipient). not (is_recipient_being n target r)) s.recipients)) ≡ recipients_with s n target
recipients_at s n target =
    count_in_place (λ (r : Recipient). r.incident == n) (is_recipient_being n target) recipient_cmp (record { incident = n; target = target }) s.recipients
    ∙ ap (λ b. (if b then 1 else 0) + length (filter (λ (r : Recipient). r.incident == n && not (is_addressed_to n target r)) s.recipients)) (eq-eqb n n refl)

more_recipients : (s : State) (a : Person) (r : Address) → is_some (incident_of r.incident s) ≡ true →
    over RECIPIENT_LIMIT (recipients_then s a (ask.Address r)) ≡ over RECIPIENT_LIMIT (recipients_with s r.incident r.target)
more_recipients s a r here =
    ap (over RECIPIENT_LIMIT) (counted_there s r.incident (λ m. recipients_of m (put_by recipient_cmp (record { incident = r.incident; target = r.target }) (filter (λ (x : Recipient). not (is_recipient_being r.incident r.target x)) s.recipients))) here
    ∙ recipients_at s r.incident r.target)

-- ---- what is there already

gate_stands : (s : State) (n level : ℕ) (group : Option ℕ) (path : Bytes) → at_pointer (λ p. has_gate (record { incident = n; path = p }) level group s) path ≡ at_pointer (stands_gate s n level group) path
gate_stands s n level group path = at_same (λ p. has_gate (record { incident = n; path = p }) level group s) (stands_gate s n level group) path (λ p.
    any_same (λ (g : Gate). is_gate_at (record { incident = n; path = p }) g && (g.gate.level == level && same_group g.gate.group group))
    (λ (g : Gate). g.incident == n && (same_path g.gate.path p && (g.gate.level == level && same_group g.gate.group group))) s.gates
    (λ g. and_and (g.incident == n) (same_path g.gate.path p) (g.gate.level == level && same_group g.gate.group group)))

-- ---- the requests

pub post : (s : State) (a : Person) (r : Post) → first_answer (grounds_by (facts_of s a (ask.Post r)) a (ask.Post r)) ≡ first_answer (grounds s a (ask.Post r))
post s a r =
    let d = r.distribution in
    let docs = documents_in r.document in
    first_alike (grounds_by (facts_of s a (ask.Post r)) a (ask.Post r)) (grounds s a (ask.Post r))
    (refl, λ _. (refl, λ _. (refl, λ _. (refl, λ _. (refl, λ _. (refl, λ _. (refl, λ _. (joined s a d, λ _. (refl, λ _. (posted_before s a docs, λ _. (refl, λ _. (gates_given d.gates, λ _. tt))))))))))))

pub replace : (s : State) (a : Person) (r : Replace) → first_answer (grounds_by (facts_of s a (ask.Replace r)) a (ask.Replace r)) ≡ first_answer (grounds s a (ask.Replace r))
replace s a r =
    let n = r.incident in
    let d = r.distribution in
    let docs = documents_in r.document in
    first_alike (grounds_by (facts_of s a (ask.Replace r)) a (ask.Replace r)) (grounds s a (ask.Replace r)) (
      refl,
      λ _. (
        refl,
        λ _. (
          refl,
          λ _. (
            refl,
            λ _. (
              refl,
              λ _. (
                refl,
                λ _. (
                  refl,
                  λ _. (
                    ours s a n,
                    λ mine. (
                      joined s a d,
                      λ _. (
                        refl,
                        λ _. (
                          ident s n docs,
                          λ _. (
                            seen s n r.revision,
                            λ _. (
                              revisions s n,
                              λ _.
                                  (ap (over GATE_LIMIT) (counted_there s n (λ m. length_as_u32 d.gates) (there s a n mine)) ∙ gates_given d.gates, λ _. tt),
                            ),
                          ),
                        ),
                      ),
                    ),
                  ),
                ),
              ),
            ),
          ),
        ),
      ),
    )

pub redistribute : (s : State) (a : Person) (r : Redistribute) → first_answer (grounds_by (facts_of s a (ask.Redistribute r)) a (ask.Redistribute r)) ≡ first_answer (grounds s a (ask.Redistribute r))
redistribute s a r =
    let n = r.incident in
    first_alike (grounds_by (facts_of s a (ask.Redistribute r)) a (ask.Redistribute r)) (grounds s a (ask.Redistribute r)) (
      refl,
      λ _. (
        refl,
        λ good. (
          refl,
          λ _. (
            refl,
            λ _. (
              ours s a n,
              λ mine. (
                ap unknown_unless (own_group s a r.group),
                λ _. (
                  place_at s n r.path,
                  λ _. (
                    ap already (gate_stands s n r.level r.group r.path),
                    λ _. (
                      seen s n r.revision,
                      λ _.
                          (more_gates s a r good (there s a n mine), λ _. tt),
                    ),
                  ),
                ),
              ),
            ),
          ),
        ),
      ),
    )

pub address : (s : State) (a : Person) (r : Address) → first_answer (grounds_by (facts_of s a (ask.Address r)) a (ask.Address r)) ≡ first_answer (grounds s a (ask.Address r))
address s a r =
    let n = r.incident in
    first_alike (grounds_by (facts_of s a (ask.Address r)) a (ask.Address r)) (grounds s a (ask.Address r))
    (refl, λ _. (ours s a n, λ mine. (ap unknown_unless (target_there s r.target), λ _. (refl, λ _. (more_recipients s a r (there s a n mine), λ _. tt)))))

pub unaddress : (s : State) (a : Person) (r : Unaddress) → first_answer (grounds_by (facts_of s a (ask.Unaddress r)) a (ask.Unaddress r)) ≡ first_answer (grounds s a (ask.Unaddress r))
unaddress s a r =
    first_alike (grounds_by (facts_of s a (ask.Unaddress r)) a (ask.Unaddress r)) (grounds s a (ask.Unaddress r))
    (refl, λ _. (ours s a r.incident, λ _. (refl, λ _. tt)))

pub sharing : (s : State) (a : Person) (n : ℕ) → first_answer (grounds_by (facts_of s a (ask.Sharing n)) a (ask.Sharing n)) ≡ first_answer (grounds s a (ask.Sharing n))
sharing s a n = first_alike (grounds_by (facts_of s a (ask.Sharing n)) a (ask.Sharing n)) (grounds s a (ask.Sharing n)) (ours s a n, λ _. tt)

pub grant : (s : State) (a : Person) (r : Grant) → first_answer (grounds_by (facts_of s a (ask.Grant r)) a (ask.Grant r)) ≡ first_answer (grounds s a (ask.Grant r))
grant s a r =
    let n = r.incident in
    first_alike (grounds_by (facts_of s a (ask.Grant r)) a (ask.Grant r)) (grounds s a (ask.Grant r)) (
      refl,
      λ _. (
        refl,
        λ good. (
          ours s a n,
          λ mine. (
            ap unknown_unless (grantee_there s a r.grantee),
            λ _. (
              class_at s n r.path,
              λ _. (
                refl,
                λ _. (
                  seen s n r.revision,
                  λ _.
                      (more_permissions s a r good (there s a n mine), λ _. tt),
                ),
              ),
            ),
          ),
        ),
      ),
    )

pub withdraw : (s : State) (a : Person) (r : Withdraw) → first_answer (grounds_by (facts_of s a (ask.Withdraw r)) a (ask.Withdraw r)) ≡ first_answer (grounds s a (ask.Withdraw r))
withdraw s a r =
    first_alike (grounds_by (facts_of s a (ask.Withdraw r)) a (ask.Withdraw r)) (grounds s a (ask.Withdraw r))
    (refl, λ _. (refl, λ _. (ours s a r.incident, λ _. (refl, λ _. tt))))

pub explain : (s : State) (a : Person) (r : Explain) → first_answer (grounds_by (facts_of s a (ask.Explain r)) a (ask.Explain r)) ≡ first_answer (grounds s a (ask.Explain r))
explain s a r =
    let n = r.incident in
    first_alike (grounds_by (facts_of s a (ask.Explain r)) a (ask.Explain r)) (grounds s a (ask.Explain r))
    (refl, λ _. (refl, λ _. (ap not_for_you (none_is (incident_of n s)), λ _. (ap unknown_unless (active_there s r.person), λ _. (class_at s n r.path, λ _. tt)))))

-- ---- what is changed
