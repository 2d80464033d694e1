-- A Redistribute leaves a sound state.
use Rattle.std.proofs.Common.{◌≡◌, ℕ, ◌+◌, ◌≤◌, ◌==◌, ◌&&◌, Bool, true, false, not, List, [], ◌∷◌, filter, Option, Some, None, refl, sym, ap, ◌∙◌, subst, ◌||◌}
use Rattle.std.proofs.lemmas.Bool.{and_parts, eq-eqb, eqb-true, false_from_ne_true, ltb-false, not-false, not-true, not_from_false}
use Rattle.{std.specs.{Option.option_map_or, Prelude.{count_by, option_map}}, hub_state.proofs.Keeping.{never, each_passes, count_more, count_same, count_none}}
use Rattle.hub_state.{proofs.{Keeping.count_kept, Keys.apart_gate}, specs.{Aftermath.{changed, put_gate}, Documents.{at_pointer, is_class_in}}}
use Rattle.hub_state.specs.{Edits.with_edits, Facts.{facts_of, gates_then}, Orders.gate_total, Requests.is_own_group, Sound.{IsSound, SoundGates, IsGroupIfAny}}
use Rattle.hub_state.specs.State.{State, gate_cmp, gate_key, gate_with, is_gate_at, is_place_of, root_gates, class_gates, incident_of}
use Rattle.hub_state.specs.declared.{TheConstants.GATE_LIMIT, edit.Edit.TheVariants.TakeGate, request.Redistribute.Redistribute, state.Gate.Gate}
use Rattle.{hub_state.specs.declared.state.{GateKey.GateKey, Incident.Incident}, iodef_tree.proofs.Order.{same_path-true, same_path-refl}}
use Rattle.{iodef_tree.specs.{Pointer.pointer_tokens, Text.{Tokens, is_root, same_path}}, circle.proofs.{Judged.passed, Keeping.{each_put, each_left}}}
use Rattle.circle.{proofs.Keeping.{each_weaker, pairs_left, order_put}, specs.{Ordered.put_by, declared.directory.Person.Person}}
use Rattle.hub_core.{proofs.{Agrees.agrees, Named.{own, counted_is, group_if_any, of_document}}, specs.Judgement.{grounds_by, is_place_at}}
use Rattle.hub_core.specs.Refusals.{refusal_of}
use Rattle.hub_state.specs.declared.request.Request.TheVariants as ask

root_is : (p : Tokens) → is_root p ≡ true → p ≡ []
root_is [] h = refl
root_is (x ∷ p) h = cc

-- ---- counts by a test of the gate's place, after an exchange of the gate at one place

at_place : (key : GateKey) (g : Gate) → is_gate_at key g ≡ true → (g.incident ≡ key.incident) × (g.gate.path ≡ key.path)
at_place key g h = let parts = and_parts (g.incident == key.incident) (same_path g.gate.path key.path) h in (eqb-true g.incident key.incident parts.0, same_path-true g.gate.path key.path parts.1)

abbrev other : GateKey → Gate → Bool
other key g = not (is_gate_at key g)

-- the count is the same if the place doesn't pass
count_elsewhere : (test : ℕ → Tokens → Bool) (row : Gate) (gates : List Gate) → test row.incident row.gate.path ≡ false →
    count_by (λ (g : Gate). test g.incident g.gate.path) (put_by gate_cmp row (filter (other (gate_key row)) gates)) ≡ count_by (λ (g : Gate). test g.incident g.gate.path) gates
count_elsewhere test row gates out =
    count_same (λ (g : Gate). test g.incident g.gate.path) gate_cmp row (filter (other (gate_key row)) gates) out
    ∙ count_kept (λ (g : Gate). test g.incident g.gate.path) (other (gate_key row)) gates
    (λ g h. not_from_false (is_gate_at (gate_key row) g) (false_from_ne_true (is_gate_at (gate_key row) g) (λ at.
    let where_it_is = at_place (gate_key row) g at in
    never (test g.incident g.gate.path) h (ap (λ m. test m g.gate.path) where_it_is.0 ∙ (ap (test row.incident) where_it_is.1 ∙ out)))))

abbrev root_test : ℕ → ℕ → Tokens → Bool
root_test m n p = n == m && is_root p

is_gate_there : (n m : ℕ) (p q : Tokens) (i : ℕ) → root_test m n p ≡ true → root_test m i q ≡ true → (i == n && same_path q p) ≡ true
is_gate_there n m p q i here there =
    let a = and_parts (n == m) (is_root p) here in
    let b = and_parts (i == m) (is_root q) there in
    let same : i ≡ n = eqb-true i m b.0 ∙ sym (eqb-true n m a.0) in
    let root : q ≡ p = root_is q b.1 ∙ sym (root_is p a.1) in
    subst (λ k. (k == n && same_path q p) ≡ true) (sym same) (subst (λ r. (n == n && same_path r p) ≡ true) (sym root) (ap (λ b. b && same_path p p) (eq-eqb n n refl) ∙ same_path-refl p))

-- the root keeps one gate
one_root : (row : Gate) (gates : List Gate) (m : ℕ) → root_gates m gates ≡ 1 → root_gates m (put_by gate_cmp row (filter (other (gate_key row)) gates)) ≡ 1
one_root row gates m was = split (root_test m row.incident row.gate.path) refl
  where
    split : (b : Bool) → root_test m row.incident row.gate.path ≡ b → root_gates m (put_by gate_cmp row (filter (other (gate_key row)) gates)) ≡ 1
    split false is = count_elsewhere (root_test m) row gates is ∙ was
    split true is =
        count_more (λ (g : Gate). root_test m g.incident g.gate.path) gate_cmp row (filter (other (gate_key row)) gates) is
        ∙ ap (λ n. 1 + n) (count_none (λ (g : Gate). root_test m g.incident g.gate.path) (filter (other (gate_key row)) gates)
        (each_weaker _ _ (filter (other (gate_key row)) gates) (λ g h. false_from_ne_true (root_test m g.incident g.gate.path) (λ there. never (is_gate_at (gate_key row) g) (is_gate_there row.incident m row.gate.path g.gate.path g.incident is there) (not-true (is_gate_at (gate_key row) g) h)))
        (each_passes (other (gate_key row)) gates)))

abbrev class_test : ℕ → ℕ → Tokens → Bool
class_test m n p = n == m && not (is_root p)

-- no incident has more gates at classes than the limit
still_few : (row : Gate) (gates : List Gate) (m : ℕ) → class_gates row.incident (put_by gate_cmp row (filter (other (gate_key row)) gates)) ≤ GATE_LIMIT → class_gates m gates ≤ GATE_LIMIT → class_gates m (put_by gate_cmp row (filter (other (gate_key row)) gates)) ≤ GATE_LIMIT
still_few row gates m here there = split (row.incident == m) refl
  where
    split : (b : Bool) → (row.incident == m) ≡ b → class_gates m (put_by gate_cmp row (filter (other (gate_key row)) gates)) ≤ GATE_LIMIT
    split true is = subst (λ k. class_gates k (put_by gate_cmp row (filter (other (gate_key row)) gates)) ≤ GATE_LIMIT) (eqb-true row.incident m is) here
    split false is = subst (λ k. k ≤ GATE_LIMIT) (sym (count_elsewhere (class_test m) row gates (ap (λ b. b && not (is_root row.gate.path)) is))) there

-- ---- the request

with_gates : (s : State) (rows : List Gate) → IsSound s → SoundGates s.directory.groups s.incidents rows → IsSound (record s { gates = rows })
with_gates s rows h new = record { directory = h.directory; incidents = h.incidents; gates = new; recipients = h.recipients; permissions = h.permissions }

redistributed_at : (s : State) (n : ℕ) (o : Option Tokens) (level : ℕ) (group : Option ℕ) → IsSound s →
    option_map_or (is_place_of s.incidents n) o false ≡ true → IsGroupIfAny s.directory.groups group →
    class_gates n (with_edits (option_map_or (λ p. TakeGate (record { incident = n; path = p }) ∷ put_gate n level group p) o []) s).gates ≤ GATE_LIMIT →
    IsSound (with_edits (option_map_or (λ p. TakeGate (record { incident = n; path = p }) ∷ put_gate n level group p) o []) s)
redistributed_at s n None level group h place known few = h
redistributed_at s n (Some p) level group h place known few =
    let key : GateKey = record { incident = n; path = p } in
    let row : Gate = gate_with key level group in
    let left : List Gate = filter (other key) s.gates in
    with_gates s _ h (record {
      rising = order_put gate_cmp row left gate_total (each_weaker _ _ left (λ g e. apart_gate key g (not-true (is_gate_at key g) e)) (each_passes (other key) s.gates)) (pairs_left _ _ s.gates h.gates.rising);
      places = each_put _ gate_cmp row left place (each_left _ _ s.gates h.gates.places);
      ends = each_put _ gate_cmp row left known (each_left _ _ s.gates h.gates.ends);
      roots = each_weaker _ _ s.incidents (λ i e. one_root row s.gates i.naming.number e) h.gates.roots;
      limit = each_weaker _ _ s.incidents (λ i e. still_few row s.gates i.naming.number few e) h.gates.limit;
    })

pub redistribute_kept : (s : State) (a : Person) (r : Redistribute) → IsSound s → refusal_of s a (ask.Redistribute r) ≡ None → IsSound (changed s a (ask.Redistribute r))
redistribute_kept s a r h fine =
    let n = r.incident in
    let p = passed (grounds_by (facts_of s a (ask.Redistribute r)) a (ask.Redistribute r)) (agrees s a (ask.Redistribute r) ∙ fine) in
    let it = own s a n p.1.1.1.1.0 in
    let few : gates_then s a (ask.Redistribute r) ≤ GATE_LIMIT = ltb-false GATE_LIMIT _ p.1.1.1.1.1.1.1.1.1.0 in
    redistributed_at s n (pointer_tokens r.path) r.level r.group h (sym (of_document (λ doc p. is_root p || is_class_in doc p) (incident_of n s) r.path) ∙ not-false (at_pointer (is_place_at (option_map (λ (i : Incident). i.document) (incident_of n s))) r.path) p.1.1.1.1.1.1.0) (group_if_any s a r.group h.directory (not-false (is_own_group s a r.group) p.1.1.1.1.1.0))
    (subst (λ m. m ≤ GATE_LIMIT) (counted_is s n it.incident (λ m. class_gates m (changed s a (ask.Redistribute r)).gates) it.found) few)
