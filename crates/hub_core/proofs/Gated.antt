-- The gates of a new or exchanged incident: the one at its root, and those of the request.
use Rattle.std.proofs.Common.{◌≡◌, ℕ, ◌+◌, ◌≤◌, ◌==◌, ◌&&◌, ◌||◌, Bool, true, false, not, List, [], ◌∷◌, length, map, Option, Some, None, refl, sym, ap, ◌∙◌}
use Rattle.std.{proofs.{Common.{subst, arith}, lemmas.Bool.{and_from, and_left, and_right, eqb-true, or_parts, or_right}}, specs.List.{list_any, flat_map}}
use Rattle.{std.specs.{Option.option_map_or, Str.bytes_eq, declared.cmp.Ordering.TheVariants.Less}, iodef_tree.proofs.Inverse.pointer_text-pointer_tokens}
use Rattle.{iodef_tree.specs.{Pointer.{pointer_text, pointer_tokens}, Text.{Bytes, Tokens, is_root, same_path}}, circle.proofs.Keeping.{each_put, each_weaker}}
use Rattle.{circle.{proofs.Keeping.order_put, specs.{Ordered.put_by, Sound.{Each, Pairwise}, declared.directory.Group.Group}}, hub_state.proofs.Keeping.never}
use Rattle.hub_state.{proofs.{Keeping.{count_more, count_same, count_none, count_next, each_both}, Keys.{apart_gate, apart_text}}, specs.Aftermath.put_gate}
use Rattle.hub_state.specs.{Aftermath.put_gates, Documents.{at_pointer, made_at, is_class_in}, Edits.with_edits, Orders.gate_total, Sound.SoundGates}
use Rattle.hub_state.specs.{Sound.IsGroupIfAny, State.{State, gate_cmp, incident_in, is_class_of, is_place_of, root_gates, class_gates}}
use Rattle.hub_state.specs.declared.{TheConstants.GATE_LIMIT, request.{Distribution.Distribution, WantedGate.WantedGate}, state.{Gate.Gate, Incident.Incident}}
use Rattle.hub_core.specs.Refusals.{stands_twice}
pub use Rattle.hub_state.proofs.Then.{after_append}

-- ---- the gates after the edits

abbrev pub put_wanted : ℕ → List WantedGate → List Gate → List Gate
put_wanted n [] gates = gates
put_wanted n (w ∷ ws) gates = put_wanted n ws (option_map_or (λ p. put_by gate_cmp (record { incident = n; gate = record { path = p; level = w.level; group = w.group } }) gates) (pointer_tokens w.path) gates)

abbrev pub put_all : ℕ → Distribution → List Gate → List Gate
put_all n d gates = put_wanted n d.gates (put_by gate_cmp (record { incident = n; gate = record { path = []; level = d.level; group = d.group } }) gates)

after_wanted : (n : ℕ) (wanted : List WantedGate) (s : State) → with_edits (flat_map (λ (g : WantedGate). made_at (put_gate n g.level g.group) g.path) wanted) s ≡ record s { gates = put_wanted n wanted s.gates }
after_wanted n [] s = refl
after_wanted n (w ∷ ws) s =
    after_append (made_at (put_gate n w.level w.group) w.path) (flat_map (λ (g : WantedGate). made_at (put_gate n g.level g.group) g.path) ws) s
    ∙ split (pointer_tokens w.path) (after_wanted n ws)
  where
    split : (o : Option Tokens) → ((t : State) → with_edits (flat_map (λ (g : WantedGate). made_at (put_gate n g.level g.group) g.path) ws) t ≡ record t { gates = put_wanted n ws t.gates })
        → with_edits (flat_map (λ (g : WantedGate). made_at (put_gate n g.level g.group) g.path) ws) (with_edits (option_map_or (put_gate n w.level w.group) o []) s)
        ≡ record s { gates = put_wanted n ws (option_map_or (λ p. put_by gate_cmp (record { incident = n; gate = record { path = p; level = w.level; group = w.group } }) s.gates) o s.gates) }
    split None rest = rest s
    split (Some p) rest = rest (with_edits (put_gate n w.level w.group p) s)

pub after_gates : (n : ℕ) (d : Distribution) (s : State) → with_edits (put_gates n d) s ≡ record s { gates = put_all n d s.gates }
after_gates n d s = after_wanted n d.gates (with_edits (put_gate n d.level d.group []) s)

-- ---- the gates of the request, one after another

-- a gate of the request is at a class of the incident, and its group is there
pub record IsWanted (groups : List Group) (incidents : List Incident) (n : ℕ) (w : WantedGate) : Type 0 where
  pub group : IsGroupIfAny groups w.group
  pub place : at_pointer (is_class_of incidents n) w.path ≡ true
  pub below : at_pointer is_root w.path ≡ false

abbrev is_at : ℕ → Bytes → Gate → Bool
is_at n text g = g.incident == n && bytes_eq (pointer_text g.gate.path) text

-- no gate is at the place of another one of the request
record Ready (groups : List Group) (incidents : List Incident) (n : ℕ) (wanted : List WantedGate) (gates : List Gate) : Type 0 where
  rising : Pairwise (λ a b. gate_cmp a b ≡ Less) gates
  places : Each (λ (g : Gate). is_place_of incidents g.incident g.gate.path ≡ true) gates
  ends : Each (λ (g : Gate). IsGroupIfAny groups g.gate.group) gates
  fresh : Each (λ (w : WantedGate). Each (λ (g : Gate). is_at n w.path g ≡ false) gates) wanted

-- the same rows, with at most so many gates at the incident's classes added
record Gains (groups : List Group) (incidents : List Incident) (n : ℕ) (most : ℕ) (before gates : List Gate) : Type 0 where
  rising : Pairwise (λ a b. gate_cmp a b ≡ Less) gates
  places : Each (λ (g : Gate). is_place_of incidents g.incident g.gate.path ≡ true) gates
  ends : Each (λ (g : Gate). IsGroupIfAny groups g.gate.group) gates
  roots : (m : ℕ) → root_gates m gates ≡ root_gates m before
  others : (m : ℕ) → (n == m) ≡ false → class_gates m gates ≡ class_gates m before
  own : class_gates n gates ≤ most + class_gates n before

-- a class is a place
class_place : (o : Option Incident) (p : Tokens) → option_map_or (λ (i : Incident). is_class_in i.document p) o false ≡ true → option_map_or (λ (i : Incident). is_root p || is_class_in i.document p) o false ≡ true
class_place None p h = h
class_place (Some i) p h = or_right (is_root p) (is_class_in i.document p) h

none_map : (text : Bytes) (ws : List WantedGate) → list_any (bytes_eq text) (map (λ (g : WantedGate). g.path) ws) ≡ false → Each (λ (w : WantedGate). bytes_eq text w.path ≡ false) ws
none_map text [] h = tt
none_map text (w ∷ ws) h = let parts = or_parts (bytes_eq text w.path) (list_any (bytes_eq text) (map (λ (g : WantedGate). g.path) ws)) h in (parts.0, none_map text ws parts.1)

wanted_put : (groups : List Group) (incidents : List Incident) (n : ℕ) (wanted : List WantedGate) (gates : List Gate) → Each (IsWanted groups incidents n) wanted → stands_twice (map (λ (g : WantedGate). g.path) wanted) ≡ false →
    Ready groups incidents n wanted gates → Gains groups incidents n (length wanted) gates (put_wanted n wanted gates)
wanted_put groups incidents n [] gates fit once h = record { rising = h.rising; places = h.places; ends = h.ends; roots = λ m. refl; others = λ m e. refl; own = omega arith }
wanted_put groups incidents n (w ∷ ws) gates fit once h =
    let parts = or_parts (list_any (bytes_eq w.path) (map (λ (g : WantedGate). g.path) ws)) (stands_twice (map (λ (g : WantedGate). g.path) ws)) once in
    split (pointer_tokens w.path) refl (none_map w.path ws parts.0) (λ more ready. wanted_put groups incidents n ws more fit.1 parts.1 ready)
  where
    split : (o : Option Tokens) → pointer_tokens w.path ≡ o → Each (λ (v : WantedGate). bytes_eq w.path v.path ≡ false) ws
        → ((more : List Gate) → Ready groups incidents n ws more → Gains groups incidents n (length ws) more (put_wanted n ws more))
        → Gains groups incidents n (length (w ∷ ws)) gates (put_wanted n ws (option_map_or (λ p. put_by gate_cmp (record { incident = n; gate = record { path = p; level = w.level; group = w.group } }) gates) o gates))
    split None is differ rest = never false (sym (ap (λ o. option_map_or (is_class_of incidents n) o false) is) ∙ fit.0.place) refl
    split (Some p) is differ rest =
        let row : Gate = record { incident = n; gate = record { path = p; level = w.level; group = w.group } } in
        let text : pointer_text p ≡ w.path = pointer_text-pointer_tokens w.path p is in
        let class : is_class_of incidents n p ≡ true = sym (ap (λ o. option_map_or (is_class_of incidents n) o false) is) ∙ fit.0.place in
        let below : is_root p ≡ false = sym (ap (λ o. option_map_or is_root o false) is) ∙ fit.0.below in
        let all = rest (put_by gate_cmp row gates) (record {
          rising = order_put gate_cmp row gates gate_total (each_weaker _ _ gates (λ g e. apart_text n g.incident (pointer_text p) (pointer_text g.gate.path) (subst (λ t. (g.incident == n && bytes_eq (pointer_text g.gate.path) t) ≡ false) (sym text) e)) h.fresh.0) h.rising;
          places = each_put (λ (g : Gate). is_place_of incidents g.incident g.gate.path ≡ true) gate_cmp row gates (class_place (incident_in n incidents) p class) h.places;
          ends = each_put (λ (g : Gate). IsGroupIfAny groups g.gate.group) gate_cmp row gates fit.0.group h.ends;
          fresh = each_weaker _ _ ws (λ v e. each_put (λ (g : Gate). is_at n v.path g ≡ false) gate_cmp row gates (and_right (n == n) (bytes_eq (pointer_text p) v.path) (subst (λ t. bytes_eq t v.path ≡ false) (sym text) e.0)) e.1) (each_both _ _ ws differ h.fresh.1);
        }) in
        record {
          rising = all.rising;
          places = all.places;
          ends = all.ends;
          roots = λ m. all.roots m ∙ count_same (λ (g : Gate). g.incident == m && is_root g.gate.path) gate_cmp row gates (and_right (n == m) (is_root p) below);
          others = λ m e. all.others m e ∙ count_same (λ (g : Gate). g.incident == m && not (is_root g.gate.path)) gate_cmp row gates (and_left (n == m) (not (is_root p)) e);
          own = let more = all.own in let next = count_next (λ (g : Gate). g.incident == n && not (is_root g.gate.path)) gate_cmp row gates in omega (arith, more, next);
        }

-- ---- all gates of an incident that had none

-- the other rows of the state
pub record IsBeside (groups : List Group) (incidents : List Incident) (n : ℕ) (gates : List Gate) : Type 0 where
  pub rising : Pairwise (λ a b. gate_cmp a b ≡ Less) gates
  pub places : Each (λ (g : Gate). is_place_of incidents g.incident g.gate.path ≡ true) gates
  pub ends : Each (λ (g : Gate). IsGroupIfAny groups g.gate.group) gates
  pub others : Each (λ (g : Gate). (g.incident == n) ≡ false) gates
  pub roots : Each (λ (i : Incident). (n == i.naming.number) ≡ false → root_gates i.naming.number gates ≡ 1) incidents
  pub limit : Each (λ (i : Incident). (n == i.naming.number) ≡ false → class_gates i.naming.number gates ≤ GATE_LIMIT) incidents

not_empty : (text : Bytes) → at_pointer is_root text ≡ false → bytes_eq [] text ≡ false
not_empty [] h = cc
not_empty (c ∷ cs) h = refl

pub given : (groups : List Group) (incidents : List Incident) (n : ℕ) (d : Distribution) (gates : List Gate) (i : Incident) → incident_in n incidents ≡ Some i → IsGroupIfAny groups d.group →
    Each (IsWanted groups incidents n) d.gates → stands_twice (map (λ (g : WantedGate). g.path) d.gates) ≡ false → length d.gates ≤ GATE_LIMIT → IsBeside groups incidents n gates → SoundGates groups incidents (put_all n d gates)
given groups incidents n d gates i found known fit once few h =
    let row : Gate = record { incident = n; gate = record { path = []; level = d.level; group = d.group } } in
    let first : List Gate = put_by gate_cmp row gates in
    let root : is_place_of incidents n [] ≡ true = ap (λ o. option_map_or (λ (i : Incident). true) o false) found in
    let all = wanted_put groups incidents n d.gates first fit once (record {
      rising = order_put gate_cmp row gates gate_total (each_weaker _ _ gates (λ g e. apart_gate (record { incident = n; path = [] }) g (and_left (g.incident == n) (same_path g.gate.path []) e)) h.others) h.rising;
      places = each_put (λ (g : Gate). is_place_of incidents g.incident g.gate.path ≡ true) gate_cmp row gates root h.places;
      ends = each_put (λ (g : Gate). IsGroupIfAny groups g.gate.group) gate_cmp row gates known h.ends;
      fresh = each_weaker _ _ d.gates (λ w e. each_put (λ (g : Gate). is_at n w.path g ≡ false) gate_cmp row gates (and_right (n == n) (bytes_eq [] w.path) (not_empty w.path e.below)) (each_weaker _ _ gates (λ g o. and_left (g.incident == n) (bytes_eq (pointer_text g.gate.path) w.path) o) h.others)) fit;
    }) in
    record {
      rising = all.rising;
      places = all.places;
      ends = all.ends;
      roots = each_weaker _ _ incidents (λ x e. all.roots x.naming.number ∙ roots_at x.naming.number e) h.roots;
      limit = each_weaker _ _ incidents (λ x e. limit_at all.own all.others x.naming.number e) h.limit;
    }
  where
    no_root : root_gates n gates ≡ 0
    no_root = count_none (λ (g : Gate). g.incident == n && is_root g.gate.path) gates (each_weaker _ _ gates (λ g e. and_left (g.incident == n) (is_root g.gate.path) e) h.others)

    no_class : class_gates n gates ≡ 0
    no_class = count_none (λ (g : Gate). g.incident == n && not (is_root g.gate.path)) gates (each_weaker _ _ gates (λ g e. and_left (g.incident == n) (not (is_root g.gate.path)) e) h.others)

    roots_at : (m : ℕ) → ((n == m) ≡ false → root_gates m gates ≡ 1) → root_gates m (put_by gate_cmp (record { incident = n; gate = record { path = []; level = d.level; group = d.group } }) gates) ≡ 1
    roots_at m was = at (n == m) refl
      where
        at : (b : Bool) → (n == m) ≡ b → root_gates m (put_by gate_cmp (record { incident = n; gate = record { path = []; level = d.level; group = d.group } }) gates) ≡ 1
        at true is =
            count_more (λ (g : Gate). g.incident == m && is_root g.gate.path) gate_cmp (record { incident = n; gate = record { path = []; level = d.level; group = d.group } }) gates (and_from (n == m) true is refl)
            ∙ ap (λ k. 1 + k) (subst (λ k. root_gates k gates ≡ 0) (eqb-true n m is) no_root)
        at false is = count_same (λ (g : Gate). g.incident == m && is_root g.gate.path) gate_cmp (record { incident = n; gate = record { path = []; level = d.level; group = d.group } }) gates (and_left (n == m) true is) ∙ was is

    first_same : (m : ℕ) → class_gates m (put_by gate_cmp (record { incident = n; gate = record { path = []; level = d.level; group = d.group } }) gates) ≡ class_gates m gates
    first_same m = count_same (λ (g : Gate). g.incident == m && not (is_root g.gate.path)) gate_cmp (record { incident = n; gate = record { path = []; level = d.level; group = d.group } }) gates (and_right (n == m) false refl)

    at_most_all : (all own had : ℕ) → all ≤ length d.gates + own → own ≡ had → had ≡ 0 → all ≤ GATE_LIMIT
    at_most_all all own had h k none = omega (arith, few)

    limit_at : class_gates n (put_all n d gates) ≤ length d.gates + class_gates n (put_by gate_cmp (record { incident = n; gate = record { path = []; level = d.level; group = d.group } }) gates)
        → ((m : ℕ) → (n == m) ≡ false → class_gates m (put_all n d gates) ≡ class_gates m (put_by gate_cmp (record { incident = n; gate = record { path = []; level = d.level; group = d.group } }) gates))
        → (m : ℕ) → ((n == m) ≡ false → class_gates m gates ≤ GATE_LIMIT) → class_gates m (put_all n d gates) ≤ GATE_LIMIT
    limit_at own others m was = at (n == m) refl
      where
        at : (b : Bool) → (n == m) ≡ b → class_gates m (put_all n d gates) ≤ GATE_LIMIT
        at true is = subst (λ k. class_gates k (put_all n d gates) ≤ GATE_LIMIT) (eqb-true n m is) (at_most_all _ _ _ own (first_same n) no_class)
        at false is = subst (λ k. k ≤ GATE_LIMIT) (sym (others m is ∙ first_same m)) (was is)
