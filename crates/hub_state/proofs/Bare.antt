-- A state without its documents: what is read of it, and what edits make of it.
use Rattle.std.proofs.Common.{◌≡◌, ◌≢◌, ℕ, ◌==◌, ◌&&◌, not, Bool, true, false, if◌then◌else◌, List, [], ◌∷◌, filter, map, length, take, Option, Some, None}
use Rattle.std.{proofs.Common.{refl, sym, ap, ◌∙◌, subst}, specs.{Ordering.is_lt, Prelude.{suc, option_map, nat_lt, find}, Str.bytes_eq}}
use Rattle.{iodef_tree.specs.Text.Bytes, circle.specs.{Ordered.{put_by, by_number}, Sound.{Differ, Each}}, hub_state.specs.Bare.{bare, bare_incident}}
use Rattle.hub_state.specs.{Bare.{bare_edit, kept_edit}, Edits.{edited, with_edits}, Reads.{naming_of, sharing_of, shared_as, case_of, case_for, entry_of}}
use Rattle.hub_state.specs.{Reads.{incidents_above, entries_after}, State.{State, incident_of, incident_named, incident_number}, declared.edit.Edit.Edit}
use Rattle.hub_state.specs.declared.state.Incident.{Incident}
use Rattle.hub_state.specs.declared.edit.Edit.TheVariants as edit

-- ---- lists of what is made of the elements

find_map : {X Y : Type 0} (p : Y → Bool) (f : X → Y) (xs : List X) → find p (map f xs) ≡ option_map f (find (λ x. p (f x)) xs)
find_map p f [] = refl
find_map p f (x ∷ xs) = split (p (f x)) (find_map p f xs)
  where
    split : (b : Bool) → find p (map f xs) ≡ option_map f (find (λ y. p (f y)) xs) → (if b then Some (f x) else find p (map f xs)) ≡ option_map f (if b then Some x else find (λ y. p (f y)) xs)
    split true rest = refl
    split false rest = rest

filter_map_by : {X Y : Type 0} (p : Y → Bool) (f : X → Y) (xs : List X) → filter p (map f xs) ≡ map f (filter (λ x. p (f x)) xs)
filter_map_by p f [] = refl
filter_map_by p f (x ∷ xs) = split (p (f x)) (filter_map_by p f xs)
  where
    split : (b : Bool) → filter p (map f xs) ≡ map f (filter (λ y. p (f y)) xs) → (if b then f x ∷ filter p (map f xs) else filter p (map f xs)) ≡ map f (if b then x ∷ filter (λ y. p (f y)) xs else filter (λ y. p (f y)) xs)
    split true rest = ap (λ ys. f x ∷ ys) rest
    split false rest = rest

-- ---- edits

put_bare : (i : Incident) (is : List Incident) → put_by (by_number incident_number) (bare_incident i) (map bare_incident is) ≡ map bare_incident (put_by (by_number incident_number) i is)
put_bare i [] = refl
put_bare i (j ∷ is) = split (is_lt (by_number incident_number i j)) (put_bare i is)
  where
    split : (b : Bool) → put_by (by_number incident_number) (bare_incident i) (map bare_incident is) ≡ map bare_incident (put_by (by_number incident_number) i is) →
        (if b then bare_incident i ∷ bare_incident j ∷ map bare_incident is else bare_incident j ∷ put_by (by_number incident_number) (bare_incident i) (map bare_incident is))
        ≡ map bare_incident (if b then i ∷ j ∷ is else j ∷ put_by (by_number incident_number) i is)
    split true rest = refl
    split false rest = ap (λ js. bare_incident j ∷ js) rest

edited_bare : (e : Edit) (s : State) → edited (bare_edit e) (bare s) ≡ bare (edited e s)
edited_bare (edit.Directory row) s = refl
edited_bare (edit.PutIncident i) s = ap (λ is. record (bare s) { incidents = is }) (put_bare i s.incidents)
edited_bare (edit.TakeIncident n) s = ap (λ is. record (bare s) { incidents = is }) (filter_map_by (λ (i : Incident). not (i.naming.number == n)) bare_incident s.incidents)
edited_bare (edit.TakePolicy n) s = refl
edited_bare (edit.PutGate g) s = refl
edited_bare (edit.TakeGate key) s = refl
edited_bare (edit.PutRecipient r) s = refl
edited_bare (edit.TakeRecipient r) s = refl
edited_bare (edit.PutPermission x) s = refl
edited_bare (edit.TakePermission key) s = refl

-- edits without their documents lead to the state without its documents
pub edits_bare : (es : List Edit) (s : State) → with_edits (map bare_edit es) (bare s) ≡ bare (with_edits es s)
edits_bare [] s = refl
edits_bare (e ∷ es) s = ap (with_edits (map bare_edit es)) (edited_bare e s) ∙ edits_bare es (edited e s)

-- ---- reads

incident_bare : (n : ℕ) (s : State) → incident_of n (bare s) ≡ option_map bare_incident (incident_of n s)
incident_bare n s = find_map (λ (i : Incident). i.naming.number == n) bare_incident s.incidents

mapped_twice : {X Y Z : Type 0} (f : X → Y) (g : Y → Z) (o : Option X) → option_map g (option_map f o) ≡ option_map (λ x. g (f x)) o
mapped_twice f g None = refl
mapped_twice f g (Some x) = refl

pub naming_bare : (n : ℕ) (s : State) → naming_of n (bare s) ≡ naming_of n s
naming_bare n s = ap (option_map (λ (i : Incident). i.naming)) (incident_bare n s) ∙ mapped_twice bare_incident (λ (i : Incident). i.naming) (incident_of n s)

pub sharing_bare : (n : ℕ) (s : State) → sharing_of n (bare s) ≡ sharing_of n s
sharing_bare n s = ap (option_map (shared_as s)) (naming_bare n s)

pub case_bare : (n : ℕ) (s : State) → case_of n (bare s) ≡ case_of n s
case_bare n s = ap (option_map (case_for s)) (incident_bare n s) ∙ mapped_twice bare_incident (case_for s) (incident_of n s)

pub number_bare : (source : ℕ) (ident : Bytes) (s : State) → option_map incident_number (incident_named source ident (bare s)) ≡ option_map incident_number (incident_named source ident s)
number_bare source ident s =
    ap (option_map incident_number) (find_map (λ (i : Incident). i.naming.source == source && bytes_eq i.naming.ident ident) bare_incident s.incidents)
    ∙ mapped_twice bare_incident incident_number (incident_named source ident s)

map_twice : {X Y Z : Type 0} (f : X → Y) (g : Y → Z) (xs : List X) → map g (map f xs) ≡ map (λ x. g (f x)) xs
map_twice f g [] = refl
map_twice f g (x ∷ xs) = ap (λ zs. g (f x) ∷ zs) (map_twice f g xs)

pub entries_bare : (n most : ℕ) (s : State) → entries_after n most (bare s) ≡ entries_after n most s
entries_bare n most s =
    ap (λ is. take most (map entry_of is)) (filter_map_by (λ (i : Incident). nat_lt n i.naming.number) bare_incident s.incidents)
    ∙ ap (take most) (map_twice bare_incident entry_of (incidents_above n s))

pub count_bare : (s : State) → length (bare s).incidents ≡ length s.incidents
count_bare s = count s.incidents
  where
    count : (is : List Incident) → length (map bare_incident is) ≡ length is
    count [] = refl
    count (i ∷ is) = ap suc (count is)

each_bare : {K : Type 0} (key : Incident → K) (k : K) (is : List Incident) → ((i : Incident) → key (bare_incident i) ≡ key i) → Each (λ j. k ≢ key j) is → Each (λ j. k ≢ key j) (map bare_incident is)
each_bare key k [] same all = tt
each_bare key k (i ∷ is) same all = ((λ e. all.0 (e ∙ same i)), each_bare key k is same all.1)

-- what tells incidents apart without their documents does so in the state without them
pub differ_bare : {K : Type 0} (key : Incident → K) (is : List Incident) → ((i : Incident) → key (bare_incident i) ≡ key i) → Differ key is → Differ key (map bare_incident is)
differ_bare key [] same apart = tt
differ_bare key (i ∷ is) same apart =
    (subst (λ k. Each (λ j. k ≢ key j) (map bare_incident is)) (sym (same i)) (each_bare key (key i) is same apart.0), differ_bare key is same apart.1)

-- ---- copies of edits

pub all_kept : (es : List Edit) → map (kept_edit true) es ≡ es
all_kept [] = refl
all_kept (e ∷ es) = ap (λ fs. e ∷ fs) (all_kept es)
