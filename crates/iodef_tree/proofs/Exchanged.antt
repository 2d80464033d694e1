-- A root whose member `Incident` is exchanged.
use Rattle.std.proofs.Common.{◌≡◌, ℕ, List, [], ◌∷◌, Option, Some, None, option_map, option_and_then, Vec, String, BTreeMap, Global, Ordering, Equal}
use Rattle.std.proofs.{Common.{string_bytes, string_cmp, nat_cmp, refl, sym, ap, ◌∙◌, rules, codes, arith}, lemmas.Cmp.{nat_list_cmp_total, tied_itself}}
use Rattle.std.specs.{BTreeMap.{insert_entry, is_at}, Cmp.Lexicographic.slice_cmp, List.AllZip, Map.lookup, Ordering.match_ordering}
use Rattle.serde_json.{proofs.Views.{view-Array, view-Object, view-lookup, members_view-insert_entry}, specs.{Data.{Data, put}, Find.{as_array, get_member}}}
use Rattle.{serde_json.specs.{View.{view, members_view}, declared.value.Value.{Value, Null, Array, Object, the_lemmas}}, iodef_tree.proofs.FromValues.MapEntry}
use Rattle.iodef_tree.specs.{Reading.with_incident, inner.FitValues.taken}
use Rattle.serde_json.specs.Data as json

same_text : (xs : List ℕ) → slice_cmp nat_cmp xs xs ≡ Equal
same_text xs = tied_itself nat_list_cmp_total xs

put_twice_at : (o : Ordering) (k l : List ℕ) (v w e : Data) (ms : json.Members) → slice_cmp nat_cmp k l ≡ o → put k w (put k v ms) ≡ put k w ms
    → put k w (match_ordering o (json.member k v (json.member l e ms)) (json.member l v ms) (json.member l e (put k v ms)))
    ≡ match_ordering o (json.member k w (json.member l e ms)) (json.member l w ms) (json.member l e (put k w ms))
put_twice_at o k l v w e ms is later = grind (arith, same_text)

-- a value put at a name replaces the one that was put there before
pub put_twice : (k : List ℕ) (v w : Data) (ms : json.Members) → put k w (put k v ms) ≡ put k w ms
put_twice k v w json.no_members = rw same_text
put_twice k v w (json.member l e ms) = put_twice_at (slice_cmp nat_cmp k l) k l v w e ms refl (put_twice k v w ms)

view-Null : view Null ≡ json.null
view-Null = search (rules, the_lemmas)

taken_at : (body : Value) (m : BTreeMap (String Global) Value) (name : String Global) (old : Option Value) → body ≡ Object m → string_bytes name ≡ codes "Incident" → old ≡ lookup (is_at (string_cmp name)) m.entries
    → taken (view body) ≡ option_map (λ ds. (put (codes "Incident") json.null (members_view m.entries), ds)) (option_and_then as_array (option_map view old))
taken_at body m name old is named found =
    let at : get_member (codes "Incident") (members_view m.entries) ≡ option_map view old = rw (← named) (sym (view-lookup (string_bytes name) m.entries) ∙ ap (option_map view) (sym found)) in
    rw (is, view-Object m, at)

pub taken_none : (body : Value) (m : BTreeMap (String Global) Value) (name : String Global) (old : Option Value) → body ≡ Object m → string_bytes name ≡ codes "Incident" → old ≡ lookup (is_at (string_cmp name)) m.entries
    → option_and_then as_array (option_map view old) ≡ None → taken (view body) ≡ None
taken_none body m name old is named found none = taken_at body m name old is named found ∙ rw none

pub taken_some : (body : Value) (m n : BTreeMap (String Global) Value) (name : String Global) (old : Option Value) (ds : json.Items) → body ≡ Object m → string_bytes name ≡ codes "Incident" → old ≡ lookup (is_at (string_cmp name)) m.entries
    → option_and_then as_array (option_map view old) ≡ Some ds → n.entries ≡ insert_entry string_cmp m.entries name Null → taken (view body) ≡ Some (members_view n.entries, ds)
taken_some body m n name old ds is named found some after =
    let left : members_view n.entries ≡ put (codes "Incident") json.null (members_view m.entries) = rw (after, members_view-insert_entry m.entries name Null, named, view-Null) in
    taken_at body m name old is named found ∙ rw (some, left)

-- the members with an array of one Incident
pub put_in : (es new : List MapEntry) (name : String Global) (v : Vec Value Global) (incident : Value) → new ≡ insert_entry string_cmp es name (Array v) → string_bytes name ≡ codes "Incident" → v.items ≡ incident ∷ []
    → members_view new ≡ with_incident (view incident) (members_view es)
put_in es new name v incident after named one = rw (after, members_view-insert_entry es name (Array v), named, view-Array v, one)

-- a copy has the same members
pub cloned : (es fs : List MapEntry) → AllZip (λ p q. (string_bytes q.0 ≡ string_bytes p.0) × (view q.1 ≡ view p.1)) es fs → members_view fs ≡ members_view es
cloned (e ∷ es) (f ∷ fs) h = rw (h.0.0, h.0.1, cloned es fs h.1)
cloned es fs h = grind arith
