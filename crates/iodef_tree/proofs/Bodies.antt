-- If nothing in a body is refused, its Incidents fit their documents.
use Rattle.std.proofs.Common.{◌≡◌, ℕ, ◌+◌, ◌≤◌, List, true, false, ◌&&◌, Option, Some, Result, Ok, option_and_then, refl, ap, subst, arith, codes}
use Rattle.{std.proofs.lemmas.{Bool.{and_parts, or_from, or_parts}, Option.{cond_some, some_pair_parts}}, serde_json.specs.{Data.{Data, put}, Find.get_member}}
use Rattle.{serde_json.specs.{Find.{as_array, as_object}, Written.{has_float, items_have_float, members_have_float}}, iodef_tree.proofs.Each.{IsEach, put-each}}
use Rattle.iodef_tree.proofs.{Each.get-each, Exchanged.put_twice, Fitness.{whole, IsPlain, plain_ok}, Flat.{plain-flat, flats}, Shallow.{tallest, low_members}}
use Rattle.iodef_tree.{proofs.Shallow.{heights, tallest_le}, specs.Reading.{◌>>=◌, or_fault, if_incidents, incidents_of, documents, parsed, all_complete}}
use Rattle.iodef_tree.specs.{Reading.{all_fit, reading}, Tree.height, Values.{items_of_data, forest_of_data, body_of_data}, declared.TheConstants.DEPTH_LIMIT}
use Rattle.iodef_tree.specs.{declared.fault.ReadFault.{ReadFault, TheVariants.NotDocument}, inner.FitValues.{AreFit, taken, is_element_flat, are_flat}}
use Rattle.iodef_tree.specs.inner.FitValues.{are_members_flat}
use Rattle.serde_json.specs.Data as json

floatless : IsEach (λ d. has_float d ≡ false) (λ ms. members_have_float ms ≡ false)
floatless = grind (arith, or_from, or_parts)

each_fit : (ms : json.Members) (ds : json.Items) → height (forest_of_data ms) ≤ DEPTH_LIMIT → members_have_float ms ≡ false → items_have_float ds ≡ false → are_members_flat ms ≡ true → are_flat ds ≡ true → tallest (items_of_data ds) ≤ DEPTH_LIMIT → AreFit ms ds
each_fit ms json.no_items low free f flat g h = tt
each_fit ms (json.item d ds) low free f flat g h =
    let w = or_parts (has_float d) (items_have_float ds) f in
    let x = and_parts (is_element_flat d) (are_flat ds) g in (
      record {
        whole = put-each _ _ floatless (codes "Incident") (json.array (json.item d json.no_items)) ms (or_from (has_float d) false w.0 refl) free;
        shallow = put-each _ _ (heights DEPTH_LIMIT) (codes "Incident") (json.array (json.item d json.no_items)) ms (omega arith) low;
        flat = put-each _ _ flats (codes "Incident") (json.array (json.item d json.no_items)) ms (ap (λ b. b && true) x.0) flat;
      },
      each_fit ms ds low free w.1 flat x.1 (omega arith),
    )

pub found_array : (o : Option Data) (ds : json.Items) → option_and_then if_incidents (option_and_then as_array o) ≡ Some ds → o ≡ Some (json.array ds)
found_array o ds e = grind (arith, cond_some)

pub fit_object : (ms : json.Members) (ds : json.Items) → IsPlain (json.object ms) → get_member (codes "Incident") ms ≡ Some (json.array ds) → AreFit ms ds
fit_object ms ds p at =
    let free = whole (json.object ms) 0 0 p in
    let low : 1 + height (forest_of_data ms) ≤ 33 = low_members ms 1 (omega arith) p in
    let tall = get-each _ _ (heights (height (forest_of_data ms))) (codes "Incident") ms (json.array ds) (omega arith) at in
    let taller = tallest_le (body_of_data (json.array ds)) (items_of_data ds) in
    let flat = plain-flat ms p in
    each_fit ms ds (omega arith) free (get-each _ _ floatless (codes "Incident") ms (json.array ds) free at) flat (get-each _ _ flats (codes "Incident") ms (json.array ds) flat at) (omega (arith, tall, taller, low))

-- the same documents, whatever value is in place of the Incidents
fit_beside : (ms : json.Members) (v : Data) (ds : json.Items) → AreFit ms ds → AreFit (put (codes "Incident") v ms) ds
fit_beside ms v json.no_items h = tt
fit_beside ms v (json.item d ds) h = grind (arith, put_twice, (fit_beside ms v ds h.1))

pub documents_beside : (ms : json.Members) (v : Data) (ds : json.Items) → documents (put (codes "Incident") v ms) ds ≡ documents ms ds
documents_beside ms v json.no_items = refl
documents_beside ms v (json.item d ds) = rw (put_twice (codes "Incident") v (json.array (json.item d json.no_items)) ms, documents_beside ms v ds)

-- what is known of a body whose root is an object with Incidents
pub record Found (d : Data) (ds : json.Items) : Type 0 where
  pub root : json.Members
  pub is : d ≡ json.object root
  pub at : get_member (codes "Incident") root ≡ Some (json.array ds)
  pub chosen : incidents_of root ≡ Some ds

pub found : (d : Data) (ds : json.Items) → option_and_then incidents_of (as_object d) ≡ Some ds → Found d ds
found d ds e = grind (arith, found_array)

taken_found : (d : Data) (ds : json.Items) (f : Found d ds) → taken d ≡ Some (put (codes "Incident") json.null f.root, ds)
taken_found d ds f = rw (f.is, f.at)

abbrev pub Taken : Type 0
Taken = Result (Option (json.Members × json.Items)) ReadFault

same_taken : (d : Data) (ds : json.Items) (f : Found d ds) (ms : json.Members) (es : json.Items) (t : Taken) → t ≡ Ok (taken d) → t ≡ Ok (Some (ms, es)) → (put (codes "Incident") json.null f.root ≡ ms) × (ds ≡ es)
same_taken d ds f ms es t e h = let was = taken_found d ds f in some_pair_parts _ _ _ _ (cc)

-- what is taken out of a plain body fits
pub fit_taken : (d : Data) (ds : json.Items) (f : Found d ds) (ms : json.Members) (es : json.Items) (t : Taken) → t ≡ Ok (taken d) → t ≡ Ok (Some (ms, es)) → all_fit d ≡ Ok tt → AreFit ms es
fit_taken d ds f ms es t e h p =
    let here = fit_beside f.root json.null ds (fit_object f.root ds (subst IsPlain f.is (plain_ok d p)) f.at) in
    subst (AreFit ms) (same_taken d ds f ms es t e h).1 (subst (λ m. AreFit m ds) (same_taken d ds f ms es t e h).0 here)

some_found : {A : Type 0} (d : Data) (ds : json.Items) (k : json.Members → json.Items → Result A ReadFault) (f : Found d ds)
    → (or_fault NotDocument (as_object d) >>= λ root. or_fault NotDocument (incidents_of root) >>= k root) ≡ k f.root ds
some_found d ds k f = rw (f.is, f.chosen)

pub reading_taken : (bytes : List ℕ) (d : Data) (ds : json.Items) (f : Found d ds) (ms : json.Members) (es : json.Items) (t : Taken) → t ≡ Ok (taken d) → t ≡ Ok (Some (ms, es))
    → parsed bytes ≡ Ok d → all_complete 0 ds ≡ Ok tt → all_fit d ≡ Ok tt → reading bytes ≡ documents ms es
unfolding reading
reading_taken bytes d ds f ms es t e h read whole fine = grind (arith, documents_beside, same_taken, some_found)
