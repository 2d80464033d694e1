-- The tests that a body that can be read has passed.
use Rattle.std.proofs.Common.{◌≡◌, ◌≤◌, List, true, length, nat_lt, sym, ◌∙◌, ap, subst, Option, Some, Ok, Err, option_and_then, codes, arith}
use Rattle.{std.proofs.lemmas.{Bool.{cond_both, ltb-false}, Option.cond_some}, serde_json.specs.{Data.Data, Find.{get_member, as_array, as_object}, Read.read}}
use Rattle.{json_pointer.specs.Text.Bytes, iodef_tree.{proofs.{Bodies.found_array, Fitness.{IsPlain, bind-ok, plain_ok}}, specs.Reading.{or_fault, parsed}}}
use Rattle.iodef_tree.specs.Reading.{are_incidents, if_incidents, incidents_of, all_complete, all_fit, if_short, documents, reading}
use Rattle.iodef_tree.specs.declared.{TheConstants.LINE_LIMIT, fault.ReadFault.{ReadFault, TheVariants.{NotDocument, TooManyLines}}, line.Line.Line}
use Rattle.serde_json.specs.Data as json

or-ok : {A : Type 0} (e : ReadFault) (o : Option A) (x : A) → or_fault e o ≡ Ok x → o ≡ Some x
or-ok e o x h = grind arith

parsed-ok : (bytes : Bytes) (d : Data) → parsed bytes ≡ Ok d → read bytes ≡ Some d
parsed-ok bytes d h = grind (arith, cond_both)

object-of : (d : Data) (root : json.Members) → as_object d ≡ Some root → d ≡ json.object root
object-of d root h = grind arith

pub short-ok : (ls : List Line) (d : List Line) → if_short ls ≡ Ok d → ls ≡ d
short-ok ls d h = cond_both (nat_lt LINE_LIMIT (length ls)) (Err TooManyLines) (Ok ls) (λ r. r ≡ Ok d → ls ≡ d) (λ _ e. absurd (cc)) (λ _ e. cc) h

pub short-few : (ls : List Line) (d : List Line) → if_short ls ≡ Ok d → length ls ≤ LINE_LIMIT
short-few ls d h = cond_both (nat_lt LINE_LIMIT (length ls)) (Err TooManyLines) (Ok ls) (λ r. r ≡ Ok d → length ls ≤ LINE_LIMIT) (λ _ e. absurd (cc)) (λ b _. ltb-false LINE_LIMIT (length ls) b) h

-- what the tests found in the body
pub record Passed (bytes : Bytes) (docs : List (List Line)) : Type 0 where
  pub root : json.Members
  pub incidents : json.Items
  pub was : read bytes ≡ Some (json.object root)
  pub at : get_member (codes "Incident") root ≡ Some (json.array incidents)
  pub are : are_incidents incidents ≡ true
  pub complete : all_complete 0 incidents ≡ Ok tt
  pub plain : IsPlain (json.object root)
  pub gives : documents root incidents ≡ Ok docs

pub passed : (bytes : Bytes) (docs : List (List Line)) → reading bytes ≡ Ok docs → Passed bytes docs
unfolding reading
passed bytes docs h =
    let body = bind-ok (parsed bytes) _ docs h in
    let root = bind-ok (or_fault NotDocument (as_object body.0)) _ docs body.2 in
    let incidents = bind-ok (or_fault NotDocument (incidents_of root.0)) _ docs root.2 in
    let complete = bind-ok (all_complete 0 incidents.0) _ docs incidents.2 in
    let fine = bind-ok (all_fit body.0) _ docs complete.2 in
    let is : body.0 ≡ json.object root.0 = object-of body.0 root.0 (or-ok NotDocument (as_object body.0) root.0 root.1) in
    let picked : incidents_of root.0 ≡ Some incidents.0 = or-ok NotDocument (incidents_of root.0) incidents.0 incidents.1 in
    let at = found_array (get_member (codes "Incident") root.0) incidents.0 picked in
    record {
      root = root.0;
      incidents = incidents.0;
      was = parsed-ok bytes body.0 body.1 ∙ ap Some is;
      at = at;
      are = (cond_some (are_incidents incidents.0) incidents.0 incidents.0 (sym (ap (λ o. option_and_then if_incidents (option_and_then as_array o)) at) ∙ picked)).0;
      complete = complete.1;
      plain = subst IsPlain is (plain_ok body.0 fine.1);
      gives = fine.2;
    }
