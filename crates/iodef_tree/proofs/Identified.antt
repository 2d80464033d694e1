-- A body that can be read has a document, and each of its documents has an IncidentID.
use Rattle.std.proofs.Common.{◌≡◌, Bool, true, false, List, [], ◌∷◌, Option, None, option_map, option_and_then, ap, ◌∙◌, is_some, is_none, Ok, codes, arith}
use Rattle.{std.specs.List.AllByRecursion, serde_json.{proofs.Views.get_member-put, specs.{Data.Data, Find.get, Written.compact_text}}}
use Rattle.{json_pointer.specs.Text.Bytes, iodef_tree.{proofs.{Passed.passed, ReadBack.{IsRoot, HasLines, means, each-document}}, specs.Json.{zeroth, id_in}}}
use Rattle.iodef_tree.specs.{Json.incident_id, Reading.{reading, are_incidents, lacking, documents}, declared.line.Line.Line}
use Rattle.serde_json.specs.Data as json

abbrev id_name : Bytes
id_name = codes "IncidentID"

has_id : (d : Data) → lacking d ≡ None → is_none (get id_name d) ≡ false
has_id d h = grind arith

some_text : (o : Option Data) → is_none o ≡ false → is_some (option_map compact_text o) ≡ true
some_text o h = grind arith

abbrev pub IsIdentified : List Line → Type 0
IsIdentified doc = is_some (incident_id doc) ≡ true

identified_one : (root : json.Members) (x : Data) (d : List Line) → IsRoot root → HasLines root x d → IsIdentified d
identified_one root x d r h =
    ap (λ ms. is_some (option_map compact_text (id_in (json.object ms)))) (means root x d r h)
    ∙ ap (λ o. is_some (option_map compact_text (option_and_then (get id_name) (option_and_then zeroth o)))) (get_member-put (codes "Incident") (json.array (json.item x json.no_items)) root)
    ∙ some_text (get id_name x) (has_id x h.complete)

abbrev pub has_one : {X : Type 0} → List X → Bool
has_one [] = false
has_one (x ∷ xs) = true

some_document : (root : json.Members) (ds : json.Items) (docs : List (List Line)) → are_incidents ds ≡ true → documents root ds ≡ Ok docs → has_one docs ≡ true
some_document root json.no_items docs some read_as = cc
some_document root (json.item d ds) docs some read_as = grind arith

-- what is known of a body that can be read
pub record IsReported (docs : List (List Line)) : Type 0 where
  pub some : has_one docs ≡ true
  pub identified : AllByRecursion IsIdentified docs

pub reported : (body : Bytes) (docs : List (List Line)) → reading body ≡ Ok docs → IsReported docs
reported body docs h =
    let p = passed body docs h in
    record { some = some_document p.root p.incidents docs p.are p.gives; identified = each-document IsIdentified body docs p (identified_one p.root) }
