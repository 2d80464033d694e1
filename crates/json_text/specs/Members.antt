-- A member of a JSON object (RFC 8259 section 4).
use Rattle.std.specs.Prelude.{ℕ, List, ◌∷◌, ◌++◌, Bool}
use Rattle.json.specs.Print.{quoted}
use Rattle.serde_json.specs.Written.{comma_if}

-- a member as JSON: a comma if there is a member before, the name, a colon, and the text of the value
abbrev pub member_text : Bool → List ℕ → List ℕ → List ℕ
member_text later name text = comma_if later ++ (quoted name ++ 58 ∷ text)
