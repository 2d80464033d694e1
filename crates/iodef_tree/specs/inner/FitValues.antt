-- What reading keeps on its way, for clauses that no caller outside the crate reads.
use Rattle.std.specs.Prelude.{◌≡◌, ◌≤◌, ℕ, suc, ◌+◌, List, [], ◌∷◌, sum_by, Bool, true, false, not, ◌&&◌, ◌||◌, Option, option_map, option_and_then, codes}
use Rattle.std.specs.List.{AllByRecursion}
use Rattle.serde_json.specs.Data.{Data, put}
use Rattle.serde_json.specs.Find.{as_array, as_object, get_member, is_float}
use Rattle.serde_json.specs.Written.{members_have_float}
use Rattle.iodef_tree.specs.Texts.{is_plain, may_be_text, HasTexts}
use Rattle.iodef_tree.specs.Tree.{Forest, end, leaf, branch, Body, holds, says, Bodies, one, many, kind_of, text_of, height}
use Rattle.iodef_tree.specs.Sound.{IsOrdered}
use Rattle.iodef_tree.specs.Values.{Surrounded, Node, is_not_whole, is_nested_class, is_too_deep}
use Rattle.iodef_tree.specs.Reading.{with_incident, document_of}
use Rattle.iodef_tree.specs.declared.TheConstants.{DEPTH_LIMIT}
use Rattle.iodef_tree.specs.declared.unfit_values.Sought.{Sought}
use Rattle.serde_json.specs.Data as json
use Rattle.iodef_tree.specs.declared.unfit_values.Sought.TheVariants as sought

-- whether a value is one that is sought
abbrev pub is_sought : Sought → Surrounded → Bool
is_sought sought.NotWhole s = is_not_whole s
is_sought sought.NestedClass s = is_nested_class s
is_sought sought.TooDeep s = is_too_deep s

-- whether a value is one of the three kinds that a document can't hold
abbrev pub is_refused : Surrounded → Bool
is_refused s = is_not_whole s || (is_nested_class s || is_too_deep s)

-- whether a value of the list passes a test
abbrev pub any_at : (Surrounded → Bool) → List Node → Bool
any_at test [] = false
any_at test (n ∷ ns) = test n.seen || any_at test ns

-- the members of a class are ordered
abbrev pub IsBodyOrdered : Body → Type 0
IsBodyOrdered (holds kids) = IsOrdered kids
IsBodyOrdered (says content) = Unit {0}

-- the same for what a member holds
abbrev pub AreBodiesOrdered : Bodies → Type 0
AreBodiesOrdered (one b) = IsBodyOrdered b
AreBodiesOrdered (many bs) = AllByRecursion IsBodyOrdered bs

-- ---- the texts of plain lines

-- the texts in a class, or of a plain content, are those that lines of their kinds may have
abbrev pub HasBodyTexts : Bool → Body → Type 0
HasBodyTexts in_array (holds kids) = HasTexts kids
HasBodyTexts in_array (says content) = may_be_text (kind_of content) in_array (text_of content) ≡ true

-- the same for what a member holds
abbrev pub HaveTexts : Bodies → Type 0
HaveTexts (one b) = HasBodyTexts false b
HaveTexts (many bs) = AllByRecursion (HasBodyTexts true) bs

-- Whether every number is an i64 or a u64, and no array inside an array holds an object or is too deep: for a value at
-- a member, and for an element of its array.
abbrev mutual
  pub is_flat : Data → Bool
  is_flat (json.number n) = not (is_float n)
  is_flat (json.array ds) = are_flat ds
  is_flat (json.object ms) = are_members_flat ms
  is_flat _ = true

  pub is_element_flat : Data → Bool
  is_element_flat (json.number n) = not (is_float n)
  is_element_flat (json.array ds) = is_plain DEPTH_LIMIT (json.array ds)
  is_element_flat (json.object ms) = are_members_flat ms
  is_element_flat _ = true

  pub are_flat : json.Items → Bool
  are_flat json.no_items = true
  are_flat (json.item d ds) = is_element_flat d && are_flat ds

  pub are_members_flat : json.Members → Bool
  are_members_flat json.no_members = true
  are_members_flat (json.member name d ms) = is_flat d && are_members_flat ms

-- ---- how many lines

-- how many lines a tree has
abbrev pub line_count : Forest → ℕ
line_count end = 0
line_count (leaf i rest) = suc (line_count rest)
line_count (branch name place kids rest) = suc (line_count kids + line_count rest)

-- how many lines one thing has
abbrev pub body_count : Body → ℕ
body_count (holds kids) = suc (line_count kids)
body_count (says content) = 1

-- how many lines a member has
abbrev pub bodies_count : Bodies → ℕ
bodies_count (one b) = body_count b
bodies_count (many bs) = sum_by body_count bs

-- The root with this one Incident makes a document: no number is a float, no line is too deep, and no array inside an
-- array holds an object.
pub record IsFit (root : json.Members) (incident : Data) : Type 0 where
  pub whole : members_have_float (with_incident incident root) ≡ false
  pub shallow : height (document_of incident root) ≤ DEPTH_LIMIT
  pub flat : are_members_flat (with_incident incident root) ≡ true

-- the same for each Incident of a body
abbrev pub AreFit : json.Members → json.Items → Type 0
AreFit root json.no_items = Unit {0}
AreFit root (json.item d ds) = IsFit root d × AreFit root ds

-- the root with null in place of its Incidents, and the Incidents; none if the body is no object or has no such array
abbrev pub taken : Data → Option (json.Members × json.Items)
taken d = option_and_then (λ ms. option_map (λ ds. (put (codes "Incident") json.null ms, ds)) (option_and_then as_array (get_member (codes "Incident") ms))) (as_object d)
