-- What is withheld: the places in the excerpt, and the rules.
use Rattle.std.specs.Prelude.{Bool, ◌&&◌, not, List, [], ◌∷◌, ◌++◌, Option, Some, None, option_and_then, slice_get, filter, position, map, if◌then◌else◌}
use Rattle.std.specs.Prelude.{Contains}
use Rattle.std.specs.List.{flat_map, list_any}
use Rattle.std.specs.List.Sorted.{IsStrictlySortedBy}
use Rattle.std.specs.declared.cmp.Ordering.{Ordering}
use Rattle.std.specs.declared.cmp.Ordering.TheVariants.{Less, Equal, Greater}
use Rattle.std.specs.Ordering.{nat_cmp, on, then_cmp, eq_of_both}
use Rattle.std.specs.Str.{bytes_eq}
use Rattle.std.specs.Cmp.Lexicographic.{slice_cmp}
use Rattle.iodef_tree.specs.Text.{Tokens, same_path, is_root}
use Rattle.iodef_tree.specs.Paths.{LocatedLine, is_class, class_paths, classes_of}
use Rattle.iodef_tree.specs.Pointer.{pointer_text}
use Rattle.policy.specs.Rule.{name_of}
use Rattle.policy.specs.declared.rule.Rule.{Rule}
use Rattle.redact.specs.Kept.{Verdicts, is_frame, is_wholly_hidden, is_kept, kept_lines}

-- a place in the excerpt, and the rule by which something is withheld there
abbrev pub Withheld : Type 0
Withheld = Tokens × Rule

module _ (v : Verdicts) where
  -- the paths of the kept classes, in stored order
  abbrev pub kept_classes : List LocatedLine → List Tokens
  kept_classes es = class_paths (filter (is_kept v) es)

  -- The place of a class in the excerpt: the path of the kept outline's n-th class, where n kept classes are before it.
  -- The root's is the root's path, and a class that isn't kept has none.
  abbrev pub place_of : List LocatedLine → Tokens → Option Tokens
  place_of es p =
      if is_root p then Some []
      else option_and_then (slice_get (classes_of (kept_lines v es))) (position (λ q. same_path q p) (kept_classes es))

-- a rule at a place; nothing if there is no place
abbrev pub told_at_place : Option Tokens → Rule → List Withheld
told_at_place None rule = []
told_at_place (Some q) rule = (q, rule) ∷ []

module _ (v : Verdicts) (place : Tokens → Option Tokens) where
  -- A frame is listed at its place; a wholly hidden class at the place of its parent, unless that is wholly hidden
  -- too.
  abbrev pub withheld_at : LocatedLine → List Withheld
  withheld_at e =
      if not (is_class e) then []
      else if is_frame v e.path then told_at_place (place e.path) (v.rule e.path)
      else if is_wholly_hidden v e.path && not (is_wholly_hidden v e.parent)
      then told_at_place (place e.parent) (v.rule e.path)
      else []

  -- the same of each class, in stored order and with repeats
  abbrev pub withheld_among : List LocatedLine → List Withheld
  withheld_among es = flat_map withheld_at es

-- all that is withheld, in stored order and with repeats
abbrev pub withheld_pairs : Verdicts → List LocatedLine → List Withheld
withheld_pairs v es = withheld_among v (place_of v es) es

-- the order of the list: by the bytes of the place's JSON pointer, then by those of the rule's name
abbrev pub withheld_cmp : Withheld → Withheld → Ordering
withheld_cmp = then_cmp (on (λ x. pointer_text x.0) (slice_cmp nat_cmp)) (on (λ x. name_of x.1) (slice_cmp nat_cmp))

-- whether two pairs have the same place and the same rule, by those bytes
abbrev pub same_withheld : Withheld → Withheld → Bool
same_withheld = eq_of_both (on (λ x. pointer_text x.0) bytes_eq) (on (λ x. name_of x.1) bytes_eq)

-- ---- in order

-- a pair put into a list, given how it compares with the first of the list
abbrev pub insert_withheld_by : Ordering → Withheld → Withheld → List Withheld → List Withheld → List Withheld
insert_withheld_by Less x y ys rest = x ∷ y ∷ ys
insert_withheld_by Equal x y ys rest = y ∷ ys
insert_withheld_by Greater x y ys rest = y ∷ rest

-- the list with a pair at its place in the order, unless the pair is there already
abbrev pub insert_withheld : Withheld → List Withheld → List Withheld
insert_withheld x [] = x ∷ []
insert_withheld x (y ∷ ys) = insert_withheld_by (withheld_cmp x y) x y ys (insert_withheld x ys)

-- the pairs in order: by the bytes of the place and then of the rule's name, none twice
abbrev pub withheld_in_order : List Withheld → List Withheld
withheld_in_order [] = []
withheld_in_order (x ∷ xs) = insert_withheld x (withheld_in_order xs)

-- a list in this order, without repeats, of the same pairs
pub record Lists (pairs listed : List Withheld) : Type 0 where
  pub ascending : IsStrictlySortedBy withheld_cmp listed
  pub sound : (x : Withheld) → Contains listed x → Contains pairs x
  pub complete : (x : Withheld) → Contains pairs x → Contains listed x

-- ---- as a pass notes it

-- whether a pair is among these
abbrev pub is_among : List Withheld → Withheld → Bool
is_among ps x = list_any (same_withheld x) ps

-- whether a rule of this name is among these
abbrev pub has_rule : List Rule → Rule → Bool
has_rule rules rule = list_any (λ r. bytes_eq (name_of r) (name_of rule)) rules

-- these rules with one more, unless it is among them
abbrev pub with_rule : List Rule → Rule → List Rule
with_rule rules rule = if has_rule rules rule then rules else rules ++ rule ∷ []

-- a rule at a place
abbrev pub at_rule : Tokens → Rule → Withheld
at_rule q r = (q, r)

-- several rules at one place
abbrev pub at_place : Tokens → List Rule → List Withheld
at_place q rules = map (at_rule q) rules
