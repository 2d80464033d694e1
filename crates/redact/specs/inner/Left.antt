-- What the program's pass keeps, lists and counts of the members of one class.
use Rattle.std.specs.Prelude.{◌≡◌, ℕ, suc, ◌+◌, ◌<◌, ◌^◌, Bool, true, false, List, [], ◌∷◌, ◌++◌, if◌then◌else◌, Option, Some, None, is_some, option_map}
use Rattle.std.specs.Prelude.{decimal}
use Rattle.std.specs.List.{cons_option}
use Rattle.iodef_tree.specs.Text.{Bytes, Tokens}
use Rattle.iodef_tree.specs.Tree.{Forest, Body, holds, says, Bodies, one, many}
use Rattle.marking.specs.Members.{spelled_in}
use Rattle.policy.specs.Inherited.{Inherited, enter_array, enter_class}
use Rattle.policy.specs.declared.rule.Rule.{Rule}
use Rattle.policy.specs.declared.standing.Standing.{Standing}
use Rattle.policy.specs.declared.case.Case.{Case}
use Rattle.redact.specs.Withheld.{Withheld, is_among, at_place, with_rule}
use Rattle.redact.specs.inner.Judged.{Judgment, Judged, Surrounding, root, inside, keeps_plain, is_end, with_label, cut, visible_classes, withheld_below}
use Rattle.redact.specs.inner.Tokens.{path_of}
use Rattle.redact.specs.inner.Pass.{judgment_by, pass}
use Rattle.redact.specs.declared.pass.Surrounding.{Surrounding as Place}
use Rattle.redact.specs.declared.pass.State.{State}
use Rattle.redact.specs.declared.pass.Surrounding.TheVariants as place

-- where members are, by the program's `Surrounding`
abbrev pub home_of : Place → Surrounding
home_of place.Root = root
home_of (place.Class visible) = inside visible

module _ (c : Case) (s : Standing) where
  -- what is kept of a class with this judgment and these members; none if it isn't visible and nothing in it is kept
  abbrev pub class_left : Surrounding → Judgment → Judged → Option Forest
  class_left h j kids =
      if j.visible then Some (with_label h j (cut (inside true) 0 kids))
      else (let inner = cut (inside false) 0 kids in if is_end inner then None else Some inner)

  -- what a class with this judgment lists as withheld: a wholly hidden one its rule at q, the place of the class around
  -- it, and a frame its rule at its own place r
  abbrev pub class_told : Tokens → Tokens → Judgment → Judged → List Withheld
  class_told q r j kids =
      if j.visible then withheld_below (inside true) r 0 kids
      else (if is_end (cut (inside false) 0 kids) then (q, j.rule) ∷ []
      else (r, j.rule) ∷ withheld_below (inside false) r 0 kids)

  -- how many classes are visible, of a class with this judgment and those below it
  abbrev pub class_count : Judgment → Judged → ℕ
  class_count j kids = (if j.visible then 1 else 0) + visible_classes kids

  -- what is kept of one thing, under this token of the class or array at d
  abbrev pub left_at : Surrounding → Inherited → Bytes → Body → Option Body
  left_at h d t (says content) = if keeps_plain h then Some (says content) else None
  left_at h d t (holds kids) =
      let w = spelled_in kids in
      let k = enter_class c s d t w in option_map holds (class_left h (judgment_by c s k w) (pass c s k kids))

  -- what one thing lists as withheld, under this token of the class or array at d; q is the place of the class around
  -- it, and r its own place if it is kept
  abbrev pub told_at : Inherited → Tokens → Tokens → Bytes → Body → List Withheld
  told_at d q r t (says content) = []
  told_at d q r t (holds kids) =
      let w = spelled_in kids in
      let k = enter_class c s d t w in class_told q r (judgment_by c s k w) (pass c s k kids)

  -- how many classes are visible in one thing, under this token of the class or array at d
  abbrev pub count_at : Inherited → Bytes → Body → ℕ
  count_at d t (says content) = 0
  count_at d t (holds kids) =
      let w = spelled_in kids in
      let k = enter_class c s d t w in class_count (judgment_by c s k w) (pass c s k kids)

  -- what is kept of the elements of the array at d, from place k on
  abbrev pub left_items : Surrounding → Inherited → ℕ → List Body → List Body
  left_items h d k [] = []
  left_items h d k (b ∷ bs) = cons_option (left_at h d (decimal k) b) (left_items h d (suc k) bs)

  -- what the elements of the array at d list as withheld, from place k on; n elements before are kept
  abbrev pub told_items : Surrounding → Inherited → Tokens → Tokens → ℕ → ℕ → List Body → List Withheld
  told_items h d q r k n [] = []
  told_items h d q r k n (b ∷ bs) =
      told_at d q (r ++ decimal n ∷ []) (decimal k) b
      ++ told_items h d q r (suc k) (if is_some (left_at h d (decimal k) b) then suc n else n) bs

  -- how many classes are visible in the elements of the array at d, from place k on
  abbrev pub count_items : Inherited → ℕ → List Body → ℕ
  count_items d k [] = 0
  count_items d k (b ∷ bs) = count_at d (decimal k) b + count_items d (suc k) bs

  -- an array of these elements; none if there is no element
  abbrev pub many_or_none : List Body → Option Bodies
  many_or_none [] = None
  many_or_none (b ∷ bs) = Some (many (b ∷ bs))

  -- what is kept of a member of the class at a; none if nothing of it is kept
  abbrev pub left_member : Surrounding → Inherited → Bytes → Bodies → Option Bodies
  left_member h a name (one b) = option_map one (left_at h a name b)
  left_member h a name (many bs) = many_or_none (left_items h (enter_array c s a name) 0 bs)

  -- what a member of the class at a lists as withheld; q is the place of that class
  abbrev pub told_member : Surrounding → Inherited → Tokens → Bytes → Bodies → List Withheld
  told_member h a q name (one b) = told_at a q (q ++ name ∷ []) name b
  told_member h a q name (many bs) = told_items h (enter_array c s a name) q (q ++ name ∷ []) 0 0 bs

  -- how many classes are visible in a member of the class at a
  abbrev pub count_member : Inherited → Bytes → Bodies → ℕ
  count_member a name (one b) = count_at a name b
  count_member a name (many bs) = count_items (enter_array c s a name) 0 bs

  -- what is kept of the members of the class at a, each with its name
  abbrev pub left_members : Surrounding → Inherited → List (Bytes × Bodies) → List (Bytes × Bodies)
  left_members h a [] = []
  left_members h a (m ∷ ms) = cons_option (option_map (λ b. (m.0, b)) (left_member h a m.0 m.1)) (left_members h a ms)

  -- what the members of the class at a list as withheld; q is the place of that class
  abbrev pub told_members : Surrounding → Inherited → Tokens → List (Bytes × Bodies) → List Withheld
  told_members h a q [] = []
  told_members h a q (m ∷ ms) = told_member h a q m.0 m.1 ++ told_members h a q ms

  -- how many classes are visible in the members of the class at a
  abbrev pub count_members : Inherited → List (Bytes × Bodies) → ℕ
  count_members a [] = 0
  count_members a (m ∷ ms) = count_member a m.0 m.1 + count_members a ms

-- ---- what the state of the pass holds

-- what was listed, with the rules that the class at place q has to list if it is kept
abbrev pub tells : Tokens → State → List Withheld
tells q st = st.withheld.items ++ at_place q st.rules_met.items

-- From one state of the pass to another, among the members of the class at place q. What had to be listed and counted
-- at first is what is still to list and to count, each pair once or more often. The pass comes back to its path.
pub record Goes (q : Tokens) (old new : State) (before after : List Withheld) (m n : ℕ) : Type 0 where
  pub path : new.path.items ≡ old.path.items
  pub place : new.place.items ≡ old.place.items
  pub withheld : is_among (tells q new ++ after) ≡ is_among (tells q old ++ before)
  pub classes : old.classes + m < 2 ^ 32 → new.classes + n ≡ old.classes + m

-- these rules are noted at the place of the pass, and nothing else changes
pub record Tells (old new : State) (rules : List Rule) : Type 0 where
  pub withheld : new.withheld.items ≡ old.withheld.items ++ at_place (path_of old.place.items) rules
  pub path : new.path.items ≡ old.path.items
  pub place : new.place.items ≡ old.place.items
  pub gone : new.rules_met.items ≡ old.rules_met.items
  pub classes : new.classes ≡ old.classes

-- A class that isn't visible is left, inside one whose members had met these rules. If something of it is kept, its
-- rule is listed at its place with those met in it. If not, its rule is one of those met around it.
pub record Leaves (old new : State) (outside : List Rule) (rule : Rule) (empty : Bool) : Type 0 where
  pub withheld : new.withheld.items
      ≡ (if empty then old.withheld.items
      else old.withheld.items ++ at_place (path_of old.place.items) (with_rule old.rules_met.items rule))
  pub gone : new.rules_met.items ≡ (if empty then with_rule outside rule else outside)
  pub path : new.path.items ≡ old.path.items
  pub place : new.place.items ≡ old.place.items
  pub classes : new.classes ≡ old.classes
