-- The label written in a class, by the lines below its path and by its members.
use Rattle.std.proofs.Common.{◌≡◌, ℕ, suc, List, [], ◌∷◌, ◌++◌, Bool, true, false, cond, ◌&&◌, ◌||◌, refl, sym, ◌∙◌, ap, append-nil, append_assoc}
use Rattle.std.{proofs.lemmas.{Bool.{cond-true, cond-false, and_left, and_right, true≢false}, List.Folds.find-append}, specs.List.AllByRecursion}
use Rattle.{std.specs.{Option.{option_map_or, option_or}, Prelude.{Option, Some, None, find, codes}, Str.bytes_eq}, iodef_tree.proofs.Order.same_path-refl}
use Rattle.iodef_tree.{proofs.Order.{same_path-true, same_path-longer, is_false}, specs.{Paths.{LocatedLine, has_class, below}, Text.{Bytes, Tokens}}}
use Rattle.iodef_tree.specs.{Text.{same_path, is_root, is_under}, Tree.{Forest, end, leaf, branch, steps}, Walk.{walk, leaf_entry, class_entry}}
use Rattle.marking.specs.{Label.private, Marks.{absent, other, held_by_line, is_member, held_at, spelled_by, is_rule_kept, is_well_marked, written_label}}
use Rattle.marking.specs.{Marks.{own_label, has_default, incident_path}, Members.{held_in, spelled_in, is_rule_kept_in}}

-- each entry is below its parent
abbrev pub AreUnderParents : List LocatedLine → Type 0
AreUnderParents es = AllByRecursion (λ (e : LocatedLine). is_under e.parent e.path ≡ true) es

-- ---- the lines directly in a class are among those below its path

find-below : (es : List LocatedLine) (q : Tokens) (name : Bytes) → AreUnderParents es → find (is_member q name) es ≡ find (is_member q name) (below q es)
find-below [] q name h = refl
find-below (e ∷ es) q name h = by_cases (is_under q e.path) refl (find-below es q name h.1)
  where
    by_cases : (b : Bool) → is_under q e.path ≡ b → find (is_member q name) es ≡ find (is_member q name) (below q es) →
        find (is_member q name) (e ∷ es) ≡ find (is_member q name) (cond (is_under q e.path) (e ∷ below q es) (below q es))
    by_cases true u ih =
        ap (λ o. cond (is_member q name e) (Some e) o) ih ∙ ap (find (is_member q name)) (sym (cond-true (is_under q e.path) (e ∷ below q es) (below q es) u))
    by_cases false u ih =
        let elsewhere : same_path e.parent q ≡ false =
        is_false (same_path e.parent q) (λ same. true≢false (sym h.0 ∙ ap (λ r. is_under r e.path) (same_path-true e.parent q same) ∙ u)) in
        cond-false (is_member q name e) (Some e) (find (is_member q name) es) (and_left (same_path e.parent q) _ elsewhere)
        ∙ ih ∙ ap (find (is_member q name)) (sym (cond-false (is_under q e.path) (e ∷ below q es) (below q es) u))

-- ---- in a walk

-- no line is a member of the class at q if no path at or below p is q
no-member : (f : Forest) (d : ℕ) (p q : Tokens) (name : Bytes) → ((z : Tokens) → same_path (p ++ z) q ≡ false) → find (is_member q name) (walk d p f) ≡ None
no-member end d p q name h = refl
no-member (leaf i rest) d p q name h =
    cond-false (is_member q name (leaf_entry d p i)) _ _ (and_left (same_path p q) _ (ap (λ r. same_path r q) (sym (append-nil p)) ∙ h []))
    ∙ no-member rest d p q name h
no-member (branch n o kids rest) d p q name h =
    let r = p ++ steps n o in
    let K = walk (suc d) r kids in
    let R = walk d p rest in
    cond-false (is_member q name (class_entry d p n o)) _ _ (and_left (same_path p q) _ (ap (λ r. same_path r q) (sym (append-nil p)) ∙ h []))
    ∙ find-append (is_member q name) K R
    ∙ ap (λ a. option_or a (find (is_member q name) R))
    (no-member kids (suc d) r q name (λ z. ap (λ x. same_path x q) (append_assoc p (steps n o) z) ∙ h (steps n o ++ z)))
    ∙ no-member rest d p q name h

same_path-sym : (p q : Tokens) → same_path p q ≡ false → same_path q p ≡ false
same_path-sym p q h = is_false (same_path q p) (λ same. true≢false (sym (same_path-refl p) ∙ ap (same_path p) (sym (same_path-true q p same)) ∙ h))

first-held : (t : Bool) (e : LocatedLine) (o : Option LocatedLine) → option_map_or (λ (x : LocatedLine). held_by_line x.line) (cond t (Some e) o) absent
    ≡ cond t (held_by_line e.line) (option_map_or (λ (x : LocatedLine). held_by_line x.line) o absent)
first-held true e o = refl
first-held false e o = refl

class-held : (d : ℕ) (p : Tokens) (n : Bytes) (o : Option ℕ) → held_by_line (class_entry d p n o).line ≡ other
class-held d p n None = refl
class-held d p n (Some k) = refl

held-walk : (f : Forest) (d : ℕ) (q : Tokens) (name : Bytes) → option_map_or (λ (x : LocatedLine). held_by_line x.line) (find (is_member q name) (walk d q f)) absent ≡ held_in name f
held-walk end d q name = refl
held-walk (leaf i rest) d q name =
    let e = leaf_entry d q i in
    let R = find (is_member q name) (walk d q rest) in
    ap (λ b. option_map_or (λ (x : LocatedLine). held_by_line x.line) (cond (b && bytes_eq i.name name) (Some e) R) absent) (same_path-refl q)
    ∙ first-held (bytes_eq i.name name) e R
    ∙ ap (λ h. cond (bytes_eq i.name name) (held_by_line e.line) h) (held-walk rest d q name)
held-walk (branch n o kids rest) d q name =
    let e = class_entry d q n o in
    let r = q ++ steps n o in
    let K = walk (suc d) r kids in
    let R = walk d q rest in
    let none : find (is_member q name) K ≡ None =
    no-member kids (suc d) r q name (λ z. same_path-sym q (r ++ z) (ap (same_path q) (append_assoc q (steps n o) z) ∙ same_path-longer q n o z)) in
    ap (λ b. option_map_or (λ (x : LocatedLine). held_by_line x.line) (cond (b && bytes_eq n name) (Some e) (find (is_member q name) (K ++ R))) absent) (same_path-refl q)
    ∙ first-held (bytes_eq n name) e (find (is_member q name) (K ++ R))
    ∙ ap (λ h. cond (bytes_eq n name) h (option_map_or (λ (x : LocatedLine). held_by_line x.line) (find (is_member q name) (K ++ R)) absent)) (class-held d q n o)
    ∙ ap (λ a. cond (bytes_eq n name) other (option_map_or (λ (x : LocatedLine). held_by_line x.line) a absent))
    (find-append (is_member q name) K R ∙ ap (λ a. option_or a (find (is_member q name) R)) none)
    ∙ ap (λ h. cond (bytes_eq n name) other h) (held-walk rest d q name)

-- ---- at a class

module _ (es : List LocatedLine) (d : ℕ) (q : Tokens) (kids : Forest) (under : AreUnderParents es) (block : below q es ≡ walk d q kids) where
  pub held-block : (name : Bytes) → held_at es q name ≡ held_in name kids
  held-block name =
      ap (λ o. option_map_or (λ (x : LocatedLine). held_by_line x.line) o absent) (find-below es q name under ∙ ap (find (is_member q name)) block)
      ∙ held-walk kids d q name

  pub well_marked-block : is_well_marked es q ≡ is_rule_kept_in kids
  well_marked-block =
      ap (λ h. is_rule_kept h (held_at es q (codes "ext-restriction"))) (held-block (codes "restriction"))
      ∙ ap (λ h. is_rule_kept (held_in (codes "restriction") kids) h) (held-block (codes "ext-restriction"))

  pub written-block : has_class es q ≡ true → written_label es q ≡ spelled_in kids
  written-block there =
      cond-true (has_class es q) _ _ there
      ∙ ap (λ h. spelled_by h (held_at es q (codes "ext-restriction"))) (held-block (codes "restriction"))
      ∙ ap (λ h. spelled_by (held_in (codes "restriction") kids) h) (held-block (codes "ext-restriction"))

-- ---- a path without a class

pub written-none : (es : List LocatedLine) (p : Tokens) → has_class es p ≡ false → written_label es p ≡ None
written-none es p h = cond-false (has_class es p) _ None h

pub own-none : (es : List LocatedLine) (p : Tokens) → is_root p ≡ false → has_class es p ≡ false → own_label es p ≡ None
own-none es p r h =
    ap (λ o. option_or o (cond (has_default es p) (Some private) None)) (written-none es p h)
    ∙ cond-false (has_default es p) (Some private) None (ap (λ b. b || (same_path p incident_path && has_class es p)) r ∙ and_right (same_path p incident_path) (has_class es p) h)
