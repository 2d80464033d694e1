-- A search over members side by side, and by one pass down a document. It finds what the definition finds among the
-- lines.
use Rattle.std.proofs.Common.{arith, ◌≡◌, ℕ, suc, ◌+◌, ◌<◌, Bool, ◌||◌, List, [], ◌∷◌, refl, sym, ◌∙◌, ap, decimal, length, get_or, drop, map, Option, Some}
use Rattle.std.proofs.{Common.{None, true, false, ◌&&◌, ◌++◌, append_assoc, append-nil, true≢false}, Math.Bool.{or_assoc, and-true}, lemmas.Bool.cond_both}
use Rattle.{std.{proofs.lemmas.List.Folds.list_any-append, specs.List.list_any}, iodef_tree.proofs.Blocks.{blocks-located, below-parents}}
use Rattle.iodef_tree.proofs.{Located.located-lines, Members.members-next, Order.{same_path-refl, same_path-true, same_path-longer, is_false}}
use Rattle.iodef_tree.specs.{Paths.{LocatedLine, is_class, located, below}, Sound.IsSound, Text.{Bytes, Tokens, same_path, is_under}, Tree.{Forest, Body}}
use Rattle.iodef_tree.specs.Tree.{holds, says, Bodies, one, many, in_front, elements, member_front, Content, end, leaf, branch, steps, lines, leaf_line}
use Rattle.iodef_tree.specs.{View.{bodies, members_forest}, Walk.{walk, class_entry, AreBlocks}, declared.{Text.Text, line.Line.Line, object.Member.Member}}
use Rattle.marking.{proofs.{Bad.no_class-kind, Placed.{ArePlaced, placed}, Written.{AreUnderParents, written-block}}, specs.Label.LabelValue}
use Rattle.{marking.specs.{Marks.written_label, Members.spelled_in}, policy.{proofs.Steps.at_root-is, specs.Inherited.{Inherited, enter_array, enter_class}}}
use Rattle.policy.specs.{Inherited.{inherited_at, at_root}, Verdict.is_visible, declared.{case.Case.Case, standing.Standing.Standing}}
use Rattle.redact.{proofs.Whole.{enter-at, root-bare}, specs.{Told.{is_named, is_hit, holds_needle, finds, is_listed}, inner.{Pass.enter, Search.body_hits}}}
use Rattle.redact.specs.inner.Search.{bodies_hit, members_hit, found, found_at, found_items, found_member, content_hits, holds_text, any_class}

-- ---- members side by side: each, and then the others

pub any_map : {X Y : Type 0} (P : Y → Bool) (h : X → Y) (xs : List X) → list_any P (map h xs) ≡ list_any (λ x. P (h x)) xs
any_map P h [] = refl
any_map P h (x ∷ xs) = ap (λ b. P (h x) || b) (any_map P h xs)

module _ (needle : Bytes) where
  hit-front : (name : Bytes) (place : Option ℕ) (b : Body) (rest : Forest) → members_hit needle (in_front name place b rest) ≡ (body_hits needle b || members_hit needle rest)
  hit-front name place (holds kids) rest = refl
  hit-front name place (says content) rest = refl

  hit-elements : (name : Bytes) (k : ℕ) (bs : List Body) (rest : Forest) → members_hit needle (elements name k bs rest) ≡ (list_any (body_hits needle) bs || members_hit needle rest)
  hit-elements name k [] rest = refl
  hit-elements name k (b ∷ bs) rest =
      hit-front name (Some k) b (elements name (suc k) bs rest) ∙ rw (hit-elements name (suc k) bs rest, or_assoc)

  hit-member : (name : Bytes) (m : Bodies) (rest : Forest) → members_hit needle (member_front name m rest) ≡ (bodies_hit needle m || members_hit needle rest)
  hit-member name (one b) rest = hit-front name None b rest
  hit-member name (many bs) rest = hit-elements name 0 bs rest

  -- one more member
  pub hit_next : (ms : List (Text × Member)) (i : ℕ) (m : Text × Member) {hit whole : Bool} → i < length ms → m ≡ get_or ms i m → hit ≡ bodies_hit needle (bodies m.1) →
      members_hit needle (members_forest (drop i ms)) ≡ whole → (hit || members_hit needle (members_forest (drop (i + 1) ms))) ≡ whole
  hit_next ms i m h is here all =
      let behind = members_forest (drop (i + 1) ms) in
      ap (λ b. b || members_hit needle behind) here ∙ sym (ap (members_hit needle) (members-next ms i m h is) ∙ hit-member m.0 (bodies m.1) behind) ∙ all

module _ (c : Case) (s : Standing) (asked : Bytes → Forest → Bool) (a : Inherited) where
  -- a sibling into which the token t leads from the class or array at d
  found-sibling : (d : Inherited) (t name : Bytes) (place : Option ℕ) → ((w : Option LabelValue) → enter c s a name place w ≡ enter_class c s d t w) → (b : Body) (rest : Forest) →
      found c s asked a (in_front name place b rest) ≡ (found_at c s asked d t name b || found c s asked a rest)
  found-sibling d t name place enters (says content) rest = refl
  found-sibling d t name place enters (holds kids) rest = rw (enters (spelled_in kids), or_assoc)

  found-elements : (name : Bytes) (j : ℕ) (bs : List Body) (rest : Forest) →
      found c s asked a (elements name j bs rest) ≡ (found_items c s asked (enter_array c s a name) name j bs || found c s asked a rest)
  found-elements name j [] rest = refl
  found-elements name j (b ∷ bs) rest =
      found-sibling (enter_array c s a name) (decimal j) name (Some j) (λ w. refl) b (elements name (suc j) bs rest) ∙ rw (found-elements name (suc j) bs rest, or_assoc)

  found-front : (name : Bytes) (m : Bodies) (rest : Forest) →
      found c s asked a (member_front name m rest) ≡ (found_member c s asked a name m || found c s asked a rest)
  found-front name (one b) rest = found-sibling a name name None (λ w. refl) b rest
  found-front name (many bs) rest = found-elements name 0 bs rest

  -- one more member
  pub found_next : (ms : List (Text × Member)) (i : ℕ) (m : Text × Member) {a' : Inherited} {name : Bytes} {one whole : Bool} → i < length ms → m ≡ get_or ms i m → a' ≡ a → name ≡ m.0 →
      one ≡ found_member c s asked a' name (bodies m.1) → found c s asked a (members_forest (drop i ms)) ≡ whole → (one || found c s asked a (members_forest (drop (i + 1) ms))) ≡ whole
  found_next ms i m h is at named here all =
      let behind = members_forest (drop (i + 1) ms) in
      ap (λ b. b || found c s asked a behind) (here ∙ (λ k. found_member c s asked (at k) (named k) (bodies m.1)))
      ∙ sym (ap (found c s asked a) (members-next ms i m h is) ∙ found-front m.0 (bodies m.1) behind) ∙ all

-- ---- the texts that a class directly holds, by its lines

-- whether a line directly in the class at q is a text with the needle
abbrev is_hit_in : Bytes → Tokens → LocatedLine → Bool
is_hit_in needle q e = same_path e.parent q && is_hit needle e.line

any-below : (es : List LocatedLine) (q : Tokens) (needle : Bytes) → AreUnderParents es → list_any (is_hit_in needle q) es ≡ list_any (is_hit_in needle q) (below q es)
any-below [] q needle h = refl
any-below (e ∷ es) q needle h =
    let later = any-below es q needle h.1 in
    cond_both (is_under q e.path) _ _ (λ ws. list_any (is_hit_in needle q) (e ∷ es) ≡ list_any (is_hit_in needle q) ws) (λ u. ap (λ o. is_hit_in needle q e || o) later) (λ u.
    let elsewhere : same_path e.parent q ≡ false =
    is_false (same_path e.parent q) (λ same. true≢false (sym h.0 ∙ ap (λ r. is_under r e.path) (same_path-true e.parent q same) ∙ u)) in
    rw (elsewhere, later))

-- no line is directly in q if no path at or below p is q
none-held : (f : Forest) (d : ℕ) (p q : Tokens) (needle : Bytes) → ((z : Tokens) → same_path (p ++ z) q ≡ false) → list_any (is_hit_in needle q) (walk d p f) ≡ false
none-held end d p q needle h = refl
none-held (leaf i rest) d p q needle h = rw (rw append-nil at (h []), none-held rest d p q needle h)
none-held (branch n o kids rest) d p q needle h =
    let r = p ++ steps n o in
    let below = none-held kids (suc d) r q needle (λ z. ap (λ x. same_path x q) (append_assoc p (steps n o) z) ∙ h (steps n o ++ z)) in
    rw (rw append-nil at (h []), list_any-append (is_hit_in needle q) (walk (suc d) r kids) (walk d p rest), below, none-held rest d p q needle h)

leaf-hit : (needle : Bytes) (d : ℕ) (name : Bytes) (place : Option ℕ) (x : Content) → is_hit needle (leaf_line d (record { name = name; place = place; content = x })) ≡ content_hits needle x
leaf-hit needle d name place x = grind arith

apart : (p q : Tokens) → same_path p q ≡ false → same_path q p ≡ false
apart p q h = is_false (same_path q p) (λ same. true≢false (sym (same_path-refl p) ∙ ap (same_path p) (sym (same_path-true q p same)) ∙ h))

held-walk : (f : Forest) (d : ℕ) (q : Tokens) (needle : Bytes) → list_any (is_hit_in needle q) (walk d q f) ≡ members_hit needle f
held-walk end d q needle = refl
held-walk (leaf i rest) d q needle = rw (same_path-refl q, leaf-hit needle d i.name i.place i.content, held-walk rest d q needle)
held-walk (branch n o kids rest) d q needle =
    let r = q ++ steps n o in
    let K = walk (suc d) r kids in
    let none : list_any (is_hit_in needle q) K ≡ false =
    none-held kids (suc d) r q needle (λ z. apart q (r ++ z) (ap (same_path q) (append_assoc q (steps n o) z) ∙ same_path-longer q n o z)) in
    rw (same_path-refl q, list_any-append (is_hit_in needle q) K (walk d q rest), none, held-walk rest d q needle)

held-block : (es : List LocatedLine) (d : ℕ) (q : Tokens) (kids : Forest) (needle : Bytes) → AreUnderParents es → below q es ≡ walk d q kids →
    holds_needle es needle q ≡ members_hit needle kids
held-block es d q kids needle under block = any-below es q needle under ∙ ap (list_any (is_hit_in needle q)) block ∙ held-walk kids d q needle

-- ---- all classes

module _ (c : Case) (s : Standing) (asked : Bytes → Forest → Bool) (asks : List LocatedLine → LocatedLine → Bool) where
  -- whether a class is visible and answers
  abbrev answers : List LocatedLine → LocatedLine → Bool
  answers es e = (is_class e && is_visible es c s e.path) && asks es e

  -- the question to a class is about its name and its members
  abbrev AsksMembers : List LocatedLine → Type 0
  AsksMembers es = (e : LocatedLine) (d : ℕ) (kids : Forest) → below e.path es ≡ walk d e.path kids → asks es e ≡ asked e.line.name kids

  found-walk : (es : List LocatedLine) (under : AreUnderParents es) → AsksMembers es → (f : Forest) (d : ℕ) (p : Tokens) → AreBlocks es d p f → ArePlaced es p f →
      list_any (answers es) (walk d p f) ≡ found c s asked (inherited_at es c s p) f
  found-walk es under members end d p blocks there = refl
  found-walk es under members (leaf i rest) d p blocks there = rw (no_class-kind i.content, found-walk es under members rest d p blocks there)
  found-walk es under members (branch name place kids rest) d p blocks there =
      let q = p ++ steps name place in
      let written : written_label es q ≡ spelled_in kids = written-block es (suc d) q kids under blocks.0 there.0 in
      rw (members (class_entry d p name place) (suc d) kids blocks.0, list_any-append (answers es) (walk (suc d) q kids) (walk d p rest))
      (rw (found-walk es under members kids (suc d) q blocks.1 there.2, found-walk es under members rest d p blocks.2 there.3, enter-at es c s under p name place (spelled_in kids) there.0 there.1 written))

  found-lines : (f : Forest) → IsSound f → AsksMembers (located (lines 1 f)) → list_any (answers (located (lines 1 f))) (located (lines 1 f)) ≡ found c s asked (at_root c s) f
  found-lines f sound members =
      let es = located (lines 1 f) in
      ap (list_any (answers es)) (located-lines f sound)
      ∙ found-walk es (below-parents (lines 1 f)) members f 1 [] (blocks-located f sound) (placed f sound)
      ∙ ap (λ h. found c s asked h f) (sym (at_root-is es c s (root-bare f sound)))

-- a search of a whole document
pub found_all : (c : Case) (s : Standing) (needle : Bytes) (class : Option Bytes) (f : Forest) {ls : List Line} {h : Inherited} {n : Bytes} → IsSound f → lines 1 f ≡ ls → h ≡ at_root c s → n ≡ needle →
    found c s (holds_text n class) h f ≡ finds ls c s needle class
found_all c s needle class f {ls} {h} {n} sound is at same = rw (← is, at, same) (sym (
    found-lines c s (holds_text needle class) (λ es e. is_named class e.line.name && holds_needle es needle e.path) f sound
    (λ e d kids block. ap (λ b. is_named class e.line.name && b) (held-block (located (lines 1 f)) d e.path kids needle (below-parents (lines 1 f)) block))))

-- whether any class of it is visible
pub listed_all : (c : Case) (s : Standing) (f : Forest) {ls : List Line} {h : Inherited} → IsSound f → lines 1 f ≡ ls → h ≡ at_root c s → found c s any_class h f ≡ is_listed ls c s
listed_all c s f {ls} {h} sound is at =
    let es = located (lines 1 f) in
    rw (← is, at) (sym (ap (λ P. list_any P es) (λ i e. sym (and-true (is_class e && is_visible es c s e.path)) i) ∙ found-lines c s any_class (λ es e. true) f sound (λ e d kids block. refl)))
