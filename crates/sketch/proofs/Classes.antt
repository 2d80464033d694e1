-- The walk down the tree meets the texts that the definition finds among the lines.
use Rattle.std.proofs.Common.{◌≡◌, ℕ, suc, List, [], ◌∷◌, ◌++◌, false, cond, ◌&&◌, map, filter, refl, sym, ◌∙◌, ap, append-nil, append_assoc, Option}
use Rattle.std.{proofs.lemmas.{Bool.{cond_both, true≢false}, List.{map-append, Concat.flat_map-append, Elements.filter-append}}, specs.List.flat_map}
use Rattle.iodef_tree.proofs.{Blocks.{blocks-located, below-parents}, Located.located-lines, Order.{same_path-refl, same_path-true, same_path-longer, is_false}}
use Rattle.iodef_tree.specs.{Paths.{LocatedLine, located, below, is_class, class_paths}, Sound.IsSound, Text.{Bytes, Tokens, same_path, is_under}, Tree.Content}
use Rattle.iodef_tree.specs.{Tree.{text, value, Forest, end, leaf, branch, steps, lines, kind_of, text_of}, Walk.{walk, leaf_entry, AreBlocks}}
use Rattle.{iodef_tree.specs.declared.line.Line.Line, marking.{proofs.{Bad.no_class-kind, Written.AreUnderParents}, specs.declared.label.Handling.Handling}}
use Rattle.{redact.specs.Told.is_text_kind, sketch.specs.{Holdings.{held_in, is_text_in, texts_at, held_by, holdings}, Labels.{handling_at, handlings}}}
use Rattle.sketch.specs.inner.Held.{content_texts, texts_in, left_below, holdings_below}

-- the text of a line
abbrev its_text : LocatedLine → Bytes
its_text e = e.line.text

-- ---- the lines directly in a class are among those below its path

filter-below : (es : List LocatedLine) (q : Tokens) → AreUnderParents es → filter (is_text_in q) es ≡ filter (is_text_in q) (below q es)
filter-below [] q h = refl
filter-below (e ∷ es) q h =
    let later = filter-below es q h.1 in
    cond_both (is_under q e.path) _ _ (λ ws. filter (is_text_in q) (e ∷ es) ≡ filter (is_text_in q) ws) (λ u. ap (λ o. cond (is_text_in q e) (e ∷ o) o) later) (λ u.
    let elsewhere : same_path e.parent q ≡ false =
    is_false (same_path e.parent q) (λ same. true≢false (sym h.0 ∙ ap (λ r. is_under r e.path) (same_path-true e.parent q same) ∙ u)) in
    rw (elsewhere, later))

-- ---- in a walk

-- no line is directly in q if no path at or below p is q
none-in : (f : Forest) (d : ℕ) (p q : Tokens) → ((z : Tokens) → same_path (p ++ z) q ≡ false) → filter (is_text_in q) (walk d p f) ≡ []
none-in end d p q h = refl
none-in (leaf i rest) d p q h = rw (rw append-nil at (h []), none-in rest d p q h)
none-in (branch n o kids rest) d p q h =
    let r = p ++ steps n o in
    let below = none-in kids (suc d) r q (λ z. ap (λ x. same_path x q) (append_assoc p (steps n o) z) ∙ h (steps n o ++ z)) in
    rw (rw append-nil at (h []), filter-append (is_text_in q) (walk (suc d) r kids) (walk d p rest), below, none-in rest d p q h)

apart : (p q : Tokens) → same_path p q ≡ false → same_path q p ≡ false
apart p q h = is_false (same_path q p) (λ same. true≢false (sym (same_path-refl p) ∙ ap (same_path p) (sym (same_path-true q p same)) ∙ h))

leaf-text : (c : Content) (e : LocatedLine) (es : List LocatedLine) (ts : List Bytes) → its_text e ≡ text_of c → map its_text es ≡ ts →
    map its_text (cond (is_text_kind (kind_of c)) (e ∷ es) es) ≡ content_texts c ++ ts
leaf-text (text s) e es ts is later = rw (is, later)
leaf-text (value s) e es ts is later = later

texts-walk : (f : Forest) (d : ℕ) (q : Tokens) → map its_text (filter (is_text_in q) (walk d q f)) ≡ texts_in f
texts-walk end d q = refl
texts-walk (leaf i rest) d q =
    let F = filter (is_text_in q) (walk d q rest) in
    ap (λ b. map its_text (cond (b && is_text_kind (kind_of i.content)) (leaf_entry d q i ∷ F) F)) (same_path-refl q)
    ∙ leaf-text i.content (leaf_entry d q i) F (texts_in rest) refl (texts-walk rest d q)
texts-walk (branch n o kids rest) d q =
    let r = q ++ steps n o in
    let K = walk (suc d) r kids in
    let none : filter (is_text_in q) K ≡ [] = none-in kids (suc d) r q (λ z. apart q (r ++ z) (ap (same_path q) (append_assoc q (steps n o) z) ∙ same_path-longer q n o z)) in
    rw (same_path-refl q, filter-append (is_text_in q) K (walk d q rest), none, texts-walk rest d q)

texts-block : (es : List LocatedLine) (d : ℕ) (q : Tokens) (kids : Forest) → AreUnderParents es → below q es ≡ walk d q kids → texts_at es q ≡ texts_in kids
texts-block es d q kids under block = ap (map its_text) (filter-below es q under ∙ ap (filter (is_text_in q)) block) ∙ texts-walk kids d q

-- ---- all classes

-- the path of a line
abbrev its_path : LocatedLine → Tokens
its_path e = e.path

module _ (es : List LocatedLine) (under : AreUnderParents es) where
  -- the handlings of the classes among these lines
  abbrev handled : List LocatedLine → List (Option Handling)
  handled ws = map (handling_at es) (class_paths ws)

  handled-append : (vs ws : List LocatedLine) → handled (vs ++ ws) ≡ handled vs ++ handled ws
  handled-append vs ws =
      ap (λ xs. map (handling_at es) (map its_path xs)) (filter-append is_class vs ws)
      ∙ ap (map (handling_at es)) (map-append its_path (filter is_class vs) (filter is_class ws))
      ∙ map-append (handling_at es) (class_paths vs) (class_paths ws)

  handled-both : (vs ws : List LocatedLine) (more : List (Option Handling)) → handled (vs ++ ws) ++ more ≡ handled vs ++ (handled ws ++ more)
  handled-both vs ws more = ap (λ hs. hs ++ more) (handled-append vs ws) ∙ append_assoc (handled vs) (handled ws) more

  -- the classes of a walk take their own handlings
  left-walk : (f : Forest) (d : ℕ) (p : Tokens) (more : List (Option Handling)) → left_below (handled (walk d p f) ++ more) f ≡ more
  left-walk end d p more = refl
  left-walk (leaf i rest) d p more =
      let W = filter is_class (walk d p rest) in
      ap (λ b. left_below (map (handling_at es) (map its_path (cond b (leaf_entry d p i ∷ W) W)) ++ more) rest) (no_class-kind i.content) ∙ left-walk rest d p more
  left-walk (branch n o kids rest) d p more =
      let q = p ++ steps n o in
      let K = walk (suc d) q kids in
      let W = walk d p rest in
      ap (λ hs. left_below (left_below hs kids) rest) (handled-both K W more)
      ∙ ap (λ hs. left_below hs rest) (left-walk kids (suc d) q (handled W ++ more))
      ∙ left-walk rest d p more

  held-walk : (f : Forest) (d : ℕ) (p : Tokens) (more : List (Option Handling)) → AreBlocks es d p f → flat_map (held_by es) (walk d p f) ≡ holdings_below (handled (walk d p f) ++ more) f
  held-walk end d p more blocks = refl
  held-walk (leaf i rest) d p more blocks =
      let W = filter is_class (walk d p rest) in
      let e = leaf_entry d p i in
      ap (λ b. cond b (map (held_in i.name (handling_at es e.path)) (texts_at es e.path)) [] ++ flat_map (held_by es) (walk d p rest)) (no_class-kind i.content)
      ∙ held-walk rest d p more blocks
      ∙ sym (ap (λ b. holdings_below (map (handling_at es) (map its_path (cond b (e ∷ W) W)) ++ more) rest) (no_class-kind i.content))
  held-walk (branch n o kids rest) d p more blocks =
      let q = p ++ steps n o in
      let K = walk (suc d) q kids in
      let W = walk d p rest in
      let own = held_in n (handling_at es q) in
      let inner = handled K ++ (handled W ++ more) in
      ap (λ ts. map own ts ++ flat_map (held_by es) (K ++ W)) (texts-block es (suc d) q kids under blocks.0)
      ∙ ap (λ hs. map own (texts_in kids) ++ hs)
      (flat_map-append (held_by es) K W
      ∙ ap (λ hs. hs ++ flat_map (held_by es) W) (held-walk kids (suc d) q (handled W ++ more) blocks.1)
      ∙ ap (λ hs. holdings_below inner kids ++ hs) (held-walk rest d p more blocks.2)
      ∙ ap (λ hs. holdings_below inner kids ++ holdings_below hs rest) (sym (left-walk kids (suc d) q (handled W ++ more)))
      ∙ ap (λ hs. holdings_below hs kids ++ holdings_below (left_below hs kids) rest) (sym (handled-both K W more)))

pub held-all : (f : Forest) (ls : List Line) (hs : List (Option Handling)) → IsSound f → lines 1 f ≡ ls → hs ≡ handlings ls → holdings_below hs f ≡ holdings ls
held-all f ls hs sound is handled_is =
    let es = located (lines 1 f) in
    let under = below-parents (lines 1 f) in
    let W = walk 1 [] f in
    ap (λ xs. holdings_below xs f) (handled_is ∙ ap handlings (sym is) ∙ ap (handled es under) (located-lines f sound) ∙ sym (append-nil (handled es under W)))
    ∙ sym (ap (flat_map (held_by es)) (located-lines f sound) ∙ held-walk es under f 1 [] [] (blocks-located f sound)) ∙ ap holdings is
