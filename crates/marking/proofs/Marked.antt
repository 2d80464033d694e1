-- A pass down the tree marks each class as the definitions say.
use Rattle.std.proofs.{Common.{◌≡◌, ℕ, suc, List, [], ◌∷◌, ◌++◌, Bool, true, false, cond, ◌&&◌, ◌||◌, map, refl, sym, ◌∙◌, ap}, lemmas.Bool.false≢true}
use Rattle.std.{proofs.lemmas.List.{map-append, Concat.flat_map-append}, specs.{List.AllByRecursion, Option.option_or, Prelude.{Option, Some, None, is_some}}}
use Rattle.{std.specs.{Prelude.{unwrap_or, codes}, Str.{bytes_eq, byte}}, iodef_tree.proofs.Blocks.{blocks-located, below-parents}}
use Rattle.iodef_tree.proofs.{Inverse.pointer_tokens-pointer_text, Located.located-lines, Order.{bytes_eq-true, same_path-refl, same_path-true}}
use Rattle.iodef_tree.specs.{Paths.{LocatedLine, has_class, class_paths, located}, Pointer.{pointer_text, pointer_tokens, escaped}, Sound.IsSound, Text.Bytes}
use Rattle.iodef_tree.specs.{Text.{Tokens, same_path, is_root, is_under}, Tree.{Forest, end, leaf, branch, steps, lines}, Walk.{walk, leaf_entry, AreBlocks}}
use Rattle.marking.proofs.{Bad.{class_paths-leaf, class_paths-append, no_class-kind}, Placed.{ArePlaced, placed, no_class}, Sites.{site-steps, label-steps}}
use Rattle.marking.{proofs.Written.{AreUnderParents, written-block, written-none, own-none}, specs.{Label.private, Marks.{incident_path, has_default}}}
use Rattle.marking.specs.{Marks.{written_label, own_label, has_own_label, site_of, label_at, Marked, marked_at}, Members.spelled_in, inner.Pass.own_below}
use Rattle.marking.specs.inner.Pass.{marked_step, enter, marked_below}

-- ---- the Incident's path by its pointer

pub incident-pointer : (q : Tokens) → bytes_eq (pointer_text q) (codes "/Incident/0") ≡ same_path q incident_path
incident-pointer q = agree (bytes_eq (pointer_text q) (codes "/Incident/0")) (same_path q incident_path)
    (λ e. let one : Some q ≡ Some incident_path =
    sym (pointer_tokens-pointer_text q) ∙ ap pointer_tokens (bytes_eq-true (pointer_text q) (codes "/Incident/0") e) in
    ap (λ p. same_path p incident_path) (same_path-of one) ∙ same_path-refl incident_path)
    (λ e. ap (λ p. bytes_eq (pointer_text p) (codes "/Incident/0")) (same_path-true q incident_path e))
  where
    same_path-of : Some q ≡ Some incident_path → q ≡ incident_path
    same_path-of h = cc

    agree : (a b : Bool) → (a ≡ true → b ≡ true) → (b ≡ true → a ≡ true) → a ≡ b
    agree true b f g = sym (f refl)
    agree false true f g = g refl
    agree false false f g = refl

and-true : (b : Bool) → b ≡ (b && true)
and-true true = refl
and-true false = refl

pub not_root : (p : Tokens) (n : Bytes) (o : Option ℕ) → is_root (p ++ steps n o) ≡ false
not_root [] n None = refl
not_root [] n (Some k) = refl
not_root (x ∷ p) n o = refl

-- ---- one step

own-steps : (es : List LocatedLine) (p : Tokens) (n : Bytes) (o : Option ℕ) (kids : Forest) → has_class es (p ++ steps n o) ≡ true → written_label es (p ++ steps n o) ≡ spelled_in kids →
    own_below (pointer_text (p ++ steps n o)) kids ≡ own_label es (p ++ steps n o)
own-steps es p n o kids there written =
    let q = p ++ steps n o in
    let default : bytes_eq (pointer_text q) (codes "/Incident/0") ≡ has_default es q =
    incident-pointer q
    ∙ and-true (same_path q incident_path)
    ∙ ap (λ b. same_path q incident_path && b) (sym there)
    ∙ ap (λ b. b || (same_path q incident_path && has_class es q)) (sym (not_root p n o)) in
    ap (λ w. option_or w (cond (bytes_eq (pointer_text q) (codes "/Incident/0")) (Some private) None)) (sym written)
    ∙ ap (λ b. option_or (written_label es q) (cond b (Some private) None)) default

pointer-append : (p q : Tokens) → pointer_text p ++ pointer_text q ≡ pointer_text (p ++ q)
pointer-append p q = sym (flat_map-append (λ token. byte "/" ∷ escaped token) p q)

choose-pointer : (b : Bool) (q s : Tokens) → cond b (pointer_text q) (pointer_text s) ≡ pointer_text (cond b q s)
choose-pointer true q s = refl
choose-pointer false q s = refl

-- A pass that goes one step down inherits what the definitions say at the class there.
pub enter-at : (es : List LocatedLine) (p : Tokens) (n : Bytes) (o : Option ℕ) (kids : Forest) → has_class es (p ++ steps n o) ≡ true → written_label es (p ++ steps n o) ≡ spelled_in kids →
    (is_some o ≡ true → own_label es (p ++ n ∷ []) ≡ None) → enter (marked_at es p) n o kids ≡ marked_at es (p ++ steps n o)
enter-at es p n o kids there written array =
    let q = p ++ steps n o in
    let own : own_below (pointer_text q) kids ≡ own_label es q = own-steps es p n o kids there written in
    let label : unwrap_or (own_below (pointer_text q) kids) (label_at es p) ≡ label_at es q =
    ap (λ l. unwrap_or l (label_at es p)) own ∙ sym (label-steps es p n o array) in
    let site : cond (is_some (own_below (pointer_text q) kids)) (pointer_text q) (pointer_text (site_of es p)) ≡ pointer_text (site_of es q) =
    ap (λ l. cond (is_some l) (pointer_text q) (pointer_text (site_of es p))) own
    ∙ choose-pointer (has_own_label es q) q (site_of es p)
    ∙ ap pointer_text (sym (site-steps es p n o array)) in
    ap (λ path. marked_step (marked_at es p) path (own_below path kids)) (pointer-append p (steps n o))
    ∙ (λ i. record { path = pointer_text q; label = label i; site = site i })

-- ---- down the tree

module _ (es : List LocatedLine) (under : AreUnderParents es) where
  marked-walk : (f : Forest) (d : ℕ) (p : Tokens) → AreBlocks es d p f → ArePlaced es p f → marked_below (marked_at es p) f ≡ map (marked_at es) (class_paths (walk d p f))
  marked-walk end d p b placed = refl
  marked-walk (leaf i rest) d p b placed =
      marked-walk rest d p b placed ∙ ap (map (marked_at es)) (sym (class_paths-leaf (walk d p rest) (leaf_entry d p i) (no_class-kind i.content)))
  marked-walk (branch n o kids rest) d p b placed =
      let q = p ++ steps n o in
      let above = marked_at es p in
      let K = walk (suc d) q kids in
      let R = walk d p rest in
      ap (λ h. h ∷ (marked_below h kids ++ marked_below above rest))
      (enter-at es p n o kids placed.0 (written-block es (suc d) q kids under b.0 placed.0) (λ s. own-none es (p ++ n ∷ []) (not_root p n None) (placed.1 s)))
      ∙ ap (λ ts. marked_at es q ∷ (ts ++ marked_below above rest)) (marked-walk kids (suc d) q b.1 placed.2)
      ∙ ap (λ ts. marked_at es q ∷ (map (marked_at es) (class_paths K) ++ ts)) (marked-walk rest d p b.2 placed.3)
      ∙ ap (λ ts. marked_at es q ∷ ts) (sym (map-append (marked_at es) (class_paths K) (class_paths R)) ∙ ap (map (marked_at es)) (sym (class_paths-append K R)))

-- ---- from the root

below-is_no_root : (q p : Tokens) → is_under q p ≡ true → same_path p [] ≡ false
below-is_no_root [] [] h = absurd (false≢true h)
below-is_no_root (x ∷ q) [] h = absurd (false≢true h)
below-is_no_root q (y ∷ p) h = refl

none-at_root : (es : List LocatedLine) → AreUnderParents es → AllByRecursion (λ (e : LocatedLine). same_path e.path [] ≡ false) es
none-at_root [] h = tt
none-at_root (e ∷ es) h = (below-is_no_root e.parent e.path h.0, none-at_root es h.1)

-- no label is written in the root
pub root-written : (es : List LocatedLine) → AreUnderParents es → written_label es [] ≡ None
root-written es h = written-none es [] (no_class es [] (none-at_root es h))

pub root-site : (es : List LocatedLine) → site_of es [] ≡ []
root-site es = by_test (has_own_label es [])
  where
    by_test : (b : Bool) → unwrap_or {T = Tokens} (cond b (Some []) None) [] ≡ []
    by_test true = refl
    by_test false = refl

pub root-label : (es : List LocatedLine) → AreUnderParents es → label_at es [] ≡ private
root-label es h =
    ap (λ p. unwrap_or (own_label es p) private) (root-site es) ∙ ap (λ o. unwrap_or (option_or o (Some private)) private) (root-written es h)

-- how the root is marked, at the start of the pass
abbrev pub at_root : Marked
at_root = record { path = []; label = private; site = [] }

pub marked-all : (f : Forest) → IsSound f → let es = located (lines 1 f) in marked_below at_root f ≡ map (marked_at es) (class_paths es)
marked-all f sound =
    let es = located (lines 1 f) in
    let under = below-parents (lines 1 f) in
    let label : private ≡ label_at es [] = sym (root-label es under) in
    let site : [] ≡ pointer_text (site_of es []) = ap pointer_text (sym (root-site es)) in
    let root : at_root ≡ marked_at es [] = λ i. record { path = []; label = label i; site = site i } in
    ap (λ a. marked_below a f) root
    ∙ marked-walk es under f 1 [] (blocks-located f sound) (placed f sound)
    ∙ ap (λ xs. map (marked_at es) (class_paths xs)) (sym (located-lines f sound))
