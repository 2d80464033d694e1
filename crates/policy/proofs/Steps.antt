-- What the policy says at a path, one step below another.
use Rattle.std.proofs.Common.{◌≡◌, ◌+◌, ◌≤◌, Bool, true, false, not, List, [], ◌∷◌, ◌++◌, length, refl, sym, ◌∙◌, ap, arith, map, if◌then◌else◌, ◌&&◌, ◌||◌}
use Rattle.std.proofs.{Common.length-append, lemmas.Bool.{lt-ltb, le-ltb, and_left, and_parts, not_from_false, false_from_ne_true, and_from, false≢true}}
use Rattle.std.{proofs.lemmas.List.{append-nil, map-append, reverse-append, Concat.flat_map-append, Folds.{list_all-append, list_all-map}}, specs.List.flat_map}
use Rattle.std.specs.{List.{list_any, list_all}, Option.option_or, Prelude.{nat_lt, Option, Some, None, unwrap_or, is_some, is_none, find, reverse}}
use Rattle.{std.specs.Str.bytes_eq, iodef_tree.{proofs.Order.same_path-true, specs.{Paths.{LocatedLine, has_class}, Text.{Bytes, Tokens, same_path, is_root}}}}
use Rattle.{iodef_tree.specs.Text.{is_prefix, prefixes}, marking.specs.{Label.{LabelValue, private}, Marks.{written_label, incident_path, has_default}}}
use Rattle.{marking.specs.Marks.{own_label, has_own_label, label_at}, policy.specs.Inherited.{Inherited, approach_at, inherited_at, is_granted, approach_below}}
use Rattle.policy.specs.{Inherited.{label_step, array_step, class_step, enter_array, enter_class, at_root}, Permissions.{holds_for, is_unmarked_below, covers}}
use Rattle.policy.specs.{Verdict.{first_of, refusals_at, refusal_at, is_covered}, declared.{case.Case.Case, permission.Permission.Permission}}
use Rattle.policy.specs.declared.standing.Standing.{Standing}

pub prefixes-push : (p : Tokens) (x : Bytes) → prefixes (p ++ x ∷ []) ≡ prefixes p ++ (p ++ x ∷ []) ∷ []
prefixes-push [] x = refl
prefixes-push (y ∷ p) x =
    ap (λ qs. [] ∷ map (λ q. y ∷ q) qs) (prefixes-push p x)
    ∙ ap (λ qs. [] ∷ qs) (map-append (λ q. y ∷ q) (prefixes p) ((p ++ x ∷ []) ∷ []))

pub first_of-append : {A : Type 0} (xs ys : List A) → first_of (xs ++ ys) ≡ option_or (first_of xs) (first_of ys)
first_of-append [] ys = refl
first_of-append (x ∷ xs) ys = refl

-- the gates above come first
refusal_at-push : (c : Case) (s : Standing) (p : Tokens) (x : Bytes) →
    refusal_at c s (p ++ x ∷ []) ≡ option_or (refusal_at c s p) (first_of (refusals_at c s (p ++ x ∷ [])))
refusal_at-push c s p x =
    ap (λ qs. first_of (flat_map (refusals_at c s) qs)) (prefixes-push p x)
    ∙ ap first_of (flat_map-append (refusals_at c s) (prefixes p) ((p ++ x ∷ []) ∷ [])
    ∙ ap (λ ys. flat_map (refusals_at c s) (prefixes p) ++ ys) (append-nil (refusals_at c s (p ++ x ∷ []))))
    ∙ first_of-append (flat_map (refusals_at c s) (prefixes p)) (refusals_at c s (p ++ x ∷ []))

by_own : (es : List LocatedLine) (p q : Tokens) (o : Option LabelValue) → own_label es q ≡ o →
    unwrap_or (own_label es (unwrap_or (find (has_own_label es) (q ∷ reverse (prefixes p))) [])) private ≡ unwrap_or o (label_at es p)
by_own es p q None e =
    ap (λ o. unwrap_or (own_label es (unwrap_or (if is_some o then Some q else find (has_own_label es) (reverse (prefixes p))) [])) private) e
by_own es p q (Some l) e =
    ap (λ o. unwrap_or (own_label es (unwrap_or (if is_some o then Some q else find (has_own_label es) (reverse (prefixes p))) [])) private) e
    ∙ ap (λ o. unwrap_or o private) e

-- the label one step below: its own, or the one above
label_at-push : (es : List LocatedLine) (p : Tokens) (x : Bytes) →
    label_at es (p ++ x ∷ []) ≡ unwrap_or (own_label es (p ++ x ∷ [])) (label_at es p)
label_at-push es p x =
    let q = p ++ x ∷ [] in
    ap (λ rs. unwrap_or (own_label es (unwrap_or (find (has_own_label es) rs) [])) private)
    (ap reverse (prefixes-push p x) ∙ reverse-append (prefixes p) (q ∷ []))
    ∙ by_own es p q (own_label es q) refl

is_root-push : (p : Tokens) (x : Bytes) → is_root (p ++ x ∷ []) ≡ false
is_root-push [] x = refl
is_root-push (y ∷ p) x = refl

-- the own label of a class below the root
own_label-class : (es : List LocatedLine) (p : Tokens) (x : Bytes) (w : Option LabelValue) →
    has_class es (p ++ x ∷ []) ≡ true → written_label es (p ++ x ∷ []) ≡ w →
    own_label es (p ++ x ∷ []) ≡ option_or w (if same_path (p ++ x ∷ []) incident_path then Some private else None)
own_label-class es p x w here is =
    let q = p ++ x ∷ [] in
    ap (λ o. option_or o (if has_default es q then Some private else None)) is
    ∙ ap (λ b. option_or w (if b || (same_path q incident_path && has_class es q) then Some private else None)) (is_root-push p x)
    ∙ ap (λ b. option_or w (if same_path q incident_path && b then Some private else None)) here
    ∙ ap (λ b. option_or w (if b then Some private else None)) (and_true (same_path q incident_path))
  where
    and_true : (b : Bool) → (b && true) ≡ b
    and_true true = refl
    and_true false = refl

written_label-none : (es : List LocatedLine) (q : Tokens) → has_class es q ≡ false → written_label es q ≡ None
written_label-none es q none = search none

own_label-none : (es : List LocatedLine) (p : Tokens) (x : Bytes) → has_class es (p ++ x ∷ []) ≡ false → own_label es (p ++ x ∷ []) ≡ None
own_label-none es p x none =
    let q = p ++ x ∷ [] in
    ap (λ o. option_or o (if has_default es q then Some private else None)) (written_label-none es q none)
    ∙ ap (λ b. if b || (same_path q incident_path && has_class es q) then Some private else None) (is_root-push p x)
    ∙ ap (λ b. if same_path q incident_path && b then Some private else None) none
    ∙ ap (λ b. if b then Some private else None) (and_false (same_path q incident_path))
  where
    and_false : (b : Bool) → (b && false) ≡ false
    and_false true = refl
    and_false false = refl

is_prefix-push : (r p : Tokens) (x : Bytes) → is_prefix r (p ++ x ∷ []) ≡ (is_prefix r p || same_path r (p ++ x ∷ []))
is_prefix-push [] p x = refl
is_prefix-push (y ∷ []) [] x = elim (bytes_eq y x) as (λ b. (b && true) ≡ (b && true)) [ true ↦ refl | false ↦ refl ]
is_prefix-push (y ∷ z ∷ r) [] x = elim (bytes_eq y x) as (λ b. (b && false) ≡ (b && false)) [ true ↦ refl | false ↦ refl ]
is_prefix-push (y ∷ r) (z ∷ p) x =
    ap (λ b. bytes_eq y z && b) (is_prefix-push r p x)
    ∙ elim (bytes_eq y z) as (λ b. (b && (is_prefix r p || same_path r (p ++ x ∷ []))) ≡ ((b && is_prefix r p) || (b && same_path r (p ++ x ∷ [])))) [ true ↦ refl | false ↦ refl ]

is_prefix-short : (r p : Tokens) → is_prefix r p ≡ true → length r ≤ length p
is_prefix-short [] p h = omega arith
is_prefix-short (y ∷ r) [] h = absurd (false≢true h)
is_prefix-short (y ∷ r) (z ∷ p) h = let k = is_prefix-short r p (and_parts (bytes_eq y z) (is_prefix r p) h).1 in omega arith

all_prefixes : (P : Tokens → Bool) (p : Tokens) → ((r : Tokens) → length r ≤ length p → P r ≡ true) → list_all P (prefixes p) ≡ true
all_prefixes P [] h = and_from (P []) true (h [] (omega arith)) refl
all_prefixes P (x ∷ p) h =
    and_from (P []) _ (h [] (omega arith))
    (list_all-map P (λ r. x ∷ r) (prefixes p) ∙ all_prefixes (λ r. P (x ∷ r)) p (λ r k. h (x ∷ r) (omega (arith, k))))

combine : (i pre eq L f w : Bool) → (eq ≡ true → pre ≡ false) → (eq ≡ true → f ≡ true) → (eq ≡ true → L ≡ true) →
    (eq ≡ false → pre ≡ true → f ≡ not w) → (i && ((pre || eq) && (L && (f && true)))) ≡ (((i && (pre && L)) && not w) || (i && eq))
combine i pre eq L f w h1 h2 h3 h4 = grind arith

not_some : (o : Option LabelValue) → is_none o ≡ not (is_some o)
not_some None = refl
not_some (Some l) = refl

-- A permission covers a class if it is at the class itself, or if it covers the path above and no label is written in
-- the class.
pub covers-push : (es : List LocatedLine) (s : Standing) (p : Tokens) (x : Bytes) (y : Permission) →
    covers es s (p ++ x ∷ []) y
    ≡ ((covers es s p y && is_none (written_label es (p ++ x ∷ []))) || (holds_for s y && same_path y.path (p ++ x ∷ [])))
covers-push es s p x y =
    let q = p ++ x ∷ [] in
    let r = y.path in
    let F = is_unmarked_below es r in
    let len : length q ≡ length p + 1 = length-append p (x ∷ []) in
    ap (λ b. holds_for s y && b)
    (ap (λ b. b && list_all F (prefixes q)) (is_prefix-push r p x)
    ∙ ap (λ b. (is_prefix r p || same_path r q) && b) (ap (list_all F) (prefixes-push p x) ∙ list_all-append F (prefixes p) (q ∷ [])))
    ∙ combine (holds_for s y) (is_prefix r p) (same_path r q) (list_all F (prefixes p)) (F q) (is_some (written_label es q))
    (λ e. let as_long : length r ≡ length p + 1 = ap length (same_path-true r q e) ∙ len in
    false_from_ne_true (is_prefix r p) (λ h. omega (arith, is_prefix-short r p h, as_long)))
    (λ e. let as_long : length r ≡ length p + 1 = ap length (same_path-true r q e) ∙ len in
    not_from_false (nat_lt (length r) (length q) && is_some (written_label es q)) (and_left (nat_lt (length r) (length q)) _ (le-ltb (length r) (length q) (omega arith))))
    (λ e. let as_long : length r ≡ length p + 1 = ap length (same_path-true r q e) ∙ len in
    all_prefixes F p (λ z k. not_from_false (nat_lt (length r) (length z) && is_some (written_label es z)) (and_left (nat_lt (length r) (length z)) _ (le-ltb (length r) (length z) (omega (arith, k))))))
    (λ n k. ap (λ b. not (b && is_some (written_label es q))) (lt-ltb (length r) (length q) (let short = is_prefix-short r p k in omega (arith, short, len))))
    ∙ ap (λ n. (covers es s p y && n) || (holds_for s y && same_path r q)) (sym (not_some (written_label es q)))

any-split : {X : Type 0} (f g h : X → Bool) (n : Bool) → ((x : X) → h x ≡ ((f x && n) || g x)) → (xs : List X) →
    list_any h xs ≡ ((list_any f xs && n) || list_any g xs)
any-split f g h n same [] = refl
any-split f g h n same (x ∷ xs) =
    ap (λ b. b || list_any h xs) (same x) ∙ ap (λ b. ((f x && n) || g x) || b) (any-split f g h n same xs)
    ∙ spread (f x) n (g x) (list_any f xs) (list_any g xs)
  where
    spread : (a n b A B : Bool) → (((a && n) || b) || ((A && n) || B)) ≡ (((a || A) && n) || (b || B))
    spread a n b A B = grind arith

is_covered-push : (es : List LocatedLine) (c : Case) (s : Standing) (p : Tokens) (x : Bytes) →
    is_covered es c s (p ++ x ∷ []) ≡ ((is_covered es c s p && is_none (written_label es (p ++ x ∷ []))) || is_granted c s (p ++ x ∷ []))
is_covered-push es c s p x =
    let q = p ++ x ∷ [] in
    any-split (covers es s p) (λ y. holds_for s y && same_path y.path q) (covers es s q) (is_none (written_label es q)) (covers-push es s p x) c.permissions

-- the refusal, one token further down
pub approach_below-at : (c : Case) (s : Standing) (p : Tokens) (x : Bytes) →
    approach_below c s (approach_at c s p) x ≡ approach_at c s (p ++ x ∷ [])
approach_below-at c s p x = λ i. record { path = p ++ x ∷ []; refusal = sym (refusal_at-push c s p x) i }

-- one token further down into a class
pub enter_class-at : (es : List LocatedLine) (c : Case) (s : Standing) (p : Tokens) (x : Bytes) (w : Option LabelValue) →
    has_class es (p ++ x ∷ []) ≡ true → written_label es (p ++ x ∷ []) ≡ w →
    enter_class c s (inherited_at es c s p) x w ≡ inherited_at es c s (p ++ x ∷ [])
enter_class-at es c s p x w here is =
    let q = p ++ x ∷ [] in
    let label : label_step (label_at es p) q w ≡ label_at es q =
    ap (λ o. unwrap_or o (label_at es p)) (sym (own_label-class es p x w here is)) ∙ sym (label_at-push es p x) in
    let lives : ((is_covered es c s p && is_none w) || is_granted c s q) ≡ is_covered es c s q =
    ap (λ o. (is_covered es c s p && is_none o) || is_granted c s q) (sym is) ∙ sym (is_covered-push es c s p x) in
    λ i. record { approach = approach_below-at c s p x i; label = label i; covered = lives i }

-- one token further down into an array, at whose own path there is no class
pub enter_array-at : (es : List LocatedLine) (c : Case) (s : Standing) (p : Tokens) (x : Bytes) → has_class es (p ++ x ∷ []) ≡ false →
    enter_array c s (inherited_at es c s p) x ≡ inherited_at es c s (p ++ x ∷ [])
enter_array-at es c s p x none =
    let q = p ++ x ∷ [] in
    let label : label_at es p ≡ label_at es q =
    ap (λ o. unwrap_or o (label_at es p)) (sym (own_label-none es p x none)) ∙ sym (label_at-push es p x) in
    let lives : (is_covered es c s p || is_granted c s q) ≡ is_covered es c s q =
    ap (λ b. b || is_granted c s q) (and_with (is_covered es c s p))
    ∙ ap (λ o. (is_covered es c s p && is_none o) || is_granted c s q) (sym (written_label-none es q none))
    ∙ sym (is_covered-push es c s p x) in
    λ i. record { approach = approach_below-at c s p x i; label = label i; covered = lives i }
  where
    and_with : (b : Bool) → b ≡ (b && true)
    and_with true = refl
    and_with false = refl

-- one token further down, by the longer path
pub class-below : (es : List LocatedLine) (c : Case) (s : Standing) (p : Tokens) (x : Bytes) (q : Tokens) (h : Inherited) (w : Option LabelValue) →
    q ≡ p ++ x ∷ [] → h ≡ inherited_at es c s p → has_class es q ≡ true → w ≡ written_label es q → class_step c s h q w ≡ inherited_at es c s q
class-below es c s p x q h w is said here written =
    ap (λ k. class_step c s k q w) said ∙ ap (λ z. class_step c s (inherited_at es c s p) z w) is
    ∙ enter_class-at es c s p x w (ap (has_class es) (sym is) ∙ here) (ap (written_label es) (sym is) ∙ sym written)
    ∙ ap (inherited_at es c s) (sym is)

pub array-below : (es : List LocatedLine) (c : Case) (s : Standing) (p : Tokens) (x : Bytes) (q : Tokens) (h : Inherited) →
    q ≡ p ++ x ∷ [] → h ≡ inherited_at es c s p → has_class es q ≡ false → array_step c s h q ≡ inherited_at es c s q
array-below es c s p x q h is said none =
    ap (λ k. array_step c s k q) said ∙ ap (array_step c s (inherited_at es c s p)) is
    ∙ enter_array-at es c s p x (ap (has_class es) (sym is) ∙ none)
    ∙ ap (inherited_at es c s) (sym is)

pub any_same : {X : Type 0} (f g : X → Bool) → ((x : X) → f x ≡ g x) → (xs : List X) → list_any f xs ≡ list_any g xs
any_same f g same [] = refl
any_same f g same (x ∷ xs) = ap (λ b. b || list_any f xs) (same x) ∙ ap (λ b. g x || b) (any_same f g same xs)

pub covers-root : (es : List LocatedLine) (s : Standing) (y : Permission) → (holds_for s y && same_path y.path []) ≡ covers es s [] y
covers-root es s y = by_path y.path
  where
    by_path : (r : Tokens) → (holds_for s y && same_path r []) ≡ (holds_for s y && (is_prefix r [] && list_all (is_unmarked_below es r) (prefixes [])))
    by_path [] = ap (λ b. holds_for s y && b) (sym (and_from (is_unmarked_below es [] []) true (not_from_false (nat_lt 0 0 && is_some (written_label es [])) (and_left (nat_lt 0 0) (is_some (written_label es [])) refl)) refl))
    by_path (x ∷ r) = refl

-- the record at the root, which is no class
pub at_root-is : (es : List LocatedLine) (c : Case) (s : Standing) → has_class es [] ≡ false → at_root c s ≡ inherited_at es c s []
at_root-is es c s none =
    let own : own_label es [] ≡ Some private = ap (λ o. option_or o (Some private)) (written_label-none es [] none) in
    let label : private ≡ label_at es [] = sym (
    ap (λ o. unwrap_or (own_label es (unwrap_or (if is_some o then Some [] else None) [])) private) own
    ∙ ap (λ o. unwrap_or o private) own) in
    let refused : first_of (refusals_at c s []) ≡ refusal_at c s [] = ap first_of (sym (append-nil (refusals_at c s []))) in
    let lives : is_granted c s [] ≡ is_covered es c s [] =
    any_same (λ y. holds_for s y && same_path y.path []) (covers es s []) (covers-root es s) c.permissions in
    λ i. record { approach = record { path = []; refusal = refused i }; label = label i; covered = lives i }
