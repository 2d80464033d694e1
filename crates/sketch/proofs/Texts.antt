-- The texts that classes hold, member by member.
use Rattle.std.proofs.Common.{◌≡◌, ℕ, suc, ◌+◌, ◌<◌, List, [], ◌∷◌, ◌++◌, map, length, get_or, drop, refl, sym, ◌∙◌, ap, append_assoc, Option, Some, None}
use Rattle.{std.{proofs.lemmas.List.map-append, specs.List.flat_map}, iodef_tree.{proofs.Members.members-next, specs.{Text.Bytes, Tree.{Forest, Body, holds}}}}
use Rattle.iodef_tree.specs.{Tree.{says, Bodies, one, many, in_front, elements, member_front}, View.{bodies, members_forest}, declared.Text.Text}
use Rattle.{iodef_tree.specs.declared.object.Member.Member, marking.specs.declared.label.Handling.Handling, sketch.specs.Holdings.{HeldText, held_in}}
use Rattle.sketch.specs.inner.Held.{body_texts, bodies_texts, texts_in, front, behind, left_below, holdings_below, body_left, body_holdings, many_left}
use Rattle.sketch.specs.inner.Held.{many_holdings, bodies_left, bodies_holdings}

-- ---- the texts directly in a class

texts-front : (n : Bytes) (o : Option ℕ) (b : Body) (rest : Forest) → texts_in (in_front n o b rest) ≡ body_texts b ++ texts_in rest
texts-front n o (holds kids) rest = refl
texts-front n o (says content) rest = refl

texts-elements : (n : Bytes) (k : ℕ) (bs : List Body) (rest : Forest) → texts_in (elements n k bs rest) ≡ flat_map body_texts bs ++ texts_in rest
texts-elements n k [] rest = refl
texts-elements n k (b ∷ bs) rest =
    texts-front n (Some k) b (elements n (suc k) bs rest) ∙ ap (λ ts. body_texts b ++ ts) (texts-elements n (suc k) bs rest) ∙ sym (append_assoc (body_texts b) (flat_map body_texts bs) (texts_in rest))

texts-member : (n : Bytes) (m : Bodies) (rest : Forest) → texts_in (member_front n m rest) ≡ bodies_texts m ++ texts_in rest
texts-member n (one b) rest = texts-front n None b rest
texts-member n (many bs) rest = texts-elements n 0 bs rest

-- one more member of a class
pub texts_next : (name : Bytes) (handling : Option Handling) (ms : List (Text × Member)) (i : ℕ) (m : Text × Member) (before : List HeldText) {made whole : List HeldText} → i < length ms → m ≡ get_or ms i m →
    made ≡ before ++ map (held_in name handling) (bodies_texts (bodies m.1)) → before ++ map (held_in name handling) (texts_in (members_forest (drop i ms))) ≡ whole →
    made ++ map (held_in name handling) (texts_in (members_forest (drop (i + 1) ms))) ≡ whole
texts_next name handling ms i m before {made} h is pushed all =
    let here = bodies_texts (bodies m.1) in
    let behind = texts_in (members_forest (drop (i + 1) ms)) in
    ap (λ xs. xs ++ map (held_in name handling) behind) pushed
    ∙ append_assoc before (map (held_in name handling) here) (map (held_in name handling) behind)
    ∙ ap (λ xs. before ++ xs) (sym (map-append (held_in name handling) here behind) ∙ ap (map (held_in name handling)) (sym (ap texts_in (members-next ms i m h is) ∙ texts-member m.0 (bodies m.1) (members_forest (drop (i + 1) ms)))))
    ∙ all

-- ---- in all classes

left-front : (hs : List (Option Handling)) (n : Bytes) (o : Option ℕ) (b : Body) (rest : Forest) → left_below hs (in_front n o b rest) ≡ left_below (body_left hs b) rest
left-front hs n o (holds kids) rest = refl
left-front hs n o (says content) rest = refl

below-front : (hs : List (Option Handling)) (n : Bytes) (o : Option ℕ) (b : Body) (rest : Forest) → holdings_below hs (in_front n o b rest) ≡ body_holdings hs n b ++ holdings_below (body_left hs b) rest
below-front hs n o (holds kids) rest =
    sym (append_assoc (map (held_in n (front hs)) (texts_in kids)) (holdings_below (behind hs) kids) (holdings_below (left_below (behind hs) kids) rest))
below-front hs n o (says content) rest = refl

left-elements : (hs : List (Option Handling)) (n : Bytes) (k : ℕ) (bs : List Body) (rest : Forest) → left_below hs (elements n k bs rest) ≡ left_below (many_left hs bs) rest
left-elements hs n k [] rest = refl
left-elements hs n k (b ∷ bs) rest = left-front hs n (Some k) b (elements n (suc k) bs rest) ∙ left-elements (body_left hs b) n (suc k) bs rest

below-elements : (hs : List (Option Handling)) (n : Bytes) (k : ℕ) (bs : List Body) (rest : Forest) → holdings_below hs (elements n k bs rest) ≡ many_holdings hs n bs ++ holdings_below (many_left hs bs) rest
below-elements hs n k [] rest = refl
below-elements hs n k (b ∷ bs) rest =
    let later = body_left hs b in
    below-front hs n (Some k) b (elements n (suc k) bs rest) ∙ ap (λ ts. body_holdings hs n b ++ ts) (below-elements later n (suc k) bs rest)
    ∙ sym (append_assoc (body_holdings hs n b) (many_holdings later n bs) (holdings_below (many_left later bs) rest))

left-member : (hs : List (Option Handling)) (n : Bytes) (m : Bodies) (rest : Forest) → left_below hs (member_front n m rest) ≡ left_below (bodies_left hs m) rest
left-member hs n (one b) rest = left-front hs n None b rest
left-member hs n (many bs) rest = left-elements hs n 0 bs rest

below-member : (hs : List (Option Handling)) (n : Bytes) (m : Bodies) (rest : Forest) → holdings_below hs (member_front n m rest) ≡ bodies_holdings hs n m ++ holdings_below (bodies_left hs m) rest
below-member hs n (one b) rest = below-front hs n None b rest
below-member hs n (many bs) rest = below-elements hs n 0 bs rest

-- the handlings that one more member leaves
pub left_next : (ms : List (Text × Member)) (i : ℕ) (m : Text × Member) (hs : List (Option Handling)) {left whole : List (Option Handling)} → i < length ms → m ≡ get_or ms i m →
    left ≡ bodies_left hs (bodies m.1) → left_below hs (members_forest (drop i ms)) ≡ whole → left_below left (members_forest (drop (i + 1) ms)) ≡ whole
left_next ms i m hs h is left_is all =
    let behind = members_forest (drop (i + 1) ms) in
    ap (λ l. left_below l behind) left_is ∙ sym (ap (left_below hs) (members-next ms i m h is) ∙ left-member hs m.0 (bodies m.1) behind) ∙ all

-- one more member
pub below_next : (ms : List (Text × Member)) (i : ℕ) (m : Text × Member) (hs : List (Option Handling)) (before : List HeldText) {name : Bytes} {left : List (Option Handling)} {made whole : List HeldText} →
    i < length ms → m ≡ get_or ms i m → name ≡ m.0 → left ≡ bodies_left hs (bodies m.1) → made ≡ before ++ bodies_holdings hs name (bodies m.1) →
    before ++ holdings_below hs (members_forest (drop i ms)) ≡ whole → made ++ holdings_below left (members_forest (drop (i + 1) ms)) ≡ whole
below_next ms i m hs before {name} {left} {made} h is named left_is pushed all =
    let behind = members_forest (drop (i + 1) ms) in
    let later = bodies_left hs (bodies m.1) in
    ap (λ l. made ++ holdings_below l behind) left_is
    ∙ ap (λ xs. xs ++ holdings_below later behind) (pushed ∙ ap (λ n. before ++ bodies_holdings hs n (bodies m.1)) named)
    ∙ append_assoc before (bodies_holdings hs m.0 (bodies m.1)) (holdings_below later behind)
    ∙ ap (λ xs. before ++ xs) (sym (ap (holdings_below hs) (members-next ms i m h is) ∙ below-member hs m.0 (bodies m.1) behind))
    ∙ all
