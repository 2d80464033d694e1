-- The results of a pass over the members of a class, one member after another.
use Rattle.std.proofs.{Common.{◌≡◌, ℕ, suc, List, [], ◌∷◌, ◌++◌, true, false, cond, refl, sym, ◌∙◌, ap, append-nil, append_assoc}, lemmas.Bool.true≢false}
use Rattle.std.{proofs.lemmas.List.Concat.flat_map-append, specs.{List.flat_map, Option.option_or, Prelude.{Option, Some, None, option_map}, Str.bytes_eq}}
use Rattle.iodef_tree.{proofs.Filled.has_elements, specs.{Text.{Bytes, Tokens}, Tree.{Forest, end, Body, holds, says, Bodies, one, many, text, value}}}
use Rattle.{iodef_tree.specs.Tree.{in_front, elements, member_front, steps}, marking.specs.{Marks.{other, Marked}, Members.{held_by_bodies, held_in}}}
use Rattle.marking.specs.inner.Pass.{bad_below, bad_in_body, enter, marked_below}

-- ---- what a class holds under a name

plain_front : (n name : Bytes) (b : Body) (rest : Forest) → held_in name (in_front n None b rest) ≡ cond (bytes_eq n name) (held_by_bodies (one b)) (held_in name rest)
plain_front n name (holds kids) rest = refl
plain_front n name (says (text s)) rest = refl
plain_front n name (says (value s)) rest = refl

element_front : (n name : Bytes) (k : ℕ) (b : Body) (rest : Forest) → held_in name (in_front n (Some k) b rest) ≡ cond (bytes_eq n name) other (held_in name rest)
element_front n name k (holds kids) rest = refl
element_front n name k (says (text s)) rest = refl
element_front n name k (says (value s)) rest = refl

elements-skip : (n name : Bytes) (k : ℕ) (bs : List Body) (rest : Forest) → bytes_eq n name ≡ false → held_in name (elements n k bs rest) ≡ held_in name rest
elements-skip n name k [] rest h = refl
elements-skip n name k (b ∷ bs) rest h =
    element_front n name k b (elements n (suc k) bs rest)
    ∙ ap (λ t. cond t other (held_in name (elements n (suc k) bs rest))) h
    ∙ elements-skip n name (suc k) bs rest h

pub held-skip : (n name : Bytes) (m : Bodies) (rest : Forest) → bytes_eq n name ≡ false → held_in name (member_front n m rest) ≡ held_in name rest
held-skip n name (one b) rest h = plain_front n name b rest ∙ ap (λ t. cond t (held_by_bodies (one b)) (held_in name rest)) h
held-skip n name (many bs) rest h = elements-skip n name 0 bs rest h

pub held-here : (n name : Bytes) (m : Bodies) (rest : Forest) → has_elements m ≡ true → bytes_eq n name ≡ true → held_in name (member_front n m rest) ≡ held_by_bodies m
held-here n name (one b) rest some h = plain_front n name b rest ∙ ap (λ t. cond t (held_by_bodies (one b)) (held_in name rest)) h
held-here n name (many []) rest some h = absurd (true≢false (sym some))
held-here n name (many (b ∷ bs)) rest some h =
    element_front n name 0 b (elements n 1 bs rest) ∙ ap (λ t. cond t other (held_in name (elements n 1 bs rest))) h

-- ---- the first class that breaks the marking rule

or-none : {X : Type 0} (a : Option X) → option_or a None ≡ a
or-none None = refl
or-none (Some x) = refl

or-assoc : {X : Type 0} (a b c : Option X) → option_or (option_or a b) c ≡ option_or a (option_or b c)
or-assoc None b c = refl
or-assoc (Some x) b c = refl

pub bad-one : (n : Bytes) (o : Option ℕ) (b : Body) (rest : Forest) →
    bad_below (in_front n o b rest) ≡ option_or (option_map (λ t. steps n o ++ t) (bad_in_body b)) (bad_below rest)
bad-one n o (holds kids) rest = refl
bad-one n o (says content) rest = refl

-- one member, or one element, and then those behind it
pub bad-front : (n : Bytes) (o : Option ℕ) (b : Body) (rest : Forest) → bad_below (in_front n o b rest) ≡ option_or (bad_below (in_front n o b end)) (bad_below rest)
bad-front n o b rest =
    let here = option_map (λ t. steps n o ++ t) (bad_in_body b) in
    bad-one n o b rest ∙ ap (λ q. option_or q (bad_below rest)) (sym (or-none here) ∙ sym (bad-one n o b end))

bad-elements : (n : Bytes) (k : ℕ) (bs : List Body) (rest : Forest) → bad_below (elements n k bs rest) ≡ option_or (bad_below (elements n k bs end)) (bad_below rest)
bad-elements n k [] rest = refl
bad-elements n k (b ∷ bs) rest =
    let here = bad_below (in_front n (Some k) b end) in
    bad-front n (Some k) b (elements n (suc k) bs rest)
    ∙ ap (option_or here) (bad-elements n (suc k) bs rest)
    ∙ sym (or-assoc here (bad_below (elements n (suc k) bs end)) (bad_below rest))
    ∙ ap (λ o. option_or o (bad_below rest)) (sym (bad-front n (Some k) b (elements n (suc k) bs end)))

pub bad-member : (n : Bytes) (m : Bodies) (rest : Forest) → bad_below (member_front n m rest) ≡ option_or (bad_below (member_front n m end)) (bad_below rest)
bad-member n (one b) rest = bad-front n None b rest
bad-member n (many bs) rest = bad-elements n 0 bs rest

pub bad-none : (n : Bytes) (m : Bodies) (rest : Forest) → None ≡ bad_below (member_front n m end) → bad_below (member_front n m rest) ≡ bad_below rest
bad-none n m rest h = bad-member n m rest ∙ ap (λ o. option_or o (bad_below rest)) (sym h)

pub bad-some : (n : Bytes) (m : Bodies) (rest : Forest) (t : Tokens) → Some t ≡ bad_below (member_front n m end) → bad_below (member_front n m rest) ≡ Some t
bad-some n m rest t h = bad-member n m rest ∙ ap (λ o. option_or o (bad_below rest)) (sym h)

-- ---- how classes are marked

pub marked-one : (a : Marked) (n : Bytes) (o : Option ℕ) (b : Body) (rest : Forest) → marked_below a (in_front n o b rest) ≡ marked_below a (in_front n o b end) ++ marked_below a rest
marked-one a n o (holds kids) rest =
    let here = enter a n o kids in
    ap (λ ts. here ∷ (ts ++ marked_below a rest)) (sym (append-nil (marked_below here kids)))
marked-one a n o (says content) rest = refl

marked-elements : (a : Marked) (n : Bytes) (k : ℕ) (bs : List Body) (rest : Forest) → marked_below a (elements n k bs rest) ≡ marked_below a (elements n k bs end) ++ marked_below a rest
marked-elements a n k [] rest = refl
marked-elements a n k (b ∷ bs) rest =
    let here = marked_below a (in_front n (Some k) b end) in
    let more = elements n (suc k) bs in
    marked-one a n (Some k) b (more rest)
    ∙ ap (λ ts. here ++ ts) (marked-elements a n (suc k) bs rest)
    ∙ sym (append_assoc here (marked_below a (more end)) (marked_below a rest))
    ∙ ap (λ ts. ts ++ marked_below a rest) (sym (marked-one a n (Some k) b (more end)))

pub marked-member : (a : Marked) (n : Bytes) (m : Bodies) (rest : Forest) → marked_below a (member_front n m rest) ≡ marked_below a (member_front n m end) ++ marked_below a rest
marked-member a n (one b) rest = marked-one a n None b rest
marked-member a n (many bs) rest = marked-elements a n 0 bs rest

-- how classes are marked, as the texts that are written of them
pub written-member : (line : Marked → Bytes) (a : Marked) (n : Bytes) (m : Bodies) (rest : Forest) →
    flat_map line (marked_below a (member_front n m rest)) ≡ flat_map line (marked_below a (member_front n m end)) ++ flat_map line (marked_below a rest)
written-member line a n m rest =
    ap (flat_map line) (marked-member a n m rest) ∙ flat_map-append line (marked_below a (member_front n m end)) (marked_below a rest)

pub ruleset bad_steps = (bad-one, bad-front, bad-member)

pub ruleset marked_steps = (marked-one, marked-member)
