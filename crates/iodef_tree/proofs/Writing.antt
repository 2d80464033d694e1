-- The text of a tree, member by member.
use Rattle.std.proofs.Common.{◌≡◌, ℕ, suc, ◌+◌, ◌<◌, Bool, true, false, List, [], ◌∷◌, ◌++◌, length, drop, get_or, refl, ap, append_assoc, if◌then◌else◌, Some}
use Rattle.{std.proofs.{Common.{None, arith}, lemmas.Grind.common_steps}, json.specs.Print.quoted, serde_json.specs.Written.comma_if}
use Rattle.{json_pointer.specs.{Text.Bytes, declared.text.Text.Text}, iodef_tree.{proofs.{Filled.has_elements, Members.members-next}, specs.Tree.Forest}}
use Rattle.iodef_tree.specs.{Tree.{Body, Bodies, one, many, in_front, elements, member_front}, View.{forest_of_members, bodies, members_forest}}
use Rattle.iodef_tree.specs.{declared.object.Member.Member, inner.Written.{goes_on, close_text, written, array_text, member_text}}

-- an array from its second element on
written-elements : (n : Bytes) (k : ℕ) (bs : List Body) (rest : Forest) → goes_on rest ≡ false →
    close_text (Some k) (elements n (suc k) bs rest) ++ written true (elements n (suc k) bs rest) ≡ array_text true bs ++ written true rest
written-elements n k [] rest fresh = ap (λ b. (if b then [] else 93 ∷ []) ++ written true rest) fresh
written-elements n k (b ∷ bs) rest fresh = grind (arith, append_assoc, (written-elements n (suc k) bs rest fresh))

pub named-front : (later : Bool) (n s t : Bytes) → (comma_if later ++ (quoted n ++ 58 ∷ s)) ++ t ≡ comma_if later ++ (quoted n ++ 58 ∷ (s ++ t))
named-front later n s t = grind (arith, append_assoc)

pub written-member : (later : Bool) (n : Bytes) (m : Bodies) (rest : Forest) → goes_on rest ≡ false → has_elements m ≡ true →
    written later (member_front n m rest) ≡ member_text later n m ++ written true rest
written-member later n m rest fresh filled = grind (arith, append_assoc, named-front, written-elements)

goes_on-one : (n : Bytes) (b : Body) (rest : Forest) → goes_on (in_front n None b rest) ≡ false
goes_on-one n b rest = grind arith

goes_on-first : (n : Bytes) (b : Body) (rest : Forest) → goes_on (in_front n (Some 0) b rest) ≡ false
goes_on-first n b rest = grind arith

-- no member begins in the midst of an array
pub goes_on-members : (ms : List (Bytes × Bodies)) → goes_on (forest_of_members ms) ≡ false
goes_on-members [] = refl
goes_on-members (m ∷ ms) = by_bodies m.1 (goes_on-members ms)
  where
    by_bodies : (bs : Bodies) → goes_on (forest_of_members ms) ≡ false → goes_on (member_front m.0 bs (forest_of_members ms)) ≡ false
    by_bodies (one b) h = goes_on-one m.0 b (forest_of_members ms)
    by_bodies (many []) h = h
    by_bodies (many (b ∷ bs)) h = goes_on-first m.0 b (elements m.0 1 bs (forest_of_members ms))

-- ---- members and elements, one after another

pub write-member : (out new R : Bytes) (later : Bool) (xs : List (Text × Member)) (i : ℕ) (m : Text × Member) → i < length xs → m ≡ get_or xs i m →
    has_elements (bodies m.1) ≡ true → new ≡ out ++ member_text later m.0 (bodies m.1) → out ++ written later (members_forest (drop i xs)) ≡ R →
    new ++ written true (members_forest (drop (i + 1) xs)) ≡ R
write-member out new R later xs i m h e filled made left = grind (arith, common_steps, append_assoc, goes_on-members, members-next, written-member)
