-- The fates of members and of classes in the pass: a class is shown, framed, or gone. The three fates are a lemma and
-- no data type: a data type would change the contracts of the pass and save no case.
use Rattle.{std.proofs.Common.{◌≡◌, ℕ, zero, suc, Some, Bool, true, false, not, refl, sym, subst, if◌then◌else◌, Option}, iodef_tree.specs.Text.Bytes}
use Rattle.{iodef_tree.specs.{Text.bytes_lt, Tree.{Leaf, Forest, end, leaf, branch}}, redact.specs.inner.Judged.{left_before, new_place, put_leaf}}

-- ---- one sibling

-- the place of an element is how many of its array are kept before it
pub new_place-before : (n k : ℕ) → new_place n (Some k) ≡ Some (left_before n (Some k))
new_place-before n zero = refl
new_place-before n (suc k) = refl

-- ---- one class

-- a property of each fate holds of the class
pub by_fate : {X : Type 0} (P : X → Type 0) (visible ended : Bool) (shown framed gone : X) → P shown → P framed → P gone →
    P (if visible then shown else (if ended then gone else framed))
by_fate P true ended shown framed gone s f g = s
by_fate P false true shown framed gone s f g = g
by_fate P false false shown framed gone s f g = f

-- the same of two things that the fate decides
pub by_fates : {X Y : Type 0} (P : X → Y → Type 0) (visible ended : Bool) (shown framed gone : X) (shown' framed' gone' : Y) →
    (visible ≡ true → P shown shown') → (visible ≡ false → P framed framed') → (visible ≡ false → ended ≡ true → P gone gone') →
    P (if visible then shown else (if ended then gone else framed)) (if visible then shown' else (if ended then gone' else framed'))
by_fates P true ended shown framed gone shown' framed' gone' s f g = s refl
by_fates P false true shown framed gone shown' framed' gone' s f g = g refl refl
by_fates P false false shown framed gone shown' framed' gone' s f g = f refl

-- A property of each fate holds by what is decided of the class: whether it is visible, and whether it holds a visible
-- one. For this, a class that isn't visible is gone exactly if no visible class is below it.
pub by_verdict : (P : Bool → Bool → Bool → Type 0) (visible holds ended : Bool) → (visible ≡ false → ended ≡ not holds) → ((h e : Bool) → P true h e) → P false true false → P false false true →
    P visible holds ended
by_verdict P true holds ended says shown framed gone = shown holds ended
by_verdict P false true ended says shown framed gone = subst (P false true) (sym (says refl)) framed
by_verdict P false false ended says shown framed gone = subst (P false false) (sym (says refl)) gone

-- ---- all members

-- A relation between members and the same with an attribute put in. It holds if the attribute in front of members
-- brings it, and if more members in front keep it.
pub put-keeps : (P : Forest → Forest → Type 0) (x : Leaf) → ((f : Forest) → P f (leaf x f)) → ((i : Leaf) (f g : Forest) → P f g → P (leaf i f) (leaf i g)) →
    ((name : Bytes) (place : Option ℕ) (kids f g : Forest) → P f g → P (branch name place kids f) (branch name place kids g)) → (f : Forest) → P f (put_leaf x f)
put-keeps P x first behind_leaf behind_class end = first end
put-keeps P x first behind_leaf behind_class (leaf i rest) =
    elim (bytes_lt x.name i.name) as (λ b. P (leaf i rest) (if b then leaf x (leaf i rest) else leaf i (put_leaf x rest))) [
      | true ↦ first (leaf i rest)
      | false ↦ behind_leaf i rest (put_leaf x rest) (put-keeps P x first behind_leaf behind_class rest)
    ]
put-keeps P x first behind_leaf behind_class (branch name place kids rest) =
    elim (bytes_lt x.name name) as (λ b. P (branch name place kids rest) (if b then leaf x (branch name place kids rest) else branch name place kids (put_leaf x rest))) [
      | true ↦ first (branch name place kids rest)
      | false ↦ behind_class name place kids rest (put_leaf x rest) (put-keeps P x first behind_leaf behind_class rest)
    ]
