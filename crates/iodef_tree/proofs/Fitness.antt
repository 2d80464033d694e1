-- What is known of a body in which nothing is refused.
use Rattle.std.proofs.{Common.{◌≡◌, ℕ, suc, List, [], ◌∷◌, ◌++◌, Bool, false, Option, None, Result, Ok, refl, sym, ◌∙◌, decimal, arith}, lemmas.Bool.or_from}
use Rattle.{std.proofs.lemmas.Bool.or_parts, serde_json.specs.{Data.Data, Written.{has_float, items_have_float, members_have_float}}}
use Rattle.{json_pointer.specs.Text.Bytes, iodef_tree.{proofs.Seeking.any_at-beneath, specs.{Reading.{unless, ◌>>=◌, all_fit}, Values.{Surrounded, Node}}}}
use Rattle.iodef_tree.specs.Values.{node, beneath, nodes, item_nodes, member_nodes, first_at, is_not_whole, is_nested_class, is_too_deep}
use Rattle.iodef_tree.specs.{declared.fault.ReadFault.{ReadFault, TheVariants.{NotWhole, NestedClass, TooDeep}}, inner.FitValues.{any_at, is_refused}}
use Rattle.serde_json.specs.Data as json

-- no value of the list is refused
abbrev pub AreClear : List Node → Type 0
AreClear ns = any_at is_refused ns ≡ false

-- no value is at a place where `all_fit` refuses it
abbrev pub IsPlain : Data → Type 0
IsPlain d = AreClear (nodes 0 0 d)

pub clear-apart : (t : Bytes) (a b : List Node) → AreClear (beneath t a ++ b) → AreClear a × AreClear b
clear-apart t a b h = or_parts (any_at is_refused a) (any_at is_refused b) (sym (any_at-beneath is_refused t a b) ∙ h)

pub clear-joined : (t : Bytes) (a b : List Node) → AreClear a → AreClear b → AreClear (beneath t a ++ b)
clear-joined t a b p q = any_at-beneath is_refused t a b ∙ or_from (any_at is_refused a) (any_at is_refused b) p q

-- a value that is not refused is found by none of the three tests
pub record IsAllowed (s : Surrounded) : Type 0 where
  pub whole : is_not_whole s ≡ false
  pub nested : is_nested_class s ≡ false
  pub shallow : is_too_deep s ≡ false

allowed : (s : Surrounded) → is_refused s ≡ false → IsAllowed s
allowed s h = grind (arith, or_parts)

pub head : (n : Node) (ns : List Node) → AreClear (n ∷ ns) → IsAllowed n.seen × AreClear ns
head n ns h = let parts = or_parts (is_refused n.seen) (any_at is_refused ns) h in (allowed n.seen parts.0, parts.1)

mutual
  pub whole : (d : Data) (o a : ℕ) → AreClear (nodes o a d) → has_float d ≡ false
  whole (json.number x) o a h = (head (node o a (json.number x)) [] h).0.whole
  whole (json.array ds) o a h = whole_items ds o (suc a) 0 (head (node o a (json.array ds)) (item_nodes o (suc a) 0 ds) h).1
  whole (json.object ms) o a h = whole_members ms (suc o) (head (node o a (json.object ms)) (member_nodes (suc o) ms) h).1
  whole _ o a h = refl

  whole_items : (ds : json.Items) (o a k : ℕ) → AreClear (item_nodes o a k ds) → items_have_float ds ≡ false
  whole_items json.no_items o a k h = refl
  whole_items (json.item d ds) o a k h =
      let parts = clear-apart (decimal k) (nodes o a d) (item_nodes o a (suc k) ds) h in
      or_from (has_float d) (items_have_float ds) (whole d o a parts.0) (whole_items ds o a (suc k) parts.1)

  whole_members : (ms : json.Members) (o : ℕ) → AreClear (member_nodes o ms) → members_have_float ms ≡ false
  whole_members json.no_members o h = refl
  whole_members (json.member name d ms) o h =
      let parts = clear-apart name (nodes o 0 d) (member_nodes o ms) h in
      or_from (has_float d) (members_have_float ms) (whole d o 0 parts.0) (whole_members ms o parts.1)

-- ---- as all values are asked

pub bind-ok : {A B : Type 0} (r : Result A ReadFault) (f : A → Result B ReadFault) (y : B) → (r >>= f) ≡ Ok y → (x : A) × (r ≡ Ok x) × (f x ≡ Ok y)
bind-ok r f y h = grind arith

pub none_if_ok : {A : Type 0} (f : A → ReadFault) (o : Option A) → unless f o ≡ Ok tt → o ≡ None
none_if_ok f o e = grind arith

not_first : (f : Surrounded → Bool) (n : Node) (ns : List Node) → first_at f (n ∷ ns) ≡ None → (f n.seen ≡ false) × (first_at f ns ≡ None)
not_first f n ns e = grind arith

-- if none of the three is found, nothing is refused
none-refused : (ns : List Node) → first_at is_not_whole ns ≡ None → first_at is_nested_class ns ≡ None → first_at is_too_deep ns ≡ None → AreClear ns
none-refused [] a b c = refl
none-refused (n ∷ ns) a b c =
    let whole = not_first is_not_whole n ns a in
    let nested = not_first is_nested_class n ns b in
    let shallow = not_first is_too_deep n ns c in
    or_from (is_refused n.seen) (any_at is_refused ns)
    (or_from (is_not_whole n.seen) _ whole.0 (or_from (is_nested_class n.seen) (is_too_deep n.seen) nested.0 shallow.0))
    (none-refused ns whole.1 nested.1 shallow.1)

pub plain_ok : (d : Data) → all_fit d ≡ Ok tt → IsPlain d
unfolding all_fit
plain_ok d e =
    let whole = bind-ok (unless NotWhole (first_at is_not_whole (nodes 0 0 d))) _ tt e in
    let nested = bind-ok (unless NestedClass (first_at is_nested_class (nodes 0 0 d))) _ tt whole.2 in
    none-refused (nodes 0 0 d) (none_if_ok NotWhole _ whole.1) (none_if_ok NestedClass _ nested.1) (none_if_ok (λ _. TooDeep) _ nested.2)

-- if nothing is refused, none of the three is found
none_found : (f : Surrounded → Bool) → ((s : Surrounded) → IsAllowed s → f s ≡ false) → (ns : List Node) → AreClear ns → first_at f ns ≡ None
none_found f h [] e = refl
none_found f h (n ∷ ns) e = let parts = head n ns e in let here : f n.seen ≡ false = h n.seen parts.0 in rw here (none_found f h ns parts.1)

pub plain_at_once : (d : Data) → IsPlain d → all_fit d ≡ Ok tt
unfolding all_fit
plain_at_once d h = rw (
  none_found is_not_whole (λ s a. a.whole) (nodes 0 0 d) h,
  none_found is_nested_class (λ s a. a.nested) (nodes 0 0 d) h,
  none_found is_too_deep (λ s a. a.shallow) (nodes 0 0 d) h,
)
