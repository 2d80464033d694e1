-- A member of an object, and those behind it.
use Rattle.std.proofs.Common.{◌≡◌, ℕ, ◌+◌, ◌<◌, List, ◌∷◌, length, get_or, drop, Bor, true, false, Option, None, option_map, sym, ◌∙◌, ap, is_some, bytes_eq}
use Rattle.{std.{proofs.{Common.arith, lemmas.{Grind.common_steps, List.at_drop_more}}, specs.Option.option_map_or}, json_pointer.specs.Text.{Bytes, Tokens}}
use Rattle.{json_pointer.specs.declared.text.Text.Text, iodef_tree.{proofs.ByPath.{class_at-here, class_at-other}, specs.Tree.{Body, member_front}}}
use Rattle.iodef_tree.specs.{View.{body, bodies, members_forest}, declared.object.{Item.Item, Member.Member}, inner.Lookup.{class_at, object_in, part_at}}

pub members-next : (ms : List (Text × Member)) (i : ℕ) (m : Text × Member) → i < length ms → m ≡ get_or ms i m →
    members_forest (drop i ms) ≡ member_front m.0 (bodies m.1) (members_forest (drop (i + 1) ms))
members-next ms i m h is = at_drop_more members_forest ms i m h ∙ ap (λ (y : Text × Member). members_forest (y ∷ drop (i + 1) ms)) (sym is)

pub found-here : (ms : List (Text × Member)) (i : ℕ) (m : Text × Member) (x : Bytes) (p : Tokens) (r : Option (Bor Item × Bor (List Text))) → i < length ms → m ≡ get_or ms i m → bytes_eq m.0 x ≡ true →
    is_some r ≡ true → option_map (λ (y : Bor Item × Bor (List Text)). let z : Body × Tokens = (body y.0.now, y.1.now) in z) r ≡ part_at (bodies m.1) p →
    option_map_or (λ (y : Bor Item × Bor (List Text)). object_in (body y.0.now) y.1.now) r None ≡ class_at (members_forest (drop i ms)) (x ∷ p)
found-here ms i m x p r h is named some part = grind (arith, common_steps, class_at-here, members-next)

pub not-here : (ms : List (Text × Member)) (i : ℕ) (m : Text × Member) (x : Bytes) (p : Tokens) (r : Option (Bor Item × Bor (List Text))) → i < length ms → m ≡ get_or ms i m → bytes_eq m.0 x ≡ true →
    is_some r ≡ false → option_map (λ (y : Bor Item × Bor (List Text)). let z : Body × Tokens = (body y.0.now, y.1.now) in z) r ≡ part_at (bodies m.1) p →
    class_at (members_forest (drop (i + 1) ms)) (x ∷ p) ≡ class_at (members_forest (drop i ms)) (x ∷ p)
not-here ms i m x p r h is named none part = grind (arith, common_steps, class_at-here, members-next)

pub other-here : (ms : List (Text × Member)) (i : ℕ) (m : Text × Member) (x : Bytes) (p : Tokens) → i < length ms → m ≡ get_or ms i m → bytes_eq m.0 x ≡ false →
    class_at (members_forest (drop (i + 1) ms)) (x ∷ p) ≡ class_at (members_forest (drop i ms)) (x ∷ p)
other-here ms i m x p h is named = grind (arith, class_at-other, members-next)
