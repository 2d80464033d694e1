-- The values of `serde_json` as the lists that the loops go over.
use Rattle.std.proofs.Common.{◌≡◌, ◌==◌, List, [], ◌∷◌, ◌++◌, length, map, true, false, String, Global, string_bytes, refl, sym, ap, ◌∙◌, subst, append-nil}
use Rattle.{std.proofs.Common.true≢false, serde_json.specs.{Data.array, View.{view, items_view, members_view}, declared.value.Value.Value}}
use Rattle.{json_pointer.specs.Text.Bytes, iodef_tree.specs.{Filled.has_some, Tree.{Body, Bodies, many}, Values.{forest_of_data, bodies_of_data}}}
use Rattle.iodef_tree.specs.{Values.items_of_data, View.{body, forest_of_members}, declared.object.Item.Item}

abbrev pub MapEntry : Type 0
MapEntry = String Global × Value

abbrev pub given_members : List MapEntry → List (Bytes × Bodies)
given_members es = map (λ e. (string_bytes e.0, bodies_of_data (view e.1))) es

members-given : (es : List MapEntry) → forest_of_data (members_view es) ≡ forest_of_members (given_members es)
members-given [] = refl
members-given (e ∷ es) = rw (members-given es)

pub all_given : (made : List (Bytes × Bodies)) (es rest : List MapEntry) → rest ≡ [] → made ++ given_members rest ≡ given_members es → made ≡ given_members es
all_given made es rest none e = sym (append-nil made) ∙ subst (λ ws. made ++ given_members ws ≡ given_members es) none e

pub members_done : (made : List (Bytes × Bodies)) (es rest : List MapEntry) → rest ≡ [] → made ++ given_members rest ≡ given_members es → forest_of_members made ≡ forest_of_data (members_view es)
members_done made es rest none e = ap forest_of_members (all_given made es rest none e) ∙ sym (members-given es)

pub many_done : (vs : List Value) (bs : List Body) → bs ≡ items_of_data (items_view vs) → (length vs == 0) ≡ false → many bs ≡ bodies_of_data (array (items_view vs))
many_done [] bs e n = absurd (true≢false n)
many_done (v ∷ vs) bs e n = ap many e

pub some_given : (vs : List Value) (is : List Item) → map body is ≡ items_of_data (items_view vs) → (length vs == 0) ≡ false → has_some is ≡ true
some_given [] is e n = absurd (true≢false n)
some_given (v ∷ vs) [] e n = cc
some_given (v ∷ vs) (i ∷ is) e n = refl
