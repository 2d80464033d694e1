-- The lines of documents as rows of one table: those that are put and taken with an incident, and the documents of the
-- rows.
use Rattle.std.proofs.Common.{◌≡◌, ◌<◌, ◌==◌, ℕ, zero, suc, pos, negsuc, List, [], ◌∷◌, ◌++◌, map, filter, flat_map, Bool, true, false, cond, Option, Some}
use Rattle.std.proofs.{Common.{None, nat_cmp, refl, sym, ap, ap₂, subst, ◌∙◌, arith, append-nil}, lemmas.List.{map-append, Elements.filter-append}}
use Rattle.std.proofs.lemmas.List.Sorted.{IsPermutation-map, IsPermutation-cons, IsPermutation-trans, IsPermutation-refl, IsPermutation-sym}
use Rattle.std.{proofs.lemmas.List.Sorted.{IsPermutation-middle, IsPermutation-append_right}, specs.List.{AllByRecursion, Sorted.IsPermutation}}
use Rattle.{std.specs.{Option.option_to_list, declared.cmp.Ordering.TheVariants.Less}, sqlite_value.{proofs.OrderLemmas.value_cmp-Int, specs.Order.Row}}
use Rattle.{sqlite_value.specs.declared.{keys.Key.Key, value.Value.TheVariants.Int}, sqlite_trees.{proofs.ListLemmas.along_permutation, specs.Tree.Trees}}
use Rattle.{sqlite_trees.specs.Tree.IsAscending, sqlite_sql.specs.{Query.{Query, IsAnswer, Output}, Term.{Term, lit, col, eval_all}}}
use Rattle.{iodef_tree.specs.declared.line.Kind.Kind, hub_state.specs.{Documents.Lines, Sound.IsSound, State.{incident_number, incident_of}}}
use Rattle.{hub_state.specs.declared.state.Incident.Incident, hub_store.proofs.LookUps.Finding.{seen_through, of_elements, only_one, once_numbered}}
use Rattle.hub_store.proofs.{LookUps.Listed.{in_its_order, int_below, outs, past_outs}, Rows.{Compare.{begins, equal_numbers, and-true, past}, Forms.one_table}}
use Rattle.hub_store.proofs.Rows.{Forms.{is_param, by_column, ordered_by}, Found.filter_all, Places.{item_place, item_tree, held_of}, Rising.less}
use Rattle.hub_store.{proofs.Rows.Statements.{keeps, shows}, specs.{Holdings.holding_without_rowids, Items.{Item, items_from, items_in, items_of, item_row}}}
use Rattle.hub_store.specs.{Items.{line_shown, kind_number, placed_shown, placed_from}, Means.Means}
use Rattle.iodef_tree.specs.declared.line.Kind.TheVariants as kind
use Rattle.hub_state.specs.State as core

-- ---- lines are put with an incident

pub past_both : {X : Type 0} (xs ys zs : List X) → IsPermutation (xs ++ (ys ++ zs)) (ys ++ (xs ++ zs))
past_both [] ys zs = IsPermutation-refl _
past_both (x ∷ xs) ys zs = IsPermutation-trans _ _ _ (IsPermutation-cons x _ _ (past_both xs ys zs)) (IsPermutation-sym _ _ (IsPermutation-middle ys x (xs ++ zs)))

-- what is made of each element is in the same order
pub flat_same : {X Y : Type 0} (f : X → List Y) (xs ys : List X) → IsPermutation xs ys → IsPermutation (flat_map f xs) (flat_map f ys)
flat_same f xs ys same = along_permutation (λ xs ys. IsPermutation (flat_map f xs) (flat_map f ys)) (λ xs. IsPermutation-refl _) (λ z xs ys more. IsPermutation-append_right (f z) _ _ more)
    (λ a b xs. past_both (f a) (f b) (flat_map f xs)) (λ xs ys zs one two. IsPermutation-trans _ _ _ one two) xs ys same

pub items_put : (i : Incident) (is more : List Incident) → IsPermutation (i ∷ is) more → IsPermutation (map item_row (items_from i.naming.number 1 i.document) ++ map item_row (items_in is)) (map item_row (items_in more))
items_put i is more same =
    subst (λ l. IsPermutation l (map item_row (items_in more))) (map-append item_row (items_from i.naming.number 1 i.document) (items_in is))
    (IsPermutation-map item_row _ _ (flat_same (λ (i : Incident). items_from i.naming.number 1 i.document) (i ∷ is) more same))

-- ---- lines are taken with an incident

-- the lines of an incident all pass a test of its number, or none does
of_incident : (p : ℕ → Bool) (n place : ℕ) (ls : Lines) → filter (λ (x : Item). p x.incident) (items_from n place ls) ≡ cond (p n) (items_from n place ls) []
of_incident p n place [] = either (p n)
  where
    either : (b : Bool) → ◌≡◌ {A = List Item} [] (cond b [] [])
    either true = refl
    either false = refl
of_incident p n place (l ∷ ls) = go (p n) (filter (λ (x : Item). p x.incident) (items_from n (suc place) ls)) (of_incident p n (suc place) ls)
  where
    go : (b : Bool) (more : List Item) → more ≡ cond b (items_from n (suc place) ls) [] → cond b (record { incident = n; place = place; line = l } ∷ more) more ≡ cond b (record { incident = n; place = place; line = l } ∷ items_from n (suc place) ls) []
    go true more is = ap (λ rest. record { incident = n; place = place; line = l } ∷ rest) is
    go false more is = is

-- of all lines, those whose incident passes are the lines of the incidents that pass
pub items_passing : (p : ℕ → Bool) (is : List Incident) → filter (λ (x : Item). p x.incident) (items_in is) ≡ items_in (filter (λ (i : Incident). p i.naming.number) is)
items_passing p [] = refl
items_passing p (i ∷ is) =
    let own = items_from i.naming.number 1 i.document in
    filter-append (λ (x : Item). p x.incident) own (items_in is) ∙ go (p i.naming.number) (of_incident p i.naming.number 1 i.document) (items_passing p is)
  where
    go : (b : Bool) → filter (λ (x : Item). p x.incident) (items_from i.naming.number 1 i.document) ≡ cond b (items_from i.naming.number 1 i.document) [] → filter (λ (x : Item). p x.incident) (items_in is) ≡ items_in (filter (λ (j : Incident). p j.naming.number) is)
        → filter (λ (x : Item). p x.incident) (items_from i.naming.number 1 i.document) ++ filter (λ (x : Item). p x.incident) (items_in is) ≡ items_in (cond b (i ∷ filter (λ (j : Incident). p j.naming.number) is) (filter (λ (j : Incident). p j.naming.number) is))
    go true e f = ap₂ (λ a b. a ++ b) e f
    go false e f = ap₂ (λ a b. a ++ b) e f

-- ---- the lines of one incident, as the query lists them

-- the lines of an incident that may be there
abbrev pub its_items : Option Incident → List Item
its_items None = []
its_items (Some i) = items_from i.naming.number 1 i.document

abbrev pub its_lines : Option Incident → Lines
its_lines None = []
its_lines (Some i) = i.document

items_once : (o : Option Incident) → items_in (option_to_list o) ≡ its_items o
items_once None = refl
items_once (Some i) = append-nil (items_from i.naming.number 1 i.document)

-- of all lines, those of an incident
pub items_at : (s : core.State) (n : ℕ) → IsSound s → filter (λ (x : Item). x.incident == n) (items_of s) ≡ its_items (incident_of n s)
items_at s n sound =
    items_passing (λ m. m == n) s.incidents ∙ ap items_in (only_one (λ (i : Incident). i.naming.number == n) s.incidents (once_numbered incident_number n s.incidents sound.incidents.numbered.0)) ∙ items_once (incident_of n s)

one_more : (m n : ℕ) → m < n → m < suc n
one_more m n h = omega (arith, h)

itself_less : (n : ℕ) → n < suc n
itself_less n = omega arith

all_above : (m n place : ℕ) (ls : Lines) → m < place → AllByRecursion (λ (x : Item). nat_cmp m x.place ≡ Less) (items_from n place ls)
all_above m n place [] h = tt
all_above m n place (l ∷ ls) h = (less m place h, all_above m n (suc place) ls (one_more m place h))

-- the places of a document's lines rise
places_rise : (n place : ℕ) (ls : Lines) → IsAscending (λ (a b : Item). nat_cmp a.place b.place ≡ Less) (items_from n place ls)
places_rise n place [] = tt
places_rise n place (l ∷ ls) = (all_above place n (suc place) ls (itself_less place), places_rise n (suc place) ls)

pub its_places_rise : (o : Option Incident) → IsAscending (λ (a b : Item). nat_cmp a.place b.place ≡ Less) (its_items o)
its_places_rise None = tt
its_places_rise (Some i) = places_rise i.naming.number 1 i.document

-- an item without its incident
abbrev item_shown : Item → Row
item_shown x = Int (pos x.place) ∷ line_shown x.line

shown_lines : (n place : ℕ) (ls : Lines) → map item_shown (items_from n place ls) ≡ map placed_shown (placed_from place ls)
shown_lines n place [] = refl
shown_lines n place (l ∷ ls) = ap (λ rest. (Int (pos place) ∷ line_shown l) ∷ rest) (shown_lines n (suc place) ls)

its_shown : (o : Option Incident) → map item_shown (its_items o) ≡ map placed_shown (placed_from 1 (its_lines o))
its_shown None = refl
its_shown (Some i) = shown_lines i.naming.number 1 i.document

abbrev pub lines_query : Query
lines_query = ordered_by (by_column 2 ∷ []) (one_table item_tree (is_param 1 0 ∷ []) (col 1 2 ∷ col 1 3 ∷ col 1 4 ∷ col 1 5 ∷ col 1 6 ∷ col 1 7 ∷ []))

abbrev line_out : Row → Output
line_out = outs (1 ∷ []) (1 ∷ 2 ∷ 3 ∷ 4 ∷ 5 ∷ 6 ∷ [])

pub lines_listed : (db : Trees) (s : core.State) (n : ℕ) (rows : List Row) → IsSound s → Means db s → IsAnswer lines_query db (Int (pos n) ∷ []) rows → rows ≡ map placed_shown (placed_from 1 (its_lines (incident_of n s)))
lines_listed db s n rows sound means a =
    let params = Int (pos n) ∷ [] in
    let terms = is_param 1 0 ∷ [] in
    let project = col 1 2 ∷ col 1 3 ∷ col 1 4 ∷ col 1 5 ∷ col 1 6 ∷ col 1 7 ∷ [] in
    let order = by_column 2 ∷ [] in
    let own = its_items (incident_of n s) in
    let is_its = λ (x : Item). x.incident == n in
    let out : Row → Output = λ r. (eval_all (map (λ (k : Term × Key). k.0) order) (params ∷ r ∷ []), shows project params r) in
    let as_own : filter is_its (items_of s) ≡ filter (λ (x : Item). true) own = items_at s n sound ∙ sym (filter_all own) in
    in_its_order db item_tree own (λ (x : Item). true) terms project order (lit (Int (negsuc 0))) params (λ (x : Item). line_out (item_row x)) rows (λ (a b : Item). nat_cmp a.place b.place ≡ Less) (its_places_rise (incident_of n s))
    (λ a b _ up _. rw (value_cmp-Int (pos a.place) (pos b.place), int_below a.place b.place up) refl)
    (λ all found. subst (λ l. IsPermutation (map (λ (x : Item). line_out (item_row x)) l) all) as_own
    (of_elements item_row (begins 0 params) line_out is_its (items_of s) all (λ x. and-true _ ∙ equal_numbers x.incident n)
    (seen_through db (holding_without_rowids item_tree (map item_row (items_of s))) (keeps terms params) out (begins 0 params) line_out all (past 0 (0 ∷ []) params)
    (past_outs (1 ∷ []) (1 ∷ 2 ∷ 3 ∷ 4 ∷ 5 ∷ 6 ∷ []) params) (held_of s item_place _ refl means) found)))
    a
    ∙ (ap (map item_shown) (filter_all own) ∙ its_shown (incident_of n s))

-- ---- rows show lines, and lines are those of their documents

kind_of : ℕ → Kind
kind_of zero = kind.Class
kind_of (suc zero) = kind.Text
kind_of (suc (suc n)) = kind.Value

kind_back : (k : Kind) → kind_of (kind_number k) ≡ k
unfolding kind_of
kind_back kind.Class = refl
kind_back kind.Text = refl
kind_back kind.Value = refl

pub one_kind : (a b : Kind) → kind_number a ≡ kind_number b → a ≡ b
one_kind a b e = sym (kind_back a) ∙ (ap kind_of e ∙ kind_back b)
