-- The text of a document with one Incident at most is read exactly if its outline is readable.
use Rattle.std.proofs.Common.{◌≡◌, ◌≤◌, ℕ, zero, suc, ◌+◌, cond, if◌then◌else◌, Bool, true, false, ◌&&◌, ◌==◌, List, [], ◌∷◌, ◌++◌, length, refl, sym, ap, ◌∙◌}
use Rattle.std.proofs.Common.{subst, arith, true≢false, Option, Some, None, is_some, is_none, option_and_then, Result, Ok, Err, is_ok, nat_lt, nat_le, bytes_eq}
use Rattle.std.proofs.{Common.{codes, Ordering, is_eq}, lemmas.Bool.{and_parts, and_from, and_left, cond-true, cond-false, cond_both, leb-true, le-leb}}
use Rattle.std.proofs.lemmas.{Bool.{ltb-false, le-ltb}, List.{Folds.list_all-append, Sums.{sum_by-append, sum_by-cons}}, Map.Text.is_eq-slice_cmp}
use Rattle.std.{proofs.lemmas.Option.cond_some, specs.{Cmp.Lexicographic.slice_cmp, List.list_all, Option.option_map_or, Ordering.{nat_cmp, match_ordering}}}
use Rattle.{std.specs.Str.is_utf8, serde_json.specs.{Data.Data, Events.items_len, Find.{get_member, as_array, as_object}, Read.read, Written.compact_text}}
use Rattle.iodef_tree.proofs.{Bodies.found_array, Fitness.{bind-ok, none_if_ok, plain_ok, plain_at_once, head}, Meaning.data-is, NoFloat.whole}
use Rattle.iodef_tree.{proofs.{Normal.read-compact, Order.{is_false, bytes_eq-true, bytes_eq-refl}, Shallow.low_members}, specs.Json.content_data}
use Rattle.iodef_tree.specs.Reading.{◌>>=◌, or_fault, unless, parsed, all_objects, are_incidents, if_incidents, incidents_of, lacking, all_complete, all_fit}
use Rattle.iodef_tree.specs.{Reading.{incident_at, document_of, if_short, documents, reading}, Sound.{SiblingPlace, may_stand, IsOrderedBehind, IsSound}}
use Rattle.iodef_tree.specs.{Text.Bytes, Texts.HasTexts, Tree.{Content, Leaf, Forest, end, leaf, branch, leaf_line, class_line, lines, height}, Values.node}
use Rattle.iodef_tree.specs.{Values.{member_nodes, forest_of_data}, declared.TheConstants.{DEPTH_LIMIT, LINE_LIMIT, REPORT_INCIDENT_LIMIT}}
use Rattle.iodef_tree.specs.declared.{fault.ReadFault.{ReadFault, TheVariants.{NotJson, NotDocument, Missing, TooManyLines}}, line.Line.Line}
use Rattle.{iodef_tree.specs.inner.Written.{placed_member, placed_item, members_of, items_of}, redaction.proofs.MeantTrees.{ascend, same-name, put-same}}
use Rattle.redaction.proofs.{MeantTrees.{normal-object, low-tree, again, class-clear, clear-tree}, MeantValues.{MayBe, content-empty}}
use Rattle.redaction.specs.{Laws.IsReadExactly, Readable.{is_complete_incident, has_complete_incident, is_shallow, is_readable, outline_text, is_incident_line}}
use Rattle.redaction.specs.Readable.{incident_count}
use Rattle.serde_json.specs.Data as json

abbrev pub incident : Bytes
incident = codes "Incident"

-- ---- how many Incidents there are

pub count-cons : (l : Line) (ls : List Line) → incident_count (l ∷ ls) ≡ cond (is_incident_line l) 1 0 + incident_count ls
count-cons l ls = sum_by-cons (λ x. cond (is_incident_line x) 1 0) l ls

count-append : (ks ls : List Line) → incident_count (ks ++ ls) ≡ incident_count ks + incident_count ls
count-append ks ls = sum_by-append (λ x. cond (is_incident_line x) 1 0) ks ls

too-deep : (d : ℕ) → (suc (suc d) == 1) ≡ false
too-deep d = grind arith

-- a line deeper than a member of the root isn't that of an Incident
deep-none : (f : Forest) (d : ℕ) → incident_count (lines (suc (suc d)) f) ≡ 0
deep-none end d = refl
deep-none (leaf i rest) d =
    let l = leaf_line (suc (suc d)) i in
    let other : is_incident_line l ≡ false = and_left (suc (suc d) == 1) _ (too-deep d) in
    omega (arith, count-cons l (lines (suc (suc d)) rest), ap {B = ℕ} (λ b. cond b 1 0) other, deep-none rest d)
deep-none (branch name place kids rest) d =
    let l = class_line (suc (suc d)) name place in
    let other : is_incident_line l ≡ false = and_left (suc (suc d) == 1) _ (too-deep d) in
    let inner = lines (suc (suc (suc d))) kids in
    omega (arith, count-cons l (inner ++ lines (suc (suc d)) rest), count-append inner (lines (suc (suc d)) rest), ap {B = ℕ} (λ b. cond b 1 0) other, deep-none kids (suc d), deep-none rest d)

abbrev pub own : Bytes → ℕ
own name = cond (bytes_eq name incident) 1 0

pub leaf-count : (i : Leaf) (rest : Forest) → incident_count (lines 1 (leaf i rest)) ≡ own i.name + incident_count (lines 1 rest)
leaf-count i rest = count-cons (leaf_line 1 i) (lines 1 rest)

pub branch-count : (name : Bytes) (place : Option ℕ) (kids rest : Forest) → incident_count (lines 1 (branch name place kids rest)) ≡ own name + incident_count (lines 1 rest)
branch-count name place kids rest =
    omega (arith, count-cons (class_line 1 name place) (lines 2 kids ++ lines 1 rest), count-append (lines 2 kids) (lines 1 rest), deep-none kids 0)

-- an element behind one of the array of Incidents is an Incident
later-own : (name : Bytes) (place : Option ℕ) (d : Data) (ds : json.Items) (k n : ℕ) → may_stand (Some (incident, Some k)) name place ≡ true → (name ≡ incident → (j : ℕ) → place ≡ Some (suc j) → items_len ds ≤ n) →
    items_len (placed_item place d ds) ≤ own name + n
later-own name None d ds k n h more = omega arith
later-own name (Some zero) d ds k n h more = omega arith
later-own name (Some (suc j)) d ds k n h more =
    let same = (same-name incident (Some k) name j h).0 in
    omega (arith, ap own (sym same), more (sym same) j refl)

later-few : (f : Forest) (k : ℕ) → IsOrderedBehind (Some (incident, Some k)) f → items_len (items_of f) ≤ incident_count (lines 1 f)
later-few end k h = omega arith
later-few (leaf i rest) k h =
    let more = later-own i.name i.place (content_data i.content) (items_of rest) k (incident_count (lines 1 rest)) h.0
    (λ e j at. later-few rest (suc j) (subst (λ (s : SiblingPlace). IsOrderedBehind (Some s) rest) (λ x. (e x, at x)) h.1)) in
    omega (arith, leaf-count i rest, more)
later-few (branch name place kids rest) k h =
    let more = later-own name place (json.object (members_of kids)) (items_of rest) k (incident_count (lines 1 rest)) h.0
    (λ e j at. later-few rest (suc j) (subst (λ (s : SiblingPlace). IsOrderedBehind (Some s) rest) (λ x. (e x, at x)) h.2)) in
    omega (arith, branch-count name place kids rest, more)

chosen : (o : Ordering) (b : Bool) (a : Option Data) (d : Data) → is_eq o ≡ b → match_ordering o a (Some d) a ≡ (if b then Some d else a)
chosen o b a d h = grind arith

same : (x k : Bytes) (b : Bool) → bytes_eq x k ≡ b → bytes_eq k x ≡ b
same x k true h = ap (bytes_eq k) (bytes_eq-true x k h) ∙ bytes_eq-refl k
same x k false h = is_false (bytes_eq k x) (λ e. true≢false (sym (bytes_eq-refl k) ∙ ap (λ y. bytes_eq y k) (bytes_eq-true k x e) ∙ h))

pub get-first : (k n : Bytes) (b : Bool) (d : Data) (ms : json.Members) → bytes_eq n k ≡ b → get_member k (json.member n d ms) ≡ (if b then Some d else get_member k ms)
get-first k n b d ms h = chosen (slice_cmp nat_cmp k n) b (get_member k ms) d (is_eq-slice_cmp k n ∙ same n k b h)

no-lone : (d : Data) (found : json.Items) → ((e : Data) (es : json.Items) → d ≡ json.array (json.item e es) → ⊥) → d ≡ json.array found → items_len found ≤ 0
no-lone d json.no_items never is = omega arith
no-lone d (json.item e es) never is = absurd (never e es is)

found-own : (name : Bytes) (place : Option ℕ) (b : Bool) (d : Data) (ds : json.Items) (ms : json.Members) (found : json.Items) (n : ℕ) → bytes_eq name incident ≡ b → get_member incident (placed_member name place d ds ms) ≡ Some (json.array found) →
    (place ≡ None → (e : Data) (es : json.Items) → d ≡ json.array (json.item e es) → ⊥) → (name ≡ incident → place ≡ Some 0 → items_len ds ≤ n) → (get_member incident ms ≡ Some (json.array found) → items_len found ≤ n) →
    items_len found ≤ cond b 1 0 + n
found-own name None true d ds ms found n eq at lone first later =
    let is : Some d ≡ Some (json.array found) = sym (get-first incident name true d ms eq) ∙ at in
    omega (arith, no-lone d found (lone refl) (cc))
found-own name None false d ds ms found n eq at lone first later = omega (arith, later (sym (get-first incident name false d ms eq) ∙ at))
found-own name (Some zero) true d ds ms found n eq at lone first later =
    let is : Some (json.array (json.item d ds)) ≡ Some (json.array found) = sym (get-first incident name true (json.array (json.item d ds)) ms eq) ∙ at in
    let same_items : json.item d ds ≡ found = cc in
    omega (arith, ap items_len same_items, first (bytes_eq-true name incident eq) refl)
found-own name (Some zero) false d ds ms found n eq at lone first later = omega (arith, later (sym (get-first incident name false (json.array (json.item d ds)) ms eq) ∙ at))
found-own name (Some (suc k)) b d ds ms found n eq at lone first later = omega (arith, later at)

behind-first : (name : Bytes) (place : Option ℕ) (rest : Forest) → IsOrderedBehind (Some (name, place)) rest → name ≡ incident → place ≡ Some 0 → items_len (items_of rest) ≤ incident_count (lines 1 rest)
behind-first name place rest h e at = later-few rest 0 (subst (λ (s : SiblingPlace). IsOrderedBehind (Some s) rest) (λ x. (e x, at x)) h)

content-lone : (c : Content) (place : Option ℕ) → MayBe (is_some place) c → place ≡ None → (e : Data) (es : json.Items) → content_data c ≡ json.array (json.item e es) → ⊥
content-lone c None h at e es is = content-empty c e es h is
content-lone c (Some k) h at e es is = cc

-- there are no more Incidents than lines of an Incident
few : (f : Forest) (o : Option SiblingPlace) (found : json.Items) → IsOrderedBehind o f → HasTexts f → get_member incident (members_of f) ≡ Some (json.array found) → items_len found ≤ incident_count (lines 1 f)
few end o found h k at = cc
few (leaf i rest) o found h k at =
    let less = found-own i.name i.place (bytes_eq i.name incident) (content_data i.content) (items_of rest) (members_of rest) found (incident_count (lines 1 rest)) refl at
    (content-lone i.content i.place k.0) (behind-first i.name i.place rest h.1) (few rest (Some (i.name, i.place)) found h.1 k.1) in
    omega (arith, less, leaf-count i rest)
few (branch name place kids rest) o found h k at =
    let less = found-own name place (bytes_eq name incident) (json.object (members_of kids)) (items_of rest) (members_of rest) found (incident_count (lines 1 rest)) refl at
    (λ p e es is. cc) (behind-first name place rest h.2) (few rest (Some (name, place)) found h.2 k.1) in
    omega (arith, less, branch-count name place kids rest)

-- ---- how deep the lines are

pub shallow-lines : (f : Forest) (d : ℕ) → list_all is_shallow (lines (suc d) f) ≡ true → d ≤ 32 → d + height f ≤ 32
shallow-lines end d h low = omega (arith, low)
shallow-lines (leaf i rest) d h low =
    let parts = and_parts (nat_le (suc d) DEPTH_LIMIT) (list_all is_shallow (lines (suc d) rest)) h in
    omega (arith, leb-true (suc d) DEPTH_LIMIT parts.0, shallow-lines rest d parts.1 low)
shallow-lines (branch name place kids rest) d h low =
    let parts = and_parts (nat_le (suc d) DEPTH_LIMIT) (list_all is_shallow (lines (suc (suc d)) kids ++ lines (suc d) rest)) h in
    let both = and_parts (list_all is_shallow (lines (suc (suc d)) kids)) (list_all is_shallow (lines (suc d) rest)) (sym (list_all-append is_shallow (lines (suc (suc d)) kids) (lines (suc d) rest)) ∙ parts.1) in
    let here = leb-true (suc d) DEPTH_LIMIT parts.0 in
    omega (arith, here, shallow-lines kids (suc d) both.0 here, shallow-lines rest d both.1 low)

pub lines-shallow : (f : Forest) (d : ℕ) → d + height f ≤ 32 → list_all is_shallow (lines (suc d) f) ≡ true
lines-shallow end d h = refl
lines-shallow (leaf i rest) d h = and_from _ _ (le-leb (suc d) DEPTH_LIMIT (omega (arith, h))) (lines-shallow rest d (omega (arith, h)))
lines-shallow (branch name place kids rest) d h =
    and_from _ _ (le-leb (suc d) DEPTH_LIMIT (omega (arith, h)))
    (list_all-append is_shallow (lines (suc (suc d)) kids) (lines (suc d) rest) ∙ and_from _ _ (lines-shallow kids (suc d) (omega (arith, h))) (lines-shallow rest d (omega (arith, h))))

-- ---- parts of reading

or-ok : {A : Type 0} (e : ReadFault) (o : Option A) (x : A) → or_fault e o ≡ Ok x → o ≡ Some x
or-ok e o x h = grind arith

short : (ls : List Line) → nat_le (length ls) LINE_LIMIT ≡ true → if_short ls ≡ Ok ls
short ls h = cond-false (nat_lt LINE_LIMIT (length ls)) (Err TooManyLines) (Ok ls) (le-ltb LINE_LIMIT (length ls) (leb-true (length ls) LINE_LIMIT h))

few-lines : (ls : List Line) (d : List Line) → if_short ls ≡ Ok d → nat_le (length ls) LINE_LIMIT ≡ true
few-lines ls d h = cond_both (nat_lt LINE_LIMIT (length ls)) (Err TooManyLines) (Ok ls) (λ r. r ≡ Ok d → nat_le (length ls) LINE_LIMIT ≡ true) (λ _ e. absurd (cc)) (λ b _. le-leb (length ls) LINE_LIMIT (ltb-false LINE_LIMIT (length ls) b)) h

none-of : {A : Type 0} (o : Option A) → is_none o ≡ true → o ≡ None
none-of None h = refl
none-of (Some x) h = absurd (true≢false (sym h))

record Complete (o : Option Data) : Type 0 where
  pub one : Data
  pub is : o ≡ Some (json.array (json.item one json.no_items))
  pub complete : lacking one ≡ None

complete-one : (o : Option Data) → option_map_or is_complete_incident o false ≡ true → Complete o
complete-one (Some (json.array (json.item d json.no_items))) h = record { one = d; is = refl; complete = none-of (lacking d) h }
complete-one _ h = absurd (true≢false (sym h))

an-object : (d : Data) → lacking d ≡ None → is_some (as_object d) ≡ true
an-object (json.object ms) h = refl
an-object _ h = cc

one-only : (ds : json.Items) → nat_lt 0 (items_len ds) ≡ true → items_len ds ≤ 1 → (d : Data) × (ds ≡ json.item d json.no_items)
one-only json.no_items some few = absurd (true≢false (sym some))
one-only (json.item d json.no_items) some few = (d, refl)
one-only (json.item d (json.item e es)) some few = absurd (omega (arith, few))

-- ---- a document

module _ (f : Forest) (sound : IsSound f) where
  abbrev ms : json.Members
  ms = members_of f

  abbrev text : Bytes
  text = compact_text (json.object (members_of f))

  parsed-back : is_utf8 text ≡ true → parsed text ≡ Ok (json.object ms)
  parsed-back utf8 =
      let low = (low-tree f 99 sound.texts (omega (arith, sound.shallow))).0 in
      ap (or_fault NotJson) (cond-true (is_utf8 text) (read text) None utf8
      ∙ read-compact (json.object ms) (normal-object f sound.ordered sound.texts) ((whole f sound.texts).members) (omega (arith, low)))

  -- what reading does once the text is parsed
  abbrev onward : Result (List (List Line)) ReadFault
  onward = or_fault NotDocument (incidents_of ms) >>= λ ds. all_complete 0 ds >>= λ _. all_fit (json.object ms) >>= λ _. documents ms ds

  reads : is_utf8 text ≡ true → reading text ≡ onward
  unfolding reading
  reads utf8 = rw (parsed-back utf8) refl

  -- the document of the one Incident is the document itself
  document-is : (d : Data) → get_member incident ms ≡ Some (json.array (json.item d json.no_items)) → document_of d ms ≡ f
  document-is d at = ap forest_of_data (put-same incident (json.array (json.item d json.no_items)) ms (ascend f None sound.ordered) at) ∙ again f sound.ordered sound.texts

  back : is_utf8 text ≡ true → Complete (get_member incident ms) → nat_le (length (lines 1 f)) LINE_LIMIT ≡ true → height f ≤ 32 → reading text ≡ Ok (lines 1 f ∷ [])
  back utf8 x lines-few low =
      let only = json.item x.one json.no_items in
      let are : are_incidents only ≡ true = rw (an-object x.one x.complete) refl in
      let at : incidents_of ms ≡ Some only = ap (λ o. option_and_then if_incidents (option_and_then as_array o)) x.is ∙ cond-true (are_incidents only) (Some only) None are in
      let all : all_complete 0 only ≡ Ok tt = ap (λ o. unless (Missing (incident_at 0)) o >>= λ _. Ok tt) x.complete in
      let fine : all_fit (json.object ms) ≡ Ok tt = plain_at_once (json.object ms) (class-clear 0 0 ms (omega arith) (omega arith) ((clear-tree f 1 sound.texts (omega (arith, low))).0)) in
      let gives : documents ms only ≡ Ok (lines 1 f ∷ []) =
      ap (λ g. if_short (lines 1 g) >>= λ first. Ok (first ∷ [])) (document-is x.one x.is) ∙ ap (λ r. r >>= λ first. Ok (first ∷ [])) (short (lines 1 f) lines-few) in
      reads utf8 ∙ rw (at, all, fine) gives

  record Read (docs : List (List Line)) : Type 0 where
    pub complete : Complete (get_member incident ms)
    pub lines-few : nat_le (length (lines 1 f)) LINE_LIMIT ≡ true
    pub low : height f ≤ 32

  one-read : (docs : List (List Line)) (d : Data) → get_member incident ms ≡ Some (json.array (json.item d json.no_items)) → all_complete 0 (json.item d json.no_items) ≡ Ok tt → all_fit (json.object ms) ≡ Ok tt →
      documents ms (json.item d json.no_items) ≡ Ok docs → Read docs
  one-read docs d at all fine gives =
      let lacks = bind-ok (unless (Missing (incident_at 0)) (lacking d)) (λ _. Ok tt) tt all in
      let first = bind-ok (if_short (lines 1 (document_of d ms))) (λ first. Ok (first ∷ [])) docs gives in
      let plain = (head (node 0 0 (json.object ms)) (member_nodes 1 ms) (plain_ok (json.object ms) fine)).1 in
      let low = low_members ms 1 (omega arith) plain in
      record {
        complete = record { one = d; is = at; complete = none_if_ok (Missing (incident_at 0)) (lacking d) lacks.1 };
        lines-few = subst (λ g. nat_le (length (lines 1 g)) LINE_LIMIT ≡ true) (document-is d at) (few-lines (lines 1 (document_of d ms)) first.0 first.1);
        low = omega (arith, low, ap height (again f sound.ordered sound.texts));
      }

  was-read : is_utf8 text ≡ true → incident_count (lines 1 f) ≤ 1 → (docs : List (List Line)) → reading text ≡ Ok docs → Read docs
  was-read utf8 count docs h =
      let incidents = bind-ok (or_fault NotDocument (incidents_of ms)) _ docs (sym (reads utf8) ∙ h) in
      let ds = incidents.0 in
      let complete = bind-ok (all_complete 0 ds) _ docs incidents.2 in
      let fine = bind-ok (all_fit (json.object ms)) _ docs complete.2 in
      let picked : incidents_of ms ≡ Some ds = or-ok NotDocument (incidents_of ms) ds incidents.1 in
      let at = found_array (get_member incident ms) ds picked in
      let are : are_incidents ds ≡ true = (cond_some (are_incidents ds) ds ds (sym (ap (λ o. option_and_then if_incidents (option_and_then as_array o)) at) ∙ picked)).0 in
      let some = (and_parts (nat_lt 0 (items_len ds)) (nat_le (items_len ds) REPORT_INCIDENT_LIMIT) ((and_parts (nat_lt 0 (items_len ds) && nat_le (items_len ds) REPORT_INCIDENT_LIMIT) (all_objects ds) are).0)).0 in
      let one = one-only ds some (omega (arith, count, few f None ds sound.ordered sound.texts at)) in
      one-read docs one.0 (at ∙ ap (λ x. Some (json.array x)) one.1) (subst (λ x. all_complete 0 x ≡ Ok tt) one.1 complete.1) fine.1 (subst (λ x. documents ms x ≡ Ok docs) one.1 fine.2)

  -- ---- by the definition

  same-incident : has_complete_incident (lines 1 f) ≡ option_map_or is_complete_incident (get_member incident ms) false
  same-incident = ap (λ xs. option_map_or is_complete_incident (get_member incident xs) false) (data-is f sound)

  readable : (docs : List (List Line)) → Read docs → is_readable (lines 1 f) ≡ true
  readable docs r =
      let whole_incident = same-incident ∙ ap (λ o. option_map_or is_complete_incident o false) r.complete.is ∙ ap is_none r.complete.complete in
      and_from _ _ whole_incident (and_from _ _ r.lines-few (lines-shallow f 0 (omega (arith, r.low))))

  refuses : is_utf8 text ≡ true → incident_count (lines 1 f) ≤ 1 → (r : Result (List (List Line)) ReadFault) → reading text ≡ r → is_readable (lines 1 f) ≡ false → is_ok r ≡ false
  refuses utf8 count (Ok docs) is fails = absurd (true≢false (sym (readable docs (was-read utf8 count docs is)) ∙ fails))
  refuses utf8 count (Err e) is fails = refl

  exactly : incident_count (lines 1 f) ≤ 1 → is_utf8 text ≡ true →
      (is_readable (lines 1 f) ≡ true → reading text ≡ Ok (lines 1 f ∷ [])) × (is_readable (lines 1 f) ≡ false → is_ok (reading text) ≡ false)
  exactly count utf8 = (
    λ yes.
        let parts = and_parts (has_complete_incident (lines 1 f)) _ yes in
        let limits = and_parts (nat_le (length (lines 1 f)) LINE_LIMIT) (list_all is_shallow (lines 1 f)) parts.1 in
        back utf8 (complete-one (get_member incident ms) (sym same-incident ∙ parts.0)) limits.0 (omega (arith, shallow-lines f 0 limits.1 (omega arith))),
    refuses utf8 count (reading text) refl,
  )

pub read-exactly : (f : Forest) → IsSound f → incident_count (lines 1 f) ≤ 1 → is_utf8 (outline_text (lines 1 f)) ≡ true → IsReadExactly (lines 1 f)
read-exactly f sound count utf8 =
    let same_text : compact_text (json.object (members_of f)) ≡ outline_text (lines 1 f) = ap (λ xs. compact_text (json.object xs)) (sym (data-is f sound)) in
    let both = subst (λ t. is_utf8 t ≡ true → (is_readable (lines 1 f) ≡ true → reading t ≡ Ok (lines 1 f ∷ [])) × (is_readable (lines 1 f) ≡ false → is_ok (reading t) ≡ false)) same_text (exactly f sound count) utf8 in
    record { back = both.0; refused = both.1 }
