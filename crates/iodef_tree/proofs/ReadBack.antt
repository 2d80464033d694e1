-- The text of a document that was read is read as that one document.
use Rattle.std.proofs.Common.{◌≡◌, ℕ, suc, ◌≤◌, List, [], ◌∷◌, true, false, ◌&&◌, map, nat_lt, nat_le, refl, sym, ◌∙◌, ap, subst, arith, Some, None, Ok}
use Rattle.std.{proofs.{Common.{is_some, option_and_then, unwrap_or, codes, decimal}, lemmas.Bool.{and_parts, cond-true, or_parts}}, specs.List.AllByRecursion}
use Rattle.{std.specs.Str.is_utf8, serde_json.{proofs.{Nesting.depth-read, Views.get_member-put}, specs.Data.{Data, depth, items_depth, members_depth}}}
use Rattle.serde_json.specs.{Events.items_len, Find.{as_array, as_object}, Read.{read, max_depth}, View.items_of as listed, Written.has_float}
use Rattle.{serde_json.specs.Written.{items_have_float, members_have_float, compact_text}, json_pointer.specs.Text.Bytes}
use Rattle.iodef_tree.proofs.{AscendingNames.{AreAbove, ordered_members}, Bodies.fit_object, Data.{AreAfter, Ascend, member-data, no-items}, Each.IsEach}
use Rattle.iodef_tree.proofs.{Each.{put-each, get-each}, Exchanged.put_twice, Filled.has_elements, Fitness.{AreClear, clear-apart, clear-joined, bind-ok}}
use Rattle.iodef_tree.proofs.{Fitness.{none_if_ok, plain_at_once}, Meaning.data-ordered, Normal.{IsNormal, AreNormal, AreMembersNormal, put-normal}}
use Rattle.iodef_tree.{proofs.{Normal.{read-normal, read-compact, normals}, Passed.{short-ok, Passed, passed}}, specs.{Json.data_of, Reading.{◌>>=◌, or_fault}}}
use Rattle.iodef_tree.specs.Reading.{unless, parsed, all_objects, are_incidents, if_incidents, incidents_of, lacking, all_complete, all_fit, incident_at}
use Rattle.iodef_tree.specs.{Reading.{with_incident, document_of, if_short, documents, reading}, Sound.IsOrdered, Tree.{Body, Bodies, member_front, lines}}
use Rattle.iodef_tree.specs.Values.{nodes, item_nodes, member_nodes, one_or_many, forest_of_data, body_of_data, elements_of_data, items_of_data, bodies_of_data}
use Rattle.iodef_tree.specs.{View.forest_of_members, declared.{TheConstants.REPORT_INCIDENT_LIMIT, fault.ReadFault.TheVariants.{NotJson, Missing}}}
use Rattle.iodef_tree.specs.{declared.line.Line.Line, inner.{FitValues.{IsBodyOrdered, AreBodiesOrdered, IsFit, AreFit}, Written.{members_of, items_of}}}
use Rattle.iodef_tree.specs.inner.Written.{body_data, bodies_data}
use Rattle.serde_json.specs.Data as json
use Rattle.iodef_tree.proofs.AscendingNames as ordered

-- ---- the members that the lines mean are those that were read

filled-data : (b : Body) (bs : List Body) → has_elements (one_or_many b bs) ≡ true
filled-data b bs = grind arith

abbrev pub as_list : json.Members → List (Bytes × Bodies)
as_list json.no_members = []
as_list (json.member n d ms) = (n, bodies_of_data d) ∷ as_list ms

pub as-list : (ms : json.Members) → forest_of_members (as_list ms) ≡ forest_of_data ms
as-list json.no_members = refl
as-list (json.member n d ms) = ap (member_front n (bodies_of_data d)) (as-list ms)

fresh : (ms : json.Members) → items_of (forest_of_data ms) ≡ json.no_items
fresh ms = ap items_of (sym (as-list ms)) ∙ no-items (as_list ms)

value-back : (d : Data) → IsNormal d → has_float d ≡ false → depth d ≤ max_depth → unwrap_or (read (compact_text d)) json.null ≡ d
value-back d n w low = ap (λ o. unwrap_or o json.null) (read-compact d n w low)

mutual
  body-back : (d : Data) → IsNormal d → has_float d ≡ false → depth d ≤ max_depth → body_data (body_of_data d) ≡ d
  body-back (json.string s) n w low = refl
  body-back (json.object ms) n w low = ap json.object (members-back ms n.1 w (omega (arith, low)))
  body-back d n w low = value-back d n w low

  bodies-back : (d : Data) → IsNormal d → has_float d ≡ false → depth d ≤ max_depth → bodies_data (bodies_of_data d) ≡ d
  bodies-back (json.string s) n w low = refl
  bodies-back (json.array (json.item d ds)) n w low =
      let whole = or_parts (has_float d) (items_have_float ds) w in
      rw (body-back d n.0 whole.0 (omega (arith, low)), items-back ds n.1 whole.1 (omega (arith, low))) refl
  bodies-back (json.object ms) n w low = ap json.object (members-back ms n.1 w (omega (arith, low)))
  bodies-back d n w low = value-back d n w low

  items-back : (ds : json.Items) → AreNormal ds → items_have_float ds ≡ false → items_depth ds ≤ max_depth → listed (map body_data (items_of_data ds)) ≡ ds
  items-back json.no_items n w low = refl
  items-back (json.item d ds) n w low =
      let whole = or_parts (has_float d) (items_have_float ds) w in
      rw (body-back d n.0 whole.0 (omega (arith, low)), items-back ds n.1 whole.1 (omega (arith, low))) refl

  members-back : (ms : json.Members) → AreMembersNormal ms → members_have_float ms ≡ false → members_depth ms ≤ max_depth → members_of (forest_of_data ms) ≡ ms
  members-back json.no_members n w low = refl
  members-back (json.member k d ms) n w low =
      let whole = or_parts (has_float d) (members_have_float ms) w in
      member-data k (bodies_of_data d) (forest_of_data ms) (fresh ms) (filled-data (body_of_data d) (elements_of_data d))
      ∙ ap (λ e. json.member k e (members_of (forest_of_data ms))) (bodies-back d n.0 whole.0 (omega (arith, low)))
      ∙ ap (json.member k d) (members-back ms n.1 whole.1 (omega (arith, low)))

-- ---- their tree is ordered

above : (n : Bytes) (ms : json.Members) → AreAfter n ms → AreAbove n (as_list ms)
above n json.no_members h = tt
above n (json.member m d ms) h = (h.0, above n ms h.1)

up : (ms : json.Members) → Ascend ms → ordered.Ascend (as_list ms)
up json.no_members h = tt
up (json.member n d ms) h = (above n ms h.0, up ms h.1)

mutual
  pub body-order : (d : Data) → IsNormal d → IsBodyOrdered (body_of_data d)
  body-order (json.object ms) n = subst IsOrdered (as-list ms) (ordered_members (as_list ms) None tt (up ms n.0) (members-order ms n.1))
  body-order _ n = tt

  bodies-order : (d : Data) → IsNormal d → AreBodiesOrdered (bodies_of_data d)
  bodies-order (json.array (json.item d ds)) n = (body-order d n.0, items-order ds n.1)
  bodies-order (json.object ms) n = subst IsOrdered (as-list ms) (ordered_members (as_list ms) None tt (up ms n.0) (members-order ms n.1))
  bodies-order _ n = tt

  items-order : (ds : json.Items) → AreNormal ds → AllByRecursion IsBodyOrdered (items_of_data ds)
  items-order json.no_items n = tt
  items-order (json.item d ds) n = (body-order d n.0, items-order ds n.1)

  members-order : (ms : json.Members) → AreMembersNormal ms → AllByRecursion (λ m. AreBodiesOrdered m.1) (as_list ms)
  members-order json.no_members n = tt
  members-order (json.member k d ms) n = (bodies-order d n.0, members-order ms n.1)

pub data-back : (ms : json.Members) → IsNormal (json.object ms) → members_have_float ms ≡ false → members_depth ms ≤ max_depth → data_of (lines 1 (forest_of_data ms)) ≡ ms
data-back ms n w low = data-ordered (forest_of_data ms) (body-order (json.object ms) n) ∙ members-back ms n.1 w low

-- ---- what is known of each value of a body

-- what is known of a value at a member, and of an element of its array
pub record IsGood (n o a : ℕ) (d : Data) : Type 0 where
  pub normal : IsNormal d
  pub low : depth d ≤ n
  pub fits : AreClear (nodes o a d)

abbrev AreGood : ℕ → json.Items → Type 0
AreGood n json.no_items = Unit {0}
AreGood n (json.item d ds) = IsGood n 1 1 d × AreGood n ds

fits : IsEach (λ d. AreClear (nodes 1 0 d)) (λ ms. AreClear (member_nodes 1 ms))
fits = grind (arith, clear-apart, clear-joined)

depths : (n : ℕ) → IsEach (λ d. depth d ≤ n) (λ ms. members_depth ms ≤ n)
depths n = grind arith

good-items : (ds : json.Items) (n k : ℕ) → AreNormal ds → items_depth ds ≤ n → AreClear (item_nodes 1 1 k ds) → AreGood n ds
good-items json.no_items n k h low fits = tt
good-items (json.item d ds) n k h low fits =
    let parts = clear-apart (decimal k) (nodes 1 1 d) (item_nodes 1 1 (suc k) ds) fits in
    (record { normal = h.0; low = omega (arith, low); fits = parts.0 }, good-items ds n (suc k) h.1 (omega (arith, low)) parts.1)

one-fits : (d : Data) → AreClear (nodes 1 1 d) → AreClear (nodes 1 0 (json.array (json.item d json.no_items)))
one-fits d h = clear-joined (decimal 0) (nodes 1 1 d) [] h refl

-- ---- one document

read-steps : (text : Bytes) (ms : json.Members) (ds : json.Items) (docs : List (List Line)) → parsed text ≡ Ok (json.object ms) → incidents_of ms ≡ Some ds → all_complete 0 ds ≡ Ok tt → all_fit (json.object ms) ≡ Ok tt →
    documents ms ds ≡ Ok docs → reading text ≡ Ok docs
unfolding reading
read-steps text ms ds docs p i c f d = rw (p, i, c, f) d

abbrev text_of_lines : List Line → Bytes
text_of_lines d = compact_text (json.object (data_of d))

abbrev ReadsBack : List Line → Type 0
ReadsBack d = is_utf8 (text_of_lines d) ≡ true → reading (text_of_lines d) ≡ Ok (d ∷ [])

pub record IsRoot (root : json.Members) : Type 0 where
  pub normal : IsNormal (json.object root)
  pub low : members_depth root ≤ 126
  pub fits : AreClear (member_nodes 1 root)

-- the Incident has all members that it must have, and these are the lines of its document
pub record HasLines (root : json.Members) (x : Data) (d : List Line) : Type 0 where
  pub good : IsGood 125 1 1 x
  pub fit : IsFit root x
  pub object : is_some (as_object x) ≡ true
  pub complete : lacking x ≡ None
  pub short : if_short (lines 1 (document_of x root)) ≡ Ok d

module _ (root : json.Members) (x : Data) (d : List Line) (r : IsRoot root) (h : HasLines root x d) where
  pub normal-one : IsNormal (json.object (with_incident x root))
  normal-one = put-normal (codes "Incident") (json.array (json.item x json.no_items)) root r.normal (h.good.normal, tt)

  pub low-one : members_depth (with_incident x root) ≤ 126
  low-one = let deep = h.good.low in put-each _ _ (depths 126) (codes "Incident") (json.array (json.item x json.no_items)) root (omega (arith, deep)) r.low

  -- the lines mean the root with this Incident alone
  pub means : data_of d ≡ with_incident x root
  means = ap data_of (sym (short-ok (lines 1 (document_of x root)) d h.short)) ∙ data-back (with_incident x root) normal-one h.fit.whole (let low = low-one in omega (arith, low))

  reads-back : ReadsBack d
  reads-back =
      let k = codes "Incident" in
      let v = json.array (json.item x json.no_items) in
      let ms = with_incident x root in
      let low = low-one in
      let only = json.item x json.no_items in
      let are : are_incidents only ≡ true = rw h.object refl in
      let at : incidents_of ms ≡ Some only = ap (λ o. option_and_then if_incidents (option_and_then as_array o)) (get_member-put k v root) ∙ cond-true (are_incidents only) (Some only) None are in
      let all : all_complete 0 only ≡ Ok tt = ap (λ o. unless (Missing (incident_at 0)) o >>= λ _. Ok tt) h.complete in
      let fine : all_fit (json.object ms) ≡ Ok tt = plain_at_once (json.object ms) (put-each _ _ fits k v root (one-fits x h.good.fits) r.fits) in
      let gives : documents ms only ≡ Ok (d ∷ []) =
      ap (λ ns. if_short (lines 1 (forest_of_data ns)) >>= λ first. Ok (first ∷ [])) (put_twice k v v root) ∙ ap (λ y. y >>= λ first. Ok (first ∷ [])) h.short in
      subst (λ ns. is_utf8 (compact_text (json.object ns)) ≡ true → reading (compact_text (json.object ns)) ≡ Ok (d ∷ [])) (sym means) (λ utf8.
      let text = compact_text (json.object ms) in
      read-steps text ms only (d ∷ [])
      (ap (or_fault NotJson) (cond-true (is_utf8 text) (read text) None utf8 ∙ read-compact (json.object ms) normal-one h.fit.whole (omega (arith, low))))
      at all fine gives)

-- ---- each of them

each : (Q : List Line → Type 0) (root : json.Members) → ((x : Data) (d : List Line) → HasLines root x d → Q d) → (ds : json.Items) (k : ℕ) (docs : List (List Line)) → AreGood 125 ds → AreFit root ds → all_objects ds ≡ true →
    all_complete k ds ≡ Ok tt → documents root ds ≡ Ok docs → AllByRecursion Q docs
each Q root shown json.no_items k docs g fit objects complete given = let none : [] ≡ docs = cc in subst (AllByRecursion Q) none tt
each Q root shown (json.item x ds) k docs g fit objects complete given =
    let here = bind-ok (if_short (lines 1 (document_of x root))) (λ first. documents root ds >>= λ others. Ok (first ∷ others)) docs given in
    let more = bind-ok (documents root ds) (λ others. Ok (here.0 ∷ others)) docs here.2 in
    let whole : here.0 ∷ more.0 ≡ docs = let e = more.2 in cc in
    let lacks = bind-ok (unless (Missing (incident_at k)) (lacking x)) (λ _. all_complete (suc k) ds) tt complete in
    let objs = and_parts (is_some (as_object x)) (all_objects ds) objects in
    subst (AllByRecursion Q) whole (
      shown x here.0 (record { good = g.0; fit = fit.0; object = objs.0; complete = none_if_ok (Missing (incident_at k)) (lacking x) lacks.1; short = here.1 }),
      each Q root shown ds (suc k) more.0 g.1 fit.1 objs.1 lacks.2 more.1,
    )

-- a property of each document of a body
pub each-document : (Q : List Line → Type 0) (bytes : Bytes) (docs : List (List Line)) (p : Passed bytes docs) → ((x : Data) (d : List Line) → IsRoot p.root → HasLines p.root x d → Q d) → AllByRecursion Q docs
each-document Q bytes docs p shown =
    let k = codes "Incident" in
    let array = json.array p.incidents in
    let normal = read-normal bytes (json.object p.root) p.was in
    let deep = depth-read bytes (json.object p.root) p.was in
    let low : members_depth p.root ≤ 126 = omega (arith, deep) in
    let inner = get-each _ _ (depths 126) k p.root array low p.at in
    each Q p.root (λ x d. shown x d (record { normal = normal; low = low; fits = p.plain })) p.incidents 0 docs
    (good-items p.incidents 125 0 (get-each _ _ normals k p.root array normal.1 p.at) (omega (arith, inner)) (get-each _ _ fits k p.root array p.plain p.at))
    (fit_object p.root p.incidents p.plain p.at)
    ((and_parts (nat_lt 0 (items_len p.incidents) && nat_le (items_len p.incidents) REPORT_INCIDENT_LIMIT) (all_objects p.incidents) p.are).1)
    p.complete p.gives

pub texts-read-back : (bytes : Bytes) (docs : List (List Line)) → reading bytes ≡ Ok docs → AllByRecursion ReadsBack docs
texts-read-back bytes docs h = let p = passed bytes docs h in each-document ReadsBack bytes docs p (reads-back p.root)
