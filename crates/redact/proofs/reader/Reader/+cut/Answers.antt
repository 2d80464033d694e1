use Rattle.std.proofs.Common.{List, ◌≡◌, ℕ, suc, ◌+◌, [], ◌∷◌, ◌++◌, map, length, get_or, drop, take, refl, sym, ◌∙◌, ap, subst, arith, add-one, decimal, false}
use Rattle.std.proofs.{Common.{true, rules, if◌then◌else◌, Option, Some, None, option_map, is_some, append-nil, Result, Ok, Err, IfOk}, lemmas.Bool.eqb-false}
use Rattle.std.{proofs.lemmas.{Grind.common_steps, List.{drop_all, map-append, at_drop_more}, Result.IfOk-weaker}, specs.List.{AllByRecursion, cons_option}}
use Rattle.iodef_tree.{proofs.{Filled.{made-filled, many-filled, member-at, elements-kept}, Views.forest-made}, specs.Filled.{has_some, IsItemFilled}}
use Rattle.iodef_tree.specs.{Filled.IsMemberFilled, Text.Bytes, View.{forest, body, bodies, named, forest_of_members}, declared.{Text.Text, object.Item.Item}}
use Rattle.{iodef_tree.specs.declared.object.{Member.Member, Object.the_lemmas}, policy.specs.{Ahead.ahead_of, Inherited.{carried, is_seen, hides}}}
use Rattle.{marking.specs.Label.marking_of, redact.proofs.{Entering.{class-left, class-goes}, Filling.{object-empty, hidden-left, hidden-filled, hidden-none}}}
use Rattle.redact.proofs.{Fronts.{Outcome, of_object}, Going.{goes-step, told-seen, told-hidden, pushed, pushed-left, pushed-all, pushed-none, length-pushed}}
use Rattle.redact.proofs.reader.Reader.+cut.Goals.{cut_items-in-Some+in_ok-push, cut_items-in_default, cut-in-Some+in_ok-push_member, cut-in_default}
use Rattle.redact.specs.{declared.{pass.State.State, trail.Token.Token}, inner.{Judged.{inside, is_end, cut, withheld_below}, Left.{home_of, left_at, told_at}}}
use Rattle.redact.specs.inner.Left.{count_at, left_member, told_member, count_member, left_members, told_members, count_members, left_items, told_items}
use Rattle.redact.specs.inner.{Left.{count_items, Goes, Leaves}, Pass.pass, Tokens.{token_of, path_of}}
use Rattle.redact.proofs.reader.Reader.+cut.Goals as goal

pub cut-returns-clause-left : goal.cut-returns-clause-left
cut-returns-clause-left t c =
    let C = c.args.self.now.case.now in
    let S = c.args.self.now.standing.now in
    let A = carried (path_of c.args.state.now.path.items) c.args.above in
    let D = c.deref-name-items.result.now in
    forest-made c.loop-name.members
    ∙ ap forest_of_members (sym (append-nil (map named c.loop-name.members.items)) ∙ (rw (drop_all c.loop-name.name-index D (omega arith)) at c.loop-name.invariant.left))
    ∙ sym (ap (λ (x : Outcome). x.left) (of_object C S (home_of c.args.home) A (path_of c.args.state.now.place.items) c.args.object.now D c.deref-name-items.ensures.value))

pub cut-returns-clause-goes : goal.cut-returns-clause-goes
cut-returns-clause-goes t c =
    let C = c.args.self.now.case.now in
    let S = c.args.self.now.standing.now in
    let A = carried (path_of c.args.state.now.path.items) c.args.above in
    let Q = path_of c.args.state.now.place.items in
    let D = c.deref-name-items.result.now in
    subst (λ (x : Outcome). Goes Q c.args.state.now c.loop-name.state x.pairs [] x.classes 0)
    (sym (of_object C S (home_of c.args.home) A Q c.args.object.now D c.deref-name-items.ensures.value))
    (rw (drop_all c.loop-name.name-index D (omega arith)) at c.loop-name.invariant.goes)

pub cut-returns-clause-filled : goal.cut-returns-clause-filled
cut-returns-clause-filled t c = made-filled c.loop-name.members c.loop-name.invariant.filled

some-kept : (xs : List Item) → (length xs ≡ 0 → ⊥) → has_some xs ≡ true
some-kept [] h = absurd (h refl)
some-kept (x ∷ xs) h = refl

pub cut_array-returns-clause-filled : goal.cut_array-returns-clause-filled
cut_array-returns-clause-filled t c =
    let v = c.in_ok-kept.kept in
    many-filled v (some-kept v.items (λ e. eqb-false _ 0 (sym c.if-is_empty.ensures) (v.ok.0 ∙ e))) c.in_ok-kept.ensures.filled

pub cut-cut_member-requires : goal.cut-cut_member-requires
cut-cut_member-requires t c =
    let C = c.args.self.now.case.now in
    let S = c.args.self.now.standing.now in (
      search (rules, the_lemmas),
      (
        member-at c.args.object.now c.deref-name-items.result.now c.loop-name.name-index c.loop-name-item.result c.requires.filled c.deref-name-items.ensures.value c.loop-name-test.true c.loop-name-item.is,
        c.requires.ahead ∙ ap (λ (ts : List Token). ahead_of C S (path_of ts)) (sym c.loop-name.invariant.goes.path),
      ),
    )

pub cut_member-cut_array-requires : goal.cut_member-cut_array-requires
cut_member-cut_array-requires t c = (search (rules, the_lemmas), (elements-kept c.args.member.now c.in-Many.items c.requires.1.1.0 c.in-Many.is, c.requires.1.1.1))

pub cut_seen-returns-clause-goes : goal.cut_seen-returns-clause-goes
cut_seen-returns-clause-goes t c = IfOk-weaker c.with_own_label.result _ _ (λ o _ q.
    let st = c.args.state.now in
    let b : State = record st { classes = c.saturating_add-state.result; rules_met = c.replace-outside.new.dest } in
    let k = c.cut.new.state in
    let r = path_of st.place.items in
    let J = pass c.args.self.now.case.now c.args.self.now.standing.now (carried (path_of st.path.items) c.args.at) (forest c.args.object.now) in
    let g = c.in_ok-kept.ensures.goes in
    let told_all = c.in_ok-tell_and_leave.ensures in
    record {
      path = told_all.path ∙ g.path;
      place = told_all.place ∙ g.place;
      withheld = told-seen q r st b k c.tell_and_leave.new.state (withheld_below (inside true) r 0 J) refl (ap (λ v. v.items) c.replace-outside.ensures.after ∙ c.new.ensures.items) g.withheld
          (cc (told_all.withheld, g.place)) (cc (told_all.gone, c.replace-outside.ensures.value));
      classes = λ h. let more = c.saturating_add-state.ensures in let e = g.classes (omega (arith, more, h)) in omega (arith, more, e, told_all.classes, h);
    }) c.with_own_label.ensures.left

both : {X Y : Type 0} (r : Result X Y) (P Q : X → Type 0) → IfOk r P → IfOk r Q → IfOk r (λ x. P x × Q x)
both (Ok x) P Q p q = (p, q)
both (Err e) P Q p q = tt

pub cut_hidden-returns-clause-left : goal.cut_hidden-returns-clause-left
cut_hidden-returns-clause-left t c = IfOk-weaker c.leave_hidden.result _ _ (λ r made. hidden-left c.in_ok-kept.kept r _ c.in_ok-kept.ensures.left made) c.leave_hidden.ensures.left

pub cut_hidden-returns-clause-filled : goal.cut_hidden-returns-clause-filled
cut_hidden-returns-clause-filled t c = IfOk-weaker c.leave_hidden.result _ _ (λ r made. hidden-filled c.in_ok-kept.kept r _ c.in_ok-kept.ensures.filled made) c.leave_hidden.ensures.left

pub cut_hidden-returns-clause-quiet : goal.cut_hidden-returns-clause-quiet
cut_hidden-returns-clause-quiet t c =
    let o = c.in_ok-kept.kept in
    let kept = c.in_ok-kept.ensures in
    IfOk-weaker c.leave_hidden.result _ _ (λ r h none.
    let empty = hidden-none o r _ h.0 none in
    (rw empty at h.1.withheld) ∙ kept.quiet (object-empty o kept.filled empty)) (both c.leave_hidden.result _ _ c.leave_hidden.ensures.left c.leave_hidden.ensures.leaves)

pub cut_hidden-returns-clause-goes : goal.cut_hidden-returns-clause-goes
cut_hidden-returns-clause-goes t c = IfOk-weaker c.leave_hidden.result _ _ (λ o left.
    let st = c.args.state.now in
    let b : State = record st { rules_met = c.replace-outside.new.dest } in
    let k = c.cut.new.state in
    let J = pass c.args.self.now.case.now c.args.self.now.standing.now (carried (path_of st.path.items) c.args.at) (forest c.args.object.now) in
    let r = path_of st.place.items in
    let q = path_of (take c.args.base st.place.items) in
    let rule = hides c.args.self.now.standing.now (carried (path_of st.path.items) c.args.at) in
    let kept = c.in_ok-kept.ensures in
    let d = c.leave_hidden.new.state in
    let leaves : Leaves k d st.rules_met.items rule (is_end (cut (inside false) 0 J)) = rw (kept.left, c.replace-outside.ensures.value, c.hides-rule.ensures) at left in
    record {
      path = leaves.path ∙ kept.goes.path;
      place = leaves.place ∙ kept.goes.place;
      withheld = told-hidden q r st b k d (withheld_below (inside false) r 0 J) refl (ap (λ v. v.items) c.replace-outside.ensures.after ∙ c.new.ensures.items) kept.goes.withheld
          rule (is_end (cut (inside false) 0 J)) (ap path_of kept.goes.place) leaves
          (λ empty. kept.quiet (object-empty c.in_ok-kept.kept kept.filled (ap is_end kept.left ∙ empty)));
      classes = λ h. let e = kept.goes.classes h in omega (arith, e, leaves.classes);
    }) c.leave_hidden.ensures.leaves

pub cut_class-returns-in_ok-kept-clause-goes : goal.cut_class-returns-in_ok-kept-clause-goes
cut_class-returns-in_ok-kept-clause-goes t c =
    let S = c.args.self.now.standing.now in
    let st = c.args.state.now in
    let seen : is_seen S (carried (path_of st.path.items) c.args.at) ≡ true = sym c.sees.ensures ∙ c.if-sees.true in
    rw seen (c.in_ok-kept.ensures.goes (path_of (take c.args.base st.place.items)))

named-bodies : (n : Bytes) (o : Option Member) → option_map (λ (x : Member). let y : Text × Member = (n, x) in named y) o ≡ option_map (λ b. (n, b)) (option_map bodies o)
named-bodies n None = refl
named-bodies n (Some x) = refl

pub cut-loop-name-preserved : goal.cut-loop-name-preserved
cut-loop-name-preserved t c =
    let C = c.args.self.now.case.now in
    let S = c.args.self.now.standing.now in
    let H = home_of c.args.home in
    let st = c.args.state.now in
    let A = carried (path_of st.path.items) c.args.above in
    let Q = path_of st.place.items in
    let D = c.deref-name-items.result.now in
    let i = c.loop-name.name-index in
    let m = c.loop-name-item.result in
    let ks = c.loop-name.members.items in
    let inv = c.loop-name.invariant in
    let o = c.in_ok-kept.field-0 in
    let R = map named (drop (i + 1) D) in
    let named' = λ (x : Member). let y : Text × Member = (m.0, x) in y in
    let split : drop i D ≡ m ∷ drop (i + 1) D = at_drop_more (λ ys. ys) D i m (omega arith) ∙ ap (λ y. y ∷ drop (i + 1) D) (sym c.loop-name-item.is) in
    let O : option_map bodies o ≡ left_member C S H A m.0 (bodies m.1) = rw (inv.goes.path, c.as_str.ensures) at c.in_ok-kept.ensures.left in
    let grown : c.match-branch-2.members.items ≡ pushed named' ks o = elim c.match-branch-2.branch [
      | cut-in-Some+in_ok-push_member w ↦ ap (λ v. v.items) w.members-is ∙ w.in_ok-push_member.ensures ∙ ap (pushed named' ks) (sym w.in-Some.is)
      | cut-in_default w ↦ ap (λ v. v.items) w.members-is ∙ ap (pushed named' ks) (sym w.in_default.is)
    ] in
    record {
      left = ap (λ ys. map named ys ++ left_members C S H A R) grown
          ∙ pushed-left named' named ks o (left_members C S H A R)
          ∙ ap (λ p. map named ks ++ cons_option p (left_members C S H A R)) (named-bodies m.0 o ∙ ap (option_map (λ b. (m.0, b))) O)
          ∙ (rw split at inv.left);
      filled = subst (λ (ys : List (Text × Member)). AllByRecursion (λ y. IsMemberFilled y.1) ys) (sym grown)
          (pushed-all (λ (y : Text × Member). IsMemberFilled y.1) named' ks o inv.filled c.in_ok-kept.ensures.filled);
      goes = goes-step Q st c.loop-name.state c.cut_member.new.state (told_members C S H A Q (map named D)) (told_member C S H A Q m.0 (bodies m.1)) (told_members C S H A Q R)
          (count_members C S A (map named D)) (count_member C S A m.0 (bodies m.1)) (count_members C S A R)
          (rw split at inv.goes) (simp (inv.goes.path, inv.goes.place, c.as_str.ensures) at c.in_ok-kept.ensures.goes);
      quiet = λ none. let z = pushed-none named' ks o (ap length (sym grown) ∙ none) in c.in_ok-kept.ensures.quiet z.0 ∙ inv.quiet z.1;
    }

pub cut_items-loop-i-preserved : goal.cut_items-loop-i-preserved
cut_items-loop-i-preserved t c =
    let C = c.args.self.now.case.now in
    let S = c.args.self.now.standing.now in
    let H = home_of c.args.home in
    let st = c.args.state.now in
    let A = carried (path_of st.path.items) c.args.array in
    let q = path_of (take c.args.base st.place.items) in
    let r = path_of st.place.items in
    let xs = c.args.items.now.items in
    let i = c.loop-i.i in
    let x = c.item-item.result in
    let ks = c.loop-i.kept.items in
    let inv = c.loop-i.invariant in
    let o = c.in_ok-x.field-0 in
    let new = c.match-branch-2.kept.items in
    let R = map body (drop (i + 1) xs) in
    let own = λ (y : Item). y in
    let here : x ≡ get_or xs i x = c.item-item.is ∙ ap (λ ys. get_or ys i x) c.deref-item-items.ensures.value in
    let split : drop i xs ≡ x ∷ drop (i + 1) xs = at_drop_more (λ ys. ys) xs i x (omega (arith, ap length c.deref-item-items.ensures.value)) ∙ ap (λ y. y ∷ drop (i + 1) xs) (sym here) in
    let O : option_map body o ≡ left_at C S H A (decimal i) (body x) = rw inv.goes.path at c.in_ok-x.ensures.left in
    let grown : new ≡ pushed own ks o = elim c.match-branch-2.branch [
      | cut_items-in-Some+in_ok-push w ↦ ap (λ v. v.items) w.kept-is ∙ w.in_ok-push.ensures.items ∙ ap (pushed own ks) (sym w.in-Some.is)
      | cut_items-in_default w ↦ ap (λ v. v.items) w.kept-is ∙ ap (pushed own ks) (sym w.in_default.is)
    ] in
    let m = if is_some (left_at C S H A (decimal i) (body x)) then suc (length ks) else length ks in
    let size : m ≡ length new = ap (λ p. if is_some p then suc (length ks) else length ks) (sym O) ∙ sym (ap length grown ∙ length-pushed own body ks o) in
    let F = λ (j n : ℕ). Goes q st c.cut_item.new.state (told_items C S H A q r 0 0 (map body xs)) (told_items C S H A q r j n R) (count_items C S A 0 (map body xs)) (count_items C S A j R) in
    record {
      left = ap (λ ys. map body ys ++ left_items C S H A (i + 1) R) grown
          ∙ pushed-left own body ks o (left_items C S H A (i + 1) R)
          ∙ ap (λ j. map body ks ++ cons_option (option_map body o) (left_items C S H A j R)) (add-one i)
          ∙ ap (λ p. map body ks ++ cons_option p (left_items C S H A (suc i) R)) O
          ∙ (rw split at inv.left);
      filled = subst (λ (ys : List Item). AllByRecursion IsItemFilled ys) (sym grown) (pushed-all IsItemFilled own ks o inv.filled c.in_ok-x.ensures.filled);
      goes = subst (λ j. F j (length new)) (sym (add-one i)) (subst (F (suc i)) size
          (goes-step q st c.loop-i.state c.cut_item.new.state _ (told_at C S A q (r ++ decimal (length ks) ∷ []) (decimal i) (body x)) (told_items C S H A q r (suc i) m R)
          _ (count_at C S A (decimal i) (body x)) (count_items C S A (suc i) R)
          (rw split at inv.goes) (simp (inv.goes.path, inv.goes.place, map-append token_of st.place.items, c.len.ensures ∙ c.loop-i.kept.ok.0) at c.in_ok-x.ensures.goes)));
      quiet = λ none. let z = pushed-none own ks o (ap length (sym grown) ∙ none) in c.in_ok-x.ensures.quiet z.0 ∙ inv.quiet z.1;
    }

-- `search` doesn't find these six, four of them only after long
pub cut_array-returns-then-is_empty-clause-goes : goal.cut_array-returns-then-is_empty-clause-goes
cut_array-returns-then-is_empty-clause-goes t c = grind (arith, common_steps)

pub cut_array-returns-clause-goes : goal.cut_array-returns-clause-goes
cut_array-returns-clause-goes t c = grind (arith, common_steps)

pub cut_array-returns-then-is_empty-clause-left : goal.cut_array-returns-then-is_empty-clause-left
cut_array-returns-then-is_empty-clause-left t c = grind (arith, common_steps)

pub cut_items-returns-clause-left : goal.cut_items-returns-clause-left
cut_items-returns-clause-left t c = grind (arith, common_steps)

pub cut_items-returns-clause-goes : goal.cut_items-returns-clause-goes
cut_items-returns-clause-goes t c = grind (arith, common_steps)

-- `search` finds these two only after long
pub cut_item-returns-in_ok-left-in-Class-clause-left : goal.cut_item-returns-in_ok-left-in-Class-clause-left
cut_item-returns-in_ok-left-in-Class-clause-left t c =
    class-left c.args.self.now.case.now c.args.self.now.standing.now c.args.state.now.path.items c.step.new.trail.items c.as_slice.result.now c.args.door c.at_class-at.result c.args.slot.token c.args.item.now c.in-Class.object
    (option_map marking_of c.written.result) c.in-Class.is c.in_ok-inside-in-Class.ensures.trail c.written.ensures c.as_slice.ensures.value c.at_class-at.ensures
    (home_of c.args.home) c.in_ok-left-in-Class.left c.map.result (search (rules, c.map.ensures.cases)) c.in_ok-left-in-Class.ensures.left

pub cut_item-returns-in_ok-left-in-Class-clause-goes : goal.cut_item-returns-in_ok-left-in-Class-clause-goes
cut_item-returns-in_ok-left-in-Class-clause-goes t c =
    class-goes c.args.self.now.case.now c.args.self.now.standing.now c.args.state.now.path.items c.step.new.trail.items c.as_slice.result.now c.args.door c.at_class-at.result c.args.slot.token c.args.item.now c.in-Class.object
    (option_map marking_of c.written.result) c.in-Class.is c.in_ok-inside-in-Class.ensures.trail c.written.ensures c.as_slice.ensures.value c.at_class-at.ensures
    c.args.slot.base c.args.state.now c.cut_class.new.state c.step.new.trail c.push.new.self c.pop.new.self c.pop-in-Class.new.self c.args.slot.place c.requires.base refl refl c.in_ok-push-in-Class.ensures.items
    c.in_ok-left-in-Class.ensures.goes c.pop.ensures.rest c.pop-in-Class.ensures.rest
