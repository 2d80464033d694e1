use Rattle.std.proofs.{Common.{◌≡◌, ◌+◌, ◌++◌, [], map, take, drop, take-append-drop, sym, ap, subst, ◌∙◌, arith, rules}, lemmas.Grind.common_steps}
use Rattle.{std.proofs.lemmas.List.map-append, hub_state.specs.State.empty, hub_store.proofs.Edits.{Inside.goes_then, Steps.{makes_then, fails_then}}}
use Rattle.hub_store.proofs.{Edits.Steps.{fails_passed, goes_passed, makes_passed}, Versions.{Migrating.one_more, Standing.first_names}}
use Rattle.hub_store.specs.{Layout.tables_2, Parts.HoldsParts, Rows.naming_row_2, inner.Beside.CanName}
use Rattle.hub_store.proofs.migrate.put_back.Goals as goal

pub loop-naming-preserved : goal.loop-naming-preserved
loop-naming-preserved g c = record {
  same_reference = search rules;
  made = λ s items.
      let same = one_more naming_row_2 c.args.kept.now c.loop-naming.naming-index c.naming-item.result c.loop-naming-test.true c.naming-item.is in
      makes_then _ _ _ _ (HoldsParts (tables_2 1 items (map naming_row_2 (take c.loop-naming.naming-index c.args.kept.now)) s)) _ tt _ (c.loop-naming.invariant.made s items) (c.in_ok-put_naming_2.ensures.moved s items (map naming_row_2 (take c.loop-naming.naming-index c.args.kept.now)) (map naming_row_2 (take (c.loop-naming.naming-index + 1) c.args.kept.now)) same);
}

pub returns-in_err-put_naming_2-clause-goes : goal.returns-in_err-put_naming_2-clause-goes
returns-in_err-put_naming_2-clause-goes g c =
    let same = one_more naming_row_2 c.args.kept.now c.loop-naming.naming-index c.naming-item.result c.loop-naming-test.true c.naming-item.is in
    goes_passed c.from_residual.ensures.1 (goes_then _ _ _ _ _ (c.loop-naming.invariant.made empty []).goes (c.in_err-put_naming_2.ensures.moved empty [] _ _ same).goes)

pub returns-in_err-put_naming_2-clause-made : goal.returns-in_err-put_naming_2-clause-made
returns-in_err-put_naming_2-clause-made g c s items =
    let same = one_more naming_row_2 c.args.kept.now c.loop-naming.naming-index c.naming-item.result c.loop-naming-test.true c.naming-item.is in
    makes_passed c.from_residual.ensures.1 (goes_then _ _ _ _ _ (c.loop-naming.invariant.made s items).goes (c.in_err-put_naming_2.ensures.moved s items _ _ same).goes)

pub returns-clause-goes : goal.returns-clause-goes
returns-clause-goes g c = (c.loop-naming.invariant.made empty []).goes

pub returns-clause-made : goal.returns-clause-made
returns-clause-made g c s items =
    let all : take c.loop-naming.naming-index c.args.kept.now ≡ c.args.kept.now = grind (arith, common_steps) in
    rw all at (c.loop-naming.invariant.made s items)

pub returns-in_err-put_naming_2-clause-cause : goal.returns-in_err-put_naming_2-clause-cause
returns-in_err-put_naming_2-clause-cause g c s items can =
    let kept = c.args.kept.now in
    let at = c.loop-naming.naming-index in
    let same = one_more naming_row_2 kept at c.naming-item.result c.loop-naming-test.true c.naming-item.is in
    let all : map naming_row_2 (take (at + 1) kept) ++ map naming_row_2 (drop (at + 1) kept) ≡ map naming_row_2 kept = sym (map-append naming_row_2 (take (at + 1) kept) (drop (at + 1) kept)) ∙ ap (map naming_row_2) (take-append-drop (at + 1) kept) in
    let first = first_names naming_row_2 (naming_row_2 c.naming-item.result) (map naming_row_2 (take at kept)) (map naming_row_2 (take (at + 1) kept)) (map naming_row_2 (drop (at + 1) kept)) same (subst (CanName naming_row_2) (sym all) can) in
    fails_passed c.from_residual.ensures.1
    (fails_then (c.loop-naming.invariant.made s items) (c.in_err-put_naming_2.ensures.moved s items _ _ same).goes (c.in_err-put_naming_2.ensures.cause s items (map naming_row_2 (take at kept)) first))

pub returns-clause-cause : goal.returns-clause-cause
returns-clause-cause g c s items can = record { cause = λ clean inside before. tt }
