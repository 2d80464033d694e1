use Rattle.{std.proofs.{Common.{◌≡◌, drop, arith}, lemmas.Bool.Decides.nat_tests}, hub_store.{proofs.Edits.Steps.on_ok, specs.Layout.permission_step}}
use Rattle.hub_store.specs.Layout.{incident_step, parts_2, parts_3}
use Rattle.hub_store.proofs.Versions.ToVersion3 as three
use Rattle.hub_store.proofs.Versions.ToVersion4 as four
use Rattle.hub_store.proofs.next_version.go_next.Goals as goal

pub returns-then-from-eq2-clause-made : goal.returns-then-from-eq2-clause-made
returns-then-from-eq2-clause-made g c low high s =
    let is : c.args.from ≡ 2 = grind (arith, nat_tests, c.if-from-eq2.true) in
    let one = c.remake.ensures.made permission_step 2 (drop 1 (parts_2 s)) (three.rows_of s) (three.remakes g.S.Store s) in
    rw is (record { goes = one.goes; made = λ clean inside before. on_ok c.remake.result _ _ (three.held_as_3 _ s before.fit.0 before.fit.1) (one.made clean inside (three.tables_of_2 _ s before)) })

pub returns-then-from-eq2-clause-cause : goal.returns-then-from-eq2-clause-cause
returns-then-from-eq2-clause-cause g c low high s sound taken =
    let is : c.args.from ≡ 2 = grind (arith, nat_tests, c.if-from-eq2.true) in
    rw is (record { cause = λ clean inside before. (c.remake.ensures.cause permission_step 2 (drop 1 (parts_2 s)) (three.rows_of s) (three.remakes g.S.Store s) (three.takes g.S.Store s sound before.fit.1 taken)).cause clean inside (three.tables_of_2 _ s before) })

pub returns-else-from-eq2-clause-made : goal.returns-else-from-eq2-clause-made
returns-else-from-eq2-clause-made g c low high s =
    let is : c.args.from ≡ 3 = grind (arith, nat_tests, low, high, c.if-from-eq2.false) in
    let one = c.remake-else-from-eq2.ensures.made incident_step 3 (drop 1 (parts_3 s)) (four.rows_of s) (four.remakes g.S.Store s) in
    rw is (record { goes = one.goes; made = λ clean inside before. on_ok c.remake-else-from-eq2.result _ _ (four.held_as_4 _ s before.fit.0 before.fit.1) (one.made clean inside (four.tables_of_3 _ s before)) })

pub returns-else-from-eq2-clause-cause : goal.returns-else-from-eq2-clause-cause
returns-else-from-eq2-clause-cause g c low high s sound taken =
    let is : c.args.from ≡ 3 = grind (arith, nat_tests, low, high, c.if-from-eq2.false) in
    rw is (record { cause = λ clean inside before. (c.remake-else-from-eq2.ensures.cause incident_step 3 (drop 1 (parts_3 s)) (four.rows_of s) (four.remakes g.S.Store s) (four.takes g.S.Store s sound before.fit.1 taken)).cause clean inside (four.tables_of_3 _ s before) })
