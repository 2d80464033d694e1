use Rattle.{std.proofs.{Common.{◌≡◌, [], arith}, lemmas.Bool.Decides.nat_tests}, hub_state.specs.State.empty, hub_store.proofs.Versions.Remaking.made_bare}
use Rattle.hub_store.specs.Layout.{permission_step, incident_step, bare_by}
use Rattle.hub_store.proofs.Versions.ToVersion3 as three
use Rattle.hub_store.proofs.Versions.ToVersion4 as four
use Rattle.hub_store.proofs.next_version.make_next.Goals as goal

pub returns-then-from-eq2-clause-made : goal.returns-then-from-eq2-clause-made
returns-then-from-eq2-clause-made g c low high =
    let is : c.args.from ≡ 2 = grind (arith, nat_tests, c.if-from-eq2.true) in
    let facts = three.makes g.S.Store [] empty in
    rw is (made_bare _ _ permission_step (bare_by 2) _ (c.make_anew.ensures.made permission_step (bare_by 2) facts) (c.make_anew.ensures.cause permission_step (bare_by 2) facts))

pub returns-else-from-eq2-clause-made : goal.returns-else-from-eq2-clause-made
returns-else-from-eq2-clause-made g c low high =
    let is : c.args.from ≡ 3 = grind (arith, nat_tests, low, high, c.if-from-eq2.false) in
    let facts = four.makes g.S.Store [] empty in
    rw is (made_bare _ _ incident_step (bare_by 3) _ (c.make_anew-else-from-eq2.ensures.made incident_step (bare_by 3) facts) (c.make_anew-else-from-eq2.ensures.cause incident_step (bare_by 3) facts))
