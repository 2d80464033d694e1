use Rattle.{std.proofs.Common.◌++◌, hub_store.{proofs.LookUps.Adding.{adds_then, adds_fail}, specs.inner.Adds.{client_edits, membership_edits}}}
use Rattle.hub_store.specs.inner.Adds.{connection_edits, group_member_edits, arrangement_edits, pair_edits}
use Rattle.hub_store.proofs.add_pairs.add_pairs.Goals as goal

pub returns-in_err-rows-2-clause-read : goal.returns-in_err-rows-2-clause-read
returns-in_err-rows-2-clause-read g c =
    let from_clients = adds_then _ _ _ client_edits membership_edits c.args.rows c.in_ok-rows.rows _ c.in_ok-rows.ensures.read c.in_err-rows-2.ensures.read in
    adds_fail _ _ (λ s. client_edits s ++ membership_edits s) pair_edits c.args.rows c.from_residual-in_err-rows-2.result _ from_clients c.from_residual-in_err-rows-2.ensures.1

pub returns-in_err-rows-3-clause-read : goal.returns-in_err-rows-3-clause-read
returns-in_err-rows-3-clause-read g c =
    let from_memberships = adds_then _ _ _ membership_edits connection_edits c.in_ok-rows.rows c.in_ok-rows-2.rows _ c.in_ok-rows-2.ensures.read c.in_err-rows-3.ensures.read in
    let from_clients = adds_then _ _ _ client_edits (λ s. membership_edits s ++ connection_edits s) c.args.rows c.in_ok-rows.rows _ c.in_ok-rows.ensures.read from_memberships in
    adds_fail _ _ (λ s. client_edits s ++ (membership_edits s ++ connection_edits s)) pair_edits c.args.rows c.from_residual-in_err-rows-3.result _ from_clients c.from_residual-in_err-rows-3.ensures.1

pub returns-in_err-rows-4-clause-read : goal.returns-in_err-rows-4-clause-read
returns-in_err-rows-4-clause-read g c =
    let from_connections = adds_then _ _ _ connection_edits group_member_edits c.in_ok-rows-2.rows c.in_ok-rows-3.rows _ c.in_ok-rows-3.ensures.read c.in_err-rows-4.ensures.read in
    let from_memberships = adds_then _ _ _ membership_edits (λ s. connection_edits s ++ group_member_edits s) c.in_ok-rows.rows c.in_ok-rows-2.rows _ c.in_ok-rows-2.ensures.read from_connections in
    let from_clients = adds_then _ _ _ client_edits (λ s. membership_edits s ++ (connection_edits s ++ group_member_edits s)) c.args.rows c.in_ok-rows.rows _ c.in_ok-rows.ensures.read from_memberships in
    adds_fail _ _ (λ s. client_edits s ++ (membership_edits s ++ (connection_edits s ++ group_member_edits s))) pair_edits c.args.rows c.from_residual-in_err-rows-4.result _ from_clients c.from_residual-in_err-rows-4.ensures.1

pub returns-clause-read : goal.returns-clause-read
returns-clause-read g c =
    let from_group_members = adds_then _ _ _ group_member_edits arrangement_edits c.in_ok-rows-3.rows c.in_ok-rows-4.rows c.add_arrangements.result c.in_ok-rows-4.ensures.read c.add_arrangements.ensures.read in
    let from_connections = adds_then _ _ _ connection_edits (λ s. group_member_edits s ++ arrangement_edits s) c.in_ok-rows-2.rows c.in_ok-rows-3.rows c.add_arrangements.result c.in_ok-rows-3.ensures.read from_group_members in
    let from_memberships = adds_then _ _ _ membership_edits (λ s. connection_edits s ++ (group_member_edits s ++ arrangement_edits s)) c.in_ok-rows.rows c.in_ok-rows-2.rows c.add_arrangements.result c.in_ok-rows-2.ensures.read from_connections in
    adds_then _ _ _ client_edits (λ s. membership_edits s ++ (connection_edits s ++ (group_member_edits s ++ arrangement_edits s))) c.args.rows c.in_ok-rows.rows c.add_arrangements.result c.in_ok-rows.ensures.read from_memberships
