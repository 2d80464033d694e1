use Rattle.{std.proofs.Common.◌++◌, hub_store.{proofs.LookUps.Adding.{adds_then, adds_fail}, specs.inner.Adds.{org_edits, account_edits, community_edits}}}
use Rattle.hub_store.specs.inner.Adds.{group_edits, numbered_edits}
use Rattle.hub_store.proofs.add_numbered.add_numbered.Goals as goal

pub returns-in_err-rows-2-clause-read : goal.returns-in_err-rows-2-clause-read
returns-in_err-rows-2-clause-read g c =
    let from_orgs = adds_then _ _ _ org_edits account_edits c.args.rows c.in_ok-rows.rows _ c.in_ok-rows.ensures.read c.in_err-rows-2.ensures.read in
    adds_fail _ _ (λ s. org_edits s ++ account_edits s) numbered_edits c.args.rows c.from_residual-in_err-rows-2.result _ from_orgs c.from_residual-in_err-rows-2.ensures.1

pub returns-in_err-rows-3-clause-read : goal.returns-in_err-rows-3-clause-read
returns-in_err-rows-3-clause-read g c =
    let from_accounts = adds_then _ _ _ account_edits community_edits c.in_ok-rows.rows c.in_ok-rows-2.rows _ c.in_ok-rows-2.ensures.read c.in_err-rows-3.ensures.read in
    let from_orgs = adds_then _ _ _ org_edits (λ s. account_edits s ++ community_edits s) c.args.rows c.in_ok-rows.rows _ c.in_ok-rows.ensures.read from_accounts in
    adds_fail _ _ (λ s. org_edits s ++ (account_edits s ++ community_edits s)) numbered_edits c.args.rows c.from_residual-in_err-rows-3.result _ from_orgs c.from_residual-in_err-rows-3.ensures.1

pub returns-clause-read : goal.returns-clause-read
returns-clause-read g c =
    let from_communities = adds_then _ _ _ community_edits group_edits c.in_ok-rows-2.rows c.in_ok-rows-3.rows c.add_groups.result c.in_ok-rows-3.ensures.read c.add_groups.ensures.read in
    let from_accounts = adds_then _ _ _ account_edits (λ s. community_edits s ++ group_edits s) c.in_ok-rows.rows c.in_ok-rows-2.rows c.add_groups.result c.in_ok-rows-2.ensures.read from_communities in
    adds_then _ _ _ org_edits (λ s. account_edits s ++ (community_edits s ++ group_edits s)) c.args.rows c.in_ok-rows.rows c.add_groups.result c.in_ok-rows.ensures.read from_accounts
