use Rattle.{std.proofs.Common.{ap, ◌∙◌}, circle.{proofs.Lookup.found_with, specs.{Directory.{Directory, has_nominated, account_number}, Stretches.numbered}}}
use Rattle.circle.specs.declared.directory.Account.{Account}
use Rattle.circle_rows.proofs.rows.DirectoryRows.has_nominated.Goals as goal

pub returns : goal.returns
returns c =
    c.is_any_nominated.ensures
    ∙ (found_with (numbered account_number) (0, c.args.number) (λ (x : Account). x.person.nominated) c.self.inside.sets.accounts.items _ _ c.as_slice.ensures.value c.rows_of_key.ensures c.self.invariant.accounts
    ∙ ap (λ (d : Directory). has_nominated c.args.number d) c.self.view_is)
