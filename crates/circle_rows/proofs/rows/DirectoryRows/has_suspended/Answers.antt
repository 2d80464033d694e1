use Rattle.{std.proofs.Common.{ap, ◌∙◌, not}, circle.{proofs.Lookup.found_with, specs.Directory.{Directory, has_suspended, account_number}}}
use Rattle.circle.specs.{Stretches.numbered, declared.directory.Account.Account}
use Rattle.circle_rows.proofs.rows.DirectoryRows.has_suspended.Goals as goal

pub returns : goal.returns
returns c =
    c.is_any_suspended.ensures
    ∙ (found_with (numbered account_number) (0, c.args.number) (λ (x : Account). not x.person.active) c.self.inside.sets.accounts.items _ _ c.as_slice.ensures.value c.rows_of_key.ensures c.self.invariant.accounts
    ∙ ap (λ (d : Directory). has_suspended c.args.number d) c.self.view_is)
