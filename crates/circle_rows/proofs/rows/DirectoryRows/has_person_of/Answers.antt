use Rattle.{std.proofs.Common.{◌==◌, ap, ◌∙◌}, circle.{proofs.Lookup.found_with, specs.Directory.{Directory, has_person_of, account_number}}}
use Rattle.circle.specs.{Stretches.numbered, declared.directory.Account.Account}
use Rattle.circle_rows.proofs.rows.DirectoryRows.has_person_of.Goals as goal

pub returns : goal.returns
returns c =
    c.is_any_of.ensures
    ∙ (found_with (numbered account_number) (0, c.args.number) (λ (x : Account). x.person.org == c.args.org) c.self.inside.sets.accounts.items _ _ c.as_slice.ensures.value c.rows_of_key.ensures c.self.invariant.accounts
    ∙ ap (λ (d : Directory). has_person_of c.args.number c.args.org d) c.self.view_is)
