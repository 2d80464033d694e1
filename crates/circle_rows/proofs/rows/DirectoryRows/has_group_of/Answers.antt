use Rattle.{std.proofs.Common.{◌==◌, ap, ◌∙◌}, circle.{proofs.Lookup.found_with, specs.{Directory.{Directory, has_group_of, group_number}, Stretches.numbered}}}
use Rattle.circle.specs.declared.directory.Group.{Group}
use Rattle.circle_rows.proofs.rows.DirectoryRows.has_group_of.Goals as goal

pub returns : goal.returns
returns c =
    c.is_any_owned.ensures
    ∙ (found_with (numbered group_number) (0, c.args.number) (λ (x : Group). x.owner == c.args.owner) c.self.inside.sets.groups.items _ _ c.as_slice.ensures.value c.rows_of_key.ensures c.self.invariant.groups
    ∙ ap (λ (d : Directory). has_group_of c.args.number c.args.owner d) c.self.view_is)
