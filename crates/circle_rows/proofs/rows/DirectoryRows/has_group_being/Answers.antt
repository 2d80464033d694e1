use Rattle.{std.proofs.Common.{ap, ◌∙◌}, circle.{proofs.Lookup.found_with, specs.Directory.{Directory, has_group_being, group_number, same_flag}}}
use Rattle.circle.specs.{Stretches.numbered, declared.directory.Group.Group}
use Rattle.circle_rows.proofs.rows.DirectoryRows.has_group_being.Goals as goal

pub returns : goal.returns
returns c =
    c.is_any_being.ensures
    ∙ (found_with (numbered group_number) (0, c.args.number) (λ (x : Group). same_flag c.args.active x.active) c.self.inside.sets.groups.items _ _ c.as_slice.ensures.value c.rows_of_key.ensures c.self.invariant.groups
    ∙ ap (λ (d : Directory). has_group_being c.args.number c.args.active d) c.self.view_is)
