use Rattle.{std.proofs.Common.{ap, ◌∙◌}, circle.{proofs.Lookup.found_with, specs.Directory.{Directory, has_extender, group_member_key}}}
use Rattle.circle.specs.declared.directory.GroupMember.{GroupMember}
use Rattle.circle_rows.proofs.rows.DirectoryRows.has_extender.Goals as goal

pub returns : goal.returns
returns c =
    c.may_any_extend.ensures
    ∙ (found_with (group_member_key) (c.args.group, c.args.org) (λ (x : GroupMember). x.extend) c.self.inside.sets.group_members.items _ _ c.as_slice.ensures.value c.rows_of_key.ensures c.self.invariant.group_members
    ∙ ap (λ (d : Directory). has_extender c.args.group c.args.org d) c.self.view_is)
