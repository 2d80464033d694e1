use Rattle.{std.proofs.Common.{ap, ◌∙◌}, serde_json.{proofs.Views.members_view-insert_entry, specs.{Data.put, View.{view, members_view}}}}
use Rattle.iodef_tree.proofs.value.put_member.Goals as goal

pub returns : goal.returns
returns c =
    let old = c.args.made.now.entries in
    ap members_view c.in_ok-insert.ensures.entries
    ∙ members_view-insert_entry old c.in_ok-name.name c.args.value
    ∙ ap (λ n. put n (view c.args.value) (members_view old)) (c.in_ok-name.ensures.ok ∙ c.as_str.ensures)
