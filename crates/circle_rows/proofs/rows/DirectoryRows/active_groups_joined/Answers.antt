use Rattle.{std.{proofs.{Common.{rules, ℕ, true, ap, ◌∙◌}, lemmas.Fn.filter_same}, specs.List.filter}, circle.specs.Directory.has_group_being}
use Rattle.circle_rows.proofs.rows.DirectoryRows.active_groups_joined.Goals as goal

pub returns : goal.returns
returns c =
    let is_active = λ (n : ℕ). has_group_being n true c.args.self.now in
    filter_same _ is_active _ (λ f x b k. search rules) _ _ c.retain.ensures.filtered ∙ ap (filter is_active) c.in_ok-groups.ensures
