use Rattle.{std.{proofs.Common.{◌++◌, Ok, rules, refl, ap, ◌∙◌}, specs.List.filter_map}, hub_store.proofs.LookUps.{GroupSets.groups_are, Reading.read_then}}
use Rattle.hub_store.{proofs.LookUps.{Reading.read_gives, Stepping.{more_groups, all_found}}, specs.inner.ShownPairs.{group_if_any, groups_in}}
use Rattle.hub_store.proofs.find_groups.read_groups.Goals as goal

pub loop-member-init : goal.loop-member-init
loop-member-init g c = record {
  same_reference = search rules;
  read = read_gives _ _ _ _ c.in_ok-members.members tt c.in_ok-members.ensures.read (λ s sound is.
      ap (λ l. l ++ filter_map (group_if_any s.directory) c.deref-member-items.result.now) c.new-groups.ensures.items
      ∙ (ap (filter_map (group_if_any s.directory)) (c.deref-member-items.ensures.value ∙ is) ∙ groups_are c.args.org s.directory));
}

pub loop-member-preserved : goal.loop-member-preserved
loop-member-preserved g c = record {
  same_reference = search rules;
  read = read_gives _ _ _ _ c.in_ok-group.group tt (read_then _ _ _ _ _ tt (Ok c.in_ok-group.group) c.loop-member.invariant.read c.in_ok-group.ensures.read)
      (λ s sound both. more_groups s.directory c.loop-member.groups.items _ c.deref-member-items.result.now c.loop-member.member-index _ _ c.in_ok-group.group (groups_in c.args.org s.directory) c.loop-member-test.true refl both.1 c.in_ok-push_joined.ensures both.0);
}

pub returns-clause-read : goal.returns-clause-read
returns-clause-read g c =
    read_gives _ _ _ _ tt c.loop-member.groups c.loop-member.invariant.read
    (λ s sound so_far. all_found (group_if_any s.directory) c.loop-member.groups.items c.deref-member-items.result.now c.loop-member.member-index (groups_in c.args.org s.directory) c.loop-member-test.false so_far)
