use Rattle.{std.{proofs.Common.{◌++◌, Ok, rules, ap, ◌∙◌, refl}, specs.List.filter_map}, hub_store.proofs.LookUps.Reading.{read_then, read_gives}}
use Rattle.hub_store.{proofs.LookUps.Stepping.{more_found, all_found}, specs.inner.ShownPairs.{community_if_any, communities_in}}
use Rattle.hub_store.proofs.find_joined_communities.read_joined_communities.Goals as goal

pub loop-number-init : goal.loop-number-init
loop-number-init g c = record {
  same_reference = search rules;
  read = read_gives _ _ _ _ c.in_ok-numbers.numbers tt c.in_ok-numbers.ensures.read (λ s sound is.
      ap (λ l. l ++ filter_map (community_if_any s.directory) c.deref-number-items.result.now) c.new-communities.ensures.items
      ∙ ap (filter_map (community_if_any s.directory)) (c.deref-number-items.ensures.value ∙ is));
}

pub loop-number-preserved : goal.loop-number-preserved
loop-number-preserved g c = record {
  same_reference = search rules;
  read = read_gives _ _ _ _ c.in_ok-community.community tt
      (read_then _ _ _ _ _ tt (Ok c.in_ok-community.community) c.loop-number.invariant.read c.in_ok-community.ensures.read)
      (λ s sound both. more_found (community_if_any s.directory) c.loop-number.communities.items _ c.deref-number-items.result.now
      c.loop-number.number-index _ _ c.in_ok-community.community (communities_in c.args.org s.directory) c.loop-number-test.true refl both.1
      c.in_ok-push_joined.ensures both.0);
}

pub returns-clause-read : goal.returns-clause-read
returns-clause-read g c =
    read_gives _ _ _ _ tt c.loop-number.communities c.loop-number.invariant.read
    (λ s sound so_far. all_found (community_if_any s.directory) c.loop-number.communities.items c.deref-number-items.result.now c.loop-number.number-index
    (communities_in c.args.org s.directory) c.loop-number-test.false so_far)
