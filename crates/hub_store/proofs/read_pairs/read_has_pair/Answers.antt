use Rattle.{std.{proofs.Common.{◌≡◌, map, is_some, ◌∙◌}, specs.Option.option_to_list}, hub_store.proofs.LookUps.{PairRows.any_alone, Reading.read_gives}}
use Rattle.hub_store.specs.inner.PairKinds.{pair_between, value_shown}
use Rattle.hub_store.proofs.read_pairs.read_has_pair.Goals as goal

pub returns-clause-read : goal.returns-clause-read
returns-clause-read g c =
    read_gives _ _ (λ s rows. rows.items ≡ map value_shown (option_to_list (pair_between c.args.kind c.args.a c.args.b s.directory))) (λ s found. found ≡ is_some (pair_between c.args.kind c.args.a c.args.b s.directory)) c.in_ok-rows.rows c.is_any.result c.in_ok-rows.ensures.read
    (λ s sound is. (rw c.deref.ensures.value at c.is_any.ensures) ∙ any_alone value_shown (pair_between c.args.kind c.args.a c.args.b s.directory) c.in_ok-rows.rows.items is)
