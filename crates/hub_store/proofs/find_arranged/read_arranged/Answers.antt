use Rattle.{std.{proofs.Common.{◌≡◌, map, ◌∙◌}, specs.Option.option_to_list}, circle.specs.Reads.arranged, hub_store.proofs.LookUps.DirectorySets.arranged_rows}
use Rattle.hub_store.{proofs.LookUps.{PairRows.reads_alone, Reading.read_made}, specs.inner.{PairKinds.{pair_between, value_shown}, ShownPairs.handling_shown}}
use Rattle.hub_store.specs.declared.pair_kind.PairKind.TheVariants as kind
use Rattle.hub_store.proofs.find_arranged.read_arranged.Goals as goal

pub returns-clause-read : goal.returns-clause-read
returns-clause-read g c =
    let source = c.args.source in
    let org = c.args.org in
    read_made _ _ (λ s rows. rows.items ≡ map value_shown (option_to_list (pair_between kind.Arrangement source org s.directory))) (λ s found. found ≡ arranged source org s.directory) c.in_ok-rows.rows c.first.result c.in_ok-rows.ensures.read
    (λ s sound is. reads_alone handling_shown (arranged source org s.directory) c.in_ok-rows.rows.items c.first.result (is ∙ arranged_rows source org s.directory) (rw c.deref.ensures.value at c.first.ensures))
