use Rattle.{std.proofs.Common.{◌≡◌, map, ◌∙◌}, sqlite_trees.proofs.ListLemmas.map-map, hub_store.proofs.LookUps.{Adding.adds_all, Reading.read_made}}
use Rattle.hub_store.specs.{Rows.arrangement_pair, inner.{Adds.{Adds, pair_shown, arrangement_shown, arrangement_edit, arrangement_edits}, PairKinds.pairs_of}}
use Rattle.hub_store.specs.declared.pair_kind.PairKind.TheVariants as kind
use Rattle.hub_store.proofs.add_pairs.add_arrangements.Goals as goal

pub returns-clause-read : goal.returns-clause-read
returns-clause-read g c =
    read_made _ _ (λ s shown. shown.items ≡ map pair_shown (pairs_of kind.Arrangement s.directory)) (Adds arrangement_edits c.args.rows) c.in_ok-shown.shown c.put_shown.result c.in_ok-shown.ensures.read
    (λ s sound is. adds_all arrangement_shown arrangement_edit s.directory.arrangements c.in_ok-shown.shown.items c.args.rows c.put_shown.result (is ∙ map-map pair_shown arrangement_pair s.directory.arrangements) (rw c.deref.ensures.value at c.put_shown.ensures))
