use Rattle.{std.proofs.Common.{◌≡◌, map, ◌∙◌}, sqlite_trees.proofs.ListLemmas.map-map, hub_store.proofs.LookUps.{Adding.adds_all, Reading.read_made}}
use Rattle.hub_store.specs.{Rows.connection_pair, inner.{Adds.{Adds, pair_shown, connection_shown, connection_edit, connection_edits}, PairKinds.pairs_of}}
use Rattle.hub_store.specs.declared.pair_kind.PairKind.TheVariants as kind
use Rattle.hub_store.proofs.add_pairs.add_connections.Goals as goal

pub returns-clause-read : goal.returns-clause-read
returns-clause-read g c =
    read_made _ _ (λ s shown. shown.items ≡ map pair_shown (pairs_of kind.Connection s.directory)) (Adds connection_edits c.args.rows) c.in_ok-shown.shown c.put_shown.result c.in_ok-shown.ensures.read
    (λ s sound is. adds_all connection_shown connection_edit s.directory.connections c.in_ok-shown.shown.items c.args.rows c.put_shown.result (is ∙ map-map pair_shown connection_pair s.directory.connections) (rw c.deref.ensures.value at c.put_shown.ensures))
