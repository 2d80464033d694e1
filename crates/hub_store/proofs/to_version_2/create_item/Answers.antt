use Rattle.{std.proofs.Common.[], hub_store.proofs.{Edits.Steps.{made_by, fails_by}, Versions.{Causes.fails_for_reason, Creates.creates}}}
use Rattle.hub_store.{proofs.Versions.Migrating.{create_item, item_creation, makes_item}, specs.{Layout.parts_1, Parts.HoldsParts, Tables.schema_by}}
use Rattle.hub_store.specs.{Tables.item_table, inner.Beside.HoldsBeside}
use Rattle.hub_store.proofs.to_version_2.create_item.Goals as goal

pub returns-clause-empty : goal.returns-clause-empty
returns-clause-empty g c = creates g.S.Store (schema_by 1) create_item item_table item_creation _ _ _ c.run.ensures.goes c.run.ensures.ran c.run.ensures.failed

pub returns-clause-made : goal.returns-clause-made
returns-clause-made g c s = made_by g.S.Store create_item [] _ _ (HoldsParts (parts_1 s)) (HoldsBeside [] s) _ c.run.ensures.goes c.run.ensures.ran (λ mid count h. makes_item mid _ s count h)

pub returns-clause-cause : goal.returns-clause-cause
returns-clause-cause g c s = fails_by g.S.Store create_item [] _ _ (HoldsParts (parts_1 s)) _ c.run.ensures.failed (λ mid e h has other. fails_for_reason (schema_by 1) create_item item_table item_creation mid _ has.known e other h)
