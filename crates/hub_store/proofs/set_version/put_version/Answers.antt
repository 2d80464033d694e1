use Rattle.{std.proofs.Common.{[], ◌∷◌}, hub_store.proofs.{Edits.Steps.{made_by, fails_by}, Rows.Texts.put_version, Versions.VersionCauses.put_fails}}
use Rattle.hub_store.{proofs.Versions.VersionCauses.puts_version, specs.{Layout.{hub_part, under}, Parts.HoldsParts}}
use Rattle.hub_store.proofs.set_version.put_version.Goals as goal

pub returns-clause-made : goal.returns-clause-made
returns-clause-made g c ps beside =
    made_by g.S.Store put_version _ _ _ (HoldsParts (hub_part [] ∷ ps)) (HoldsParts (under c.args.version ps)) _ c.run.ensures.goes (λ clean inside. rw c.params-to_sql.ensures at (c.run.ensures.ran clean inside)) (λ mid count h held. puts_version ps beside c.args.version mid _ count h held)

pub returns-clause-cause : goal.returns-clause-cause
returns-clause-cause g c ps beside =
    fails_by g.S.Store put_version _ _ _ (HoldsParts (hub_part [] ∷ ps)) _ (λ clean inside. rw c.params-to_sql.ensures at (c.run.ensures.failed clean inside)) (λ mid e h held other. put_fails ps beside c.args.version mid _ e h held other)
