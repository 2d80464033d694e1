use Rattle.{std.{proofs.Common.{◌≡◌, is_some, ap, ◌∙◌}, specs.Str.bytes_eq}, circle.specs.{Directory.has_key, Reads.person_in}}
use Rattle.{circle.specs.declared.directory.Account.Account, hub_state.specs.Reads.person_by_key, hub_store.proofs.LookUps.ByNumber.some_passes}
use Rattle.hub_store.proofs.LookUps.Reading.{read_gives}
use Rattle.hub_store.proofs.has_row.read_has_key.Goals as goal

pub returns-clause-read : goal.returns-clause-read
returns-clause-read g c =
    read_gives _ _ (λ s found. found ≡ person_by_key c.args.key.now s) (λ s found. found ≡ has_key c.args.key.now s.directory) c.in_ok-found.found c.is_some.result c.in_ok-found.ensures.read
    (λ s sound is. c.is_some.ensures ∙ ap is_some is ∙ some_passes person_in (λ (a : Account). bytes_eq a.key c.args.key.now) s.directory.accounts)
