use Rattle.{std.proofs.Common.{◌≡◌, ◌==◌, is_some, ap, ◌∙◌}, circle.specs.{Directory.has_person, Reads.{person_in, person_of}}}
use Rattle.{circle.specs.declared.directory.Account.Account, hub_store.proofs.LookUps.{ByNumber.some_passes, Reading.read_gives}}
use Rattle.hub_store.proofs.find_numbered.read_has_person.Goals as goal

pub returns-clause-read : goal.returns-clause-read
returns-clause-read g c =
    read_gives _ _ (λ s found. found ≡ person_of c.args.number s.directory) (λ s found. found ≡ has_person c.args.number s.directory) c.in_ok-found.found c.is_some.result c.in_ok-found.ensures.read
    (λ s sound is. c.is_some.ensures ∙ ap is_some is ∙ some_passes person_in (λ (a : Account). a.person.number == c.args.number) s.directory.accounts)
