use Rattle.{std.proofs.Common.{◌≡◌, ◌==◌}, circle.specs.{Directory.{account_number, has_person_of}, Reads.{person_in, person_of}}}
use Rattle.{circle.specs.declared.directory.{Account.Account, Person.Person}, hub_store.proofs.LookUps.{Finding.once_numbered, Reading.read_gives}}
use Rattle.hub_store.proofs.LookUps.Whether.{one_passes}
use Rattle.hub_store.proofs.has_row.read_has_person_of.Goals as goal

pub returns-clause-read : goal.returns-clause-read
returns-clause-read g c =
    let n = c.args.person in
    read_gives _ _ (λ s found. found ≡ person_of n s.directory) (λ s found. found ≡ has_person_of n c.args.org s.directory) c.in_ok-found.found c.is_of.result c.in_ok-found.ensures.read
    (λ s sound is. one_passes person_in (λ (a : Account). a.person.number == n) (λ (p : Person). p.org == c.args.org) s.directory.accounts c.in_ok-found.found c.is_of.result (once_numbered account_number n s.directory.accounts sound.directory.accounts.numbered.0) is c.is_of.ensures)
