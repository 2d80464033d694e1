-- What a new key leaves as it was.
use Rattle.std.specs.Prelude.{◌≡◌, ℕ, not, ◌==◌, List, map, filter}
use Rattle.circle.specs.declared.directory.Account.{Account}
use Rattle.circle.specs.Directory.{Directory}

-- the accounts of all persons but this one
abbrev pub accounts_but : ℕ → Directory → List Account
accounts_but person d = filter (λ (a : Account). not (a.person.number == person)) d.accounts

-- Nothing but the key of this person is changed: every row of another person and every row of another set is as
-- before, and so is all else of the person's own row.
pub record ChangesKeyOf (person : ℕ) (before after : Directory) : Type 0 where
  pub others : accounts_but person after ≡ accounts_but person before
  pub persons : map (λ (a : Account). a.person) after.accounts ≡ map (λ (a : Account). a.person) before.accounts
  pub rest : record after { accounts = before.accounts } ≡ before
