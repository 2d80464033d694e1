-- What a new store holds: one organisation and its administrator.
use Rattle.std.specs.Prelude.{ℕ, List, [], ◌∷◌, true, false, codes}
use Rattle.iodef_tree.specs.Text.{Bytes}
use Rattle.circle.specs.declared.directory.Org.{Org}
use Rattle.circle.specs.declared.directory.Account.{Account}
use Rattle.circle.specs.declared.directory.Role.TheVariants.{Administrator}
use Rattle.circle.specs.declared.command.RowEdit.TheVariants.{PutOrg, PutAccount}
use Rattle.hub_core.specs.State.{State, empty}
use Rattle.hub_state.specs.declared.edit.Edit.{Edit}
use Rattle.hub_state.specs.declared.edit.Edit.TheVariants.{Directory}
use Rattle.circle.specs.Directory as circle

-- organisation 1, with this name
abbrev pub first_org : Bytes → Org
first_org name = record { number = 1; name = name }

-- person 1 of organisation 1: its active administrator `admin`, with this key
abbrev pub first_account : List ℕ → Account
first_account key = record {
  person = record { number = 1; org = 1; name = codes "admin"; role = Administrator; active = true; nominated = false };
  key = key;
}

-- the edits that put these two rows
abbrev pub first_edits : Bytes → List ℕ → List Edit
first_edits name key = Directory (PutOrg (first_org name)) ∷ Directory (PutAccount (first_account key)) ∷ []

-- the state with only these two rows
abbrev pub first_state : Bytes → List ℕ → State
first_state name key = record empty {
  directory = record circle.empty { orgs = first_org name ∷ []; accounts = first_account key ∷ [] };
}
