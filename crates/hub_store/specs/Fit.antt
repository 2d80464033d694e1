-- The limits that each row keeps beside soundness: those of its texts and its level. Then what SQLite takes as one row.
use Rattle.std.specs.Prelude.{◌<◌, ◌≤◌, ◌+◌, ◌^◌, ◌≡◌, nat_lt, ℕ, Bool, true, false, ◌∷◌, length, sum_by, None, IsTrue}
use Rattle.std.specs.List.{AllByRecursion}
use Rattle.std.specs.Str.{IsUtf8}
use Rattle.sqlite_value.specs.declared.value.Value.TheVariants.{Null}
use Rattle.sqlite_value.specs.Order.{Row, bytes}
use Rattle.circle.specs.Texts.{is_name, is_releasability}
use Rattle.circle.specs.declared.directory.Org.{Org}
use Rattle.circle.specs.declared.directory.Account.{Account}
use Rattle.circle.specs.declared.directory.Community.{Community}
use Rattle.circle.specs.declared.directory.Group.{Group}
use Rattle.hub_state.specs.State.{State}
use Rattle.hub_state.specs.declared.state.Incident.{Incident}
use Rattle.hub_state.specs.declared.state.Gate.{Gate}
use Rattle.hub_state.specs.declared.state.Permission.{Permission}
use Rattle.hub_store.specs.Rows.{document_text, named_row, permission_row}
use Rattle.hub_store.specs.Items.{Item, items_of, item_row}

-- the name of an organisation keeps its limit
abbrev pub FitOrg : Org → Type 0
FitOrg o = IsTrue (is_name o.name)

-- the name of a person keeps its limit
abbrev pub FitAccount : Account → Type 0
FitAccount a = IsTrue (is_name a.person.name)

-- the name of a community keeps its limit
abbrev pub FitCommunity : Community → Type 0
FitCommunity c = IsTrue (is_name c.name)

-- the name and the releasability of a group keep their limits
abbrev pub FitGroup : Group → Type 0
FitGroup g = IsTrue (is_name g.name) × IsTrue (is_releasability g.releasability)

-- the level of a gate fits a byte
abbrev pub FitGate : Gate → Type 0
FitGate g = g.gate.level < 256

-- the document is UTF-8 as one text, as version 1 has it
abbrev pub FitIncident : Incident → Type 0
FitIncident i = IsUtf8 (document_text i.document)

-- The rows of a state keep the limits of names, releasabilities and levels. That keys have 32 bytes is not carried.
pub record IsFit (s : State) : Type 0 where
  pub orgs : AllByRecursion FitOrg s.directory.orgs
  pub accounts : AllByRecursion FitAccount s.directory.accounts
  pub communities : AllByRecursion FitCommunity s.directory.communities
  pub groups : AllByRecursion FitGroup s.directory.groups
  pub gates : AllByRecursion FitGate s.gates

-- the permission has no end, as before version 3
abbrev pub IsEndless : Permission → Type 0
IsEndless x = x.permission.until ≡ None

-- no permission has an end, as before version 3
abbrev pub AreEndless : State → Type 0
AreEndless s = AllByRecursion IsEndless s.permissions

-- the incident names no community, as before version 4
abbrev pub NamesNoCommunity : Incident → Type 0
NamesNoCommunity i = i.naming.community ≡ None

-- no incident names a community, as before version 4
abbrev pub NoneNamesCommunity : State → Type 0
NoneNamesCommunity s = AllByRecursion NamesNoCommunity s.incidents

-- the second, and the first too if the test holds
abbrev pub and_if : Bool → Type 0 → Type 0 → Type 0
and_if true more rest = rest × more
and_if false more rest = rest

-- What the rows of a version keep beside soundness. In version 1 the texts of the documents are UTF-8, before version 3
-- no permission has an end, and before version 4 no incident names a community.
abbrev pub FitAs : ℕ → State → Type 0
FitAs v s =
    and_if (nat_lt v 2) (AllByRecursion FitIncident s.incidents)
    (and_if (nat_lt v 3) (AreEndless s) (and_if (nat_lt v 4) (NoneNamesCommunity s) (IsFit s)))

-- ---- what a store takes

-- the row has at most a billion bytes, with 18 for each value (SQLite's limit on the length of a row)
abbrev pub IsShort : Row → Type 0
IsShort row = sum_by (λ v. 18 + length (bytes v)) row ≤ 10 ^ 9

-- SQLite takes the row of a line, under a rowid
abbrev pub ShortItem : Item → Type 0
ShortItem x = IsShort (Null ∷ item_row x)

-- SQLite takes the row of an incident, and its ident is UTF-8
abbrev pub ShortNaming : Incident → Type 0
ShortNaming i = IsUtf8 i.naming.ident × IsShort (named_row i)

-- SQLite takes the row of a permission, under a rowid
abbrev pub ShortPermission : Permission → Type 0
ShortPermission x = IsShort (Null ∷ permission_row x)

-- SQLite takes the rows that a migration puts: each line, each incident with its community, and each permission. No
-- lemma bounds the bytes of a line, of an ident or of a path.
pub record AreTaken (s : State) : Type 0 where
  pub items : AllByRecursion ShortItem (items_of s)
  pub incidents : AllByRecursion ShortNaming s.incidents
  pub permissions : AllByRecursion ShortPermission s.permissions
