-- The places of a view description: the members and the items on the way to a value (RFC 6901 section 3).
use Rattle.std.specs.Prelude.{ℕ, ◌-◌, ◌==◌, if◌then◌else◌, [], ◌∷◌, ◌++◌, Option, Some, None, option_and_then, decimal, codes}
use Rattle.std.specs.Option.{option_map_or}
use Rattle.json.specs.Json.{Json, Items, Members}
use Rattle.json.specs.Find.{get, as_array, as_object}
use Rattle.iodef_tree.specs.Text.{Bytes, Tokens}
use Rattle.redaction.specs.declared.place.Part.{Part}
use Rattle.redaction.specs.declared.place.Step.{Step}
use Rattle.redaction.specs.declared.place.Step.TheVariants.{Member, Item, Nth}
use Rattle.redaction.specs.declared.place.Place.{Place}
use Rattle.json.specs.Json as json
use Rattle.redaction.specs.declared.place.Part.TheVariants as part

-- the name of a member of a view description
abbrev pub part_name : Part → Bytes
part_name part.Incident = codes "incident"
part_name part.Now = codes "now"
part_name part.Clearance = codes "clearance"
part_name part.Case = codes "case"
part_name part.Reader = codes "reader"
part_name part.Source = codes "source"
part_name part.Community = codes "community"
part_name part.Gates = codes "gates"
part_name part.Permissions = codes "permissions"
part_name part.Path = codes "path"
part_name part.Level = codes "level"
part_name part.Group = codes "group"
part_name part.Person = codes "person"
part_name part.Org = codes "org"
part_name part.Until = codes "until"
part_name part.Who = codes "who"
part_name part.Nominated = codes "nominated"
part_name part.Addressed = codes "addressed"
part_name part.Client = codes "client"
part_name part.Peer = codes "peer"
part_name part.Connected = codes "connected"
part_name part.Arrangement = codes "arrangement"
part_name part.Groups = codes "groups"
part_name part.ActiveGroups = codes "active_groups"
part_name part.Communities = codes "communities"

-- ---- a place

-- the place of the value that is read itself
abbrev pub here : Place
here = record { first = None; second = None; third = None; fourth = None }

-- A place as seen from one step further out. No value of a view description that is read is inside more than four
-- others.
abbrev pub inside : Step → Place → Place
inside s p = record { first = Some s; second = p.first; third = p.second; fourth = p.third }

-- ---- its JSON pointer

-- the name of the member of an object at a place, from 0 on; an empty text if there is none
abbrev pub nth_name : Members → ℕ → Bytes
nth_name json.no_members k = []
nth_name (json.member name j ms) k = if k == 0 then name else nth_name ms (k - 1)

-- the reference token of a step from a value: the name of a member, or the number of an item (RFC 6901 section 4)
abbrev pub token_of : Step → Json → Bytes
token_of (Member p) j = part_name p
token_of (Item k) j = decimal k
token_of (Nth k) j = option_map_or (λ ms. nth_name ms k) (as_object j) []

-- the item of an array at a place, if there is one
abbrev pub nth_item : Items → ℕ → Option Json
nth_item json.no_items k = None
nth_item (json.item j js) k = if k == 0 then Some j else nth_item js (k - 1)

-- the value to which a step leads, if there is one
abbrev pub value_at : Step → Json → Option Json
value_at (Member p) j = get (part_name p) j
value_at (Item k) j = option_and_then (λ js. nth_item js k) (as_array j)
value_at (Nth k) j = None

-- the tokens so far and the value that they lead to, after one step more, if there is one
abbrev pub after_step : Option Step → Tokens × Option Json → Tokens × Option Json
after_step None so_far = so_far
after_step (Some s) (ts, None) = (ts, None)
after_step (Some s) (ts, Some j) = (ts ++ token_of s j ∷ [], value_at s j)

-- the reference tokens of a place in a view description, as far as there are values
abbrev pub tokens_at : Place → Json → Tokens
tokens_at p j = (after_step p.fourth (after_step p.third (after_step p.second (after_step p.first ([], Some j))))).0
