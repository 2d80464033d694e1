-- The route of a method and a target.
use Rattle.std.specs.Prelude.{ℕ, List, [], ◌∷◌, length, fold, Bool, true, false, ◌==◌, ◌&&◌, nat_lt, if◌then◌else◌, Option, Some, None, is_none, option_map}
use Rattle.std.specs.Prelude.{Result, Ok, Err, codes}
use Rattle.std.specs.List.{before_first, after_first, position_or_len}
use Rattle.std.specs.Str.{bytes_eq}
use Rattle.matchit.specs.Rows.{RowsOf}
use Rattle.matchit.specs.Seek.{first}
use Rattle.matchit.specs.Route.{Scan, parse_route}
use Rattle.matchit.specs.Router.{RouteOf, route_from, nearest}
use Rattle.matchit.specs.Order.{placed}
use Rattle.matchit.specs.declared.error.InsertError.{InsertError}
use Rattle.hub_http.specs.declared.request_fault.RequestFault.TheVariants.{NoRoute}
use Rattle.hub_http.specs.declared.routes.Verb.{Verb}
use Rattle.hub_http.specs.declared.routes.Resource.{Resource}
use Rattle.hub_http.specs.declared.routes.Route.{Route}
use Rattle.hub_http.specs.Outcome.{Read, ◌>>=◌}
use Rattle.hub_http.specs.Spelling.{number}
use Rattle.hub_http.specs.declared.routes.Verb.TheVariants as verb
use Rattle.hub_http.specs.declared.routes.CircleChange.TheVariants as circle
use Rattle.hub_http.specs.declared.routes.PartChange.TheVariants as part
use Rattle.hub_http.specs.declared.routes.IncidentChange.TheVariants as incident
use Rattle.hub_http.specs.declared.routes.Resource.TheVariants as resource
use Rattle.hub_http.specs.declared.routes.Route.TheVariants as route

-- ---- the paths

-- the patterns of the paths, each with the resource that it names
abbrev pub entries : List (List ℕ × Resource)
entries =
    (codes "/me", resource.Me)
    ∷ (codes "/me/groups", resource.MyGroups)
    ∷ (codes "/me/communities", resource.MyCommunities)
    ∷ (codes "/me/addressed", resource.MyAddressed)
    ∷ (codes "/me/key", resource.OfCircle circle.NewKey)
    ∷ (codes "/incidents", resource.Incidents)
    ∷ (codes "/incidents/{n}", resource.Incident)
    ∷ (codes "/incidents/{n}/sharing", resource.Sharing)
    ∷ (codes "/incidents/{n}/gate", resource.OfIncident incident.Redistribute)
    ∷ (codes "/incidents/{n}/address", resource.OfIncident incident.Address)
    ∷ (codes "/incidents/{n}/unaddress", resource.OfIncident incident.Unaddress)
    ∷ (codes "/incidents/{n}/grant", resource.OfIncident incident.Grant)
    ∷ (codes "/incidents/{n}/withdraw", resource.OfIncident incident.Withdraw)
    ∷ (codes "/search", resource.Search)
    ∷ (codes "/explain", resource.Explain)
    ∷ (codes "/orgs", resource.OfCircle circle.AddOrg)
    ∷ (codes "/orgs/{n}/clients", resource.OfPart part.AddClient)
    ∷ (codes "/orgs/{n}/clients/remove", resource.OfPart part.RemoveClient)
    ∷ (codes "/persons", resource.OfCircle circle.AddPerson)
    ∷ (codes "/persons/{n}/suspend", resource.OfPart part.SuspendPerson)
    ∷ (codes "/persons/{n}/nominate", resource.OfPart part.Nominate)
    ∷ (codes "/persons/{n}/unnominate", resource.OfPart part.Unnominate)
    ∷ (codes "/communities", resource.OfCircle circle.AddCommunity)
    ∷ (codes "/communities/{n}/join", resource.OfPart part.Join)
    ∷ (codes "/communities/{n}/leave", resource.OfPart part.Leave)
    ∷ (codes "/communities/{n}/link", resource.OfPart part.Link)
    ∷ (codes "/communities/{n}/unlink", resource.OfPart part.Unlink)
    ∷ (codes "/groups", resource.OfCircle circle.NewGroup)
    ∷ (codes "/groups/{n}/add", resource.OfPart part.GroupAdd)
    ∷ (codes "/groups/{n}/remove", resource.OfPart part.GroupRemove)
    ∷ (codes "/groups/{n}/active", resource.OfPart part.GroupActive)
    ∷ (codes "/arrangements", resource.OfCircle circle.Arrange)
    ∷ (codes "/arrangements/cancel", resource.OfCircle circle.CancelArrange)
    ∷ []

-- the rows with this pattern added if it is well formed
abbrev pub with_scan : Result Scan InsertError → Resource → RowsOf (RouteOf Resource) → RowsOf (RouteOf Resource)
with_scan (Ok s) value rows = placed (s.pattern, route_from s value) rows
with_scan (Err e) value rows = rows

-- the rows with one more entry
abbrev pub with_entry : RowsOf (RouteOf Resource) → List ℕ × Resource → RowsOf (RouteOf Resource)
with_entry rows entry = with_scan (parse_route entry.0) entry.1 rows

-- the pattern is well formed and conflicts with no row
abbrev pub has_room : Result Scan InsertError → RowsOf (RouteOf Resource) → Bool
has_room (Ok s) rows = is_none (nearest s.pattern rows)
has_room (Err e) rows = false

-- each entry in turn is well formed and conflicts with none before it
abbrev pub take_all : RowsOf (RouteOf Resource) → List (List ℕ × Resource) → Bool
take_all rows [] = true
take_all rows (entry ∷ rest) = has_room (parse_route entry.0) rows && take_all (with_entry rows entry) rest

-- the rows of all patterns
unfoldable pub table : RowsOf (RouteOf Resource)
table = fold with_entry [] entries

-- the resource that a path names, if it names one
abbrev pub resource_at : List ℕ → Option Resource
resource_at path = option_map (λ found. found.value) (first table path)

-- ---- methods and targets

-- the method of a name; names are compared with their case (RFC 9110 section 9.1)
unfoldable pub verb_of : List ℕ → Verb
verb_of name =
    if bytes_eq name (codes "GET") then verb.Get
    else if bytes_eq name (codes "POST") then verb.Post
    else if bytes_eq name (codes "PUT") then verb.Put
    else verb.Other

-- the byte is a question mark
abbrev pub is_question : ℕ → Bool
is_question b = b == 63

-- the target before its first question mark (RFC 3986 section 3.3)
abbrev pub path_of : List ℕ → List ℕ
path_of target = before_first is_question target

-- the target after its first question mark, if it has one (RFC 3986 section 3.4)
abbrev pub query_of : List ℕ → Option (List ℕ)
query_of target =
    if nat_lt (position_or_len is_question target) (length target) then Some (after_first is_question target) else None

-- the byte is a slash
abbrev pub is_slash : ℕ → Bool
is_slash b = b == 47

-- the part of a path between its second slash and its third
abbrev pub second_part : List ℕ → List ℕ
second_part path = before_first is_slash (after_first is_slash (after_first is_slash path))

-- the number if it is at least 1, and otherwise NoRoute
abbrev pub above_zero : Read ℕ → Read ℕ
above_zero (Ok n) = if n == 0 then Err NoRoute else Ok n
above_zero (Err e) = Err NoRoute

-- the number in a path: a numeral from 1 to 4,294,967,295 between its second slash and its third, and otherwise NoRoute
unfoldable pub number_in : List ℕ → Read ℕ
number_in path = above_zero (number (second_part path))

-- ---- routes

-- the route of GET at a resource
unfoldable pub read_at : Resource → List ℕ → Read Route
read_at resource.Me path = Ok route.WhoAmI
read_at resource.MyGroups path = Ok route.MyGroups
read_at resource.MyCommunities path = Ok route.MyCommunities
read_at resource.MyAddressed path = Ok route.Addressed
read_at resource.Incidents path = Ok route.List
read_at resource.Incident path = number_in path >>= λ n. Ok (route.View n)
read_at resource.Sharing path = number_in path >>= λ n. Ok (route.Sharing n)
read_at resource.Search path = Ok route.Search
read_at resource.Explain path = Ok route.Explain
read_at (resource.OfCircle change) path = Err NoRoute
read_at (resource.OfPart change) path = Err NoRoute
read_at (resource.OfIncident change) path = Err NoRoute

-- the route of POST at a resource
unfoldable pub post_at : Resource → List ℕ → Read Route
post_at resource.Incidents path = Ok route.Post
post_at (resource.OfCircle change) path = Ok (route.OfCircle change)
post_at (resource.OfPart change) path = number_in path >>= λ n. Ok (route.OfPart change n)
post_at (resource.OfIncident change) path = number_in path >>= λ n. Ok (route.OfIncident change n)
post_at _ path = Err NoRoute

-- the route of PUT at a resource
unfoldable pub put_at : Resource → List ℕ → Read Route
put_at resource.Incident path = number_in path >>= λ n. Ok (route.Replace n)
put_at _ path = Err NoRoute

-- the route of a method at the resource that a path names; NoRoute if it names none
unfoldable pub route_at : Verb → Option Resource → List ℕ → Read Route
route_at _ None path = Err NoRoute
route_at verb.Get (Some resource) path = read_at resource path
route_at verb.Post (Some resource) path = post_at resource path
route_at verb.Put (Some resource) path = put_at resource path
route_at verb.Other (Some resource) path = Err NoRoute
