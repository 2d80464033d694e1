-- The request of a route, from its parameters and its body.
use Rattle.std.specs.Prelude.{ℕ, List, [], ◌∷◌, length, ◌==◌, if◌then◌else◌, Option, Some, None, unwrap_or, Ok, Err, codes}
use Rattle.circle.specs.declared.command.CircleCommand.{CircleCommand}
use Rattle.hub_state.specs.declared.request.Distribution.{Distribution}
use Rattle.hub_state.specs.declared.request.Request.{Request}
use Rattle.hub_http.specs.declared.request_fault.RequestFault.TheVariants.{BadBody}
use Rattle.hub_http.specs.declared.routes.CircleChange.{CircleChange}
use Rattle.hub_http.specs.declared.routes.PartChange.{PartChange}
use Rattle.hub_http.specs.declared.routes.IncidentChange.{IncidentChange}
use Rattle.hub_http.specs.declared.routes.Route.{Route}
use Rattle.hub_http.specs.declared.requests.Place.{Place}
use Rattle.hub_http.specs.Outcome.{Read, ◌>>=◌}
use Rattle.hub_http.specs.Spelling.{flag, role_named, handling_named, digest, gates}
use Rattle.hub_http.specs.Parameters.{Pair, pairs_of, values, only, mandatory, optional, mandatory_number, number_or_zero, optional_moment, optional_number}
use Rattle.hub_http.specs.Parameters.{number_alone, grantee_in, target_alone}
use Rattle.hub_http.specs.Routes.{verb_of, path_of, query_of, resource_at, route_at}
use Rattle.circle.specs.declared.command.CircleCommand.TheVariants as command
use Rattle.hub_state.specs.declared.request.Request.TheVariants as request
use Rattle.hub_http.specs.declared.routes.CircleChange.TheVariants as circle
use Rattle.hub_http.specs.declared.routes.PartChange.TheVariants as part
use Rattle.hub_http.specs.declared.routes.IncidentChange.TheVariants as incident
use Rattle.hub_http.specs.declared.routes.Route.TheVariants as route
use Rattle.hub_http.specs.declared.requests.Place.TheVariants as place

-- ---- the place of the parameters

-- where the parameters of a route are: in the query, in the query beside a document as body, or in the body
unfoldable pub place_of : Route → Place
place_of route.Post = place.QueryBesideDocument
place_of (route.Replace n) = place.QueryBesideDocument
place_of (route.OfCircle change) = place.Body
place_of (route.OfPart change n) = place.Body
place_of (route.OfIncident change n) = place.Body
place_of _ = place.Query

-- The form with the parameters: the query if no body is allowed or the body is the document, and the body if no query
-- is allowed.
unfoldable pub form_at : Place → Option (List ℕ) → List ℕ → Read (List ℕ)
form_at place.Query query body = if length body == 0 then Ok (unwrap_or query []) else Err BadBody
form_at place.QueryBesideDocument query body = Ok (unwrap_or query [])
form_at place.Body None body = Ok body
form_at place.Body (Some query) body = Err BadBody

-- ---- requests that read

-- the number after which a page begins, with no parameter beside it; 0 if it is missing
unfoldable pub after_alone : List Pair → Read ℕ
after_alone pairs = do
  _ ← only (codes "after" ∷ []) pairs
  number_or_zero (codes "after") pairs

-- the Search with these parameters
unfoldable pub search_in : List Pair → Read Request
search_in pairs = do
  _ ← only (codes "needle" ∷ codes "class" ∷ codes "after" ∷ []) pairs
  needle ← mandatory (codes "needle") pairs
  class ← optional (codes "class") pairs
  after ← number_or_zero (codes "after") pairs
  Ok (request.Search (record { needle = needle; class = class; after = after }))

-- the Explain with these parameters
unfoldable pub explain_in : List Pair → Read Request
explain_in pairs = do
  _ ← only (codes "person" ∷ codes "incident" ∷ codes "path" ∷ []) pairs
  person ← mandatory_number (codes "person") pairs
  incident ← mandatory_number (codes "incident") pairs
  path ← mandatory (codes "path") pairs
  Ok (request.Explain (record { person = person; incident = incident; path = path }))

-- ---- incidents

-- the distribution with these parameters: its community if it names one, its level and group, and its gates
unfoldable pub distribution_in : List Pair → Read Distribution
distribution_in pairs = do
  community ← optional_number (codes "community") pairs
  level ← mandatory_number (codes "level") pairs
  group ← optional_number (codes "group") pairs
  wanted ← gates (values (codes "gate") pairs)
  Ok (record { community = community; level = level; group = group; gates = wanted })

-- the Post with these parameters and this body
unfoldable pub post_in : List Pair → List ℕ → Read Request
post_in pairs body = do
  _ ← only (codes "community" ∷ codes "level" ∷ codes "group" ∷ codes "gate" ∷ []) pairs
  distribution ← distribution_in pairs
  Ok (request.Post (record { distribution = distribution; document = body }))

-- the Replace of an incident with these parameters and this body
unfoldable pub replace_in : ℕ → List Pair → List ℕ → Read Request
replace_in n pairs body = do
  _ ← only (codes "revision" ∷ codes "community" ∷ codes "level" ∷ codes "group" ∷ codes "gate" ∷ []) pairs
  revision ← mandatory_number (codes "revision") pairs
  distribution ← distribution_in pairs
  Ok (request.Replace (record { incident = n; revision = revision; distribution = distribution; document = body }))

-- the Redistribute of an incident with these parameters
unfoldable pub redistribute_in : ℕ → List Pair → Read Request
redistribute_in n pairs = do
  _ ← only (codes "revision" ∷ codes "path" ∷ codes "level" ∷ codes "group" ∷ []) pairs
  revision ← mandatory_number (codes "revision") pairs
  path ← mandatory (codes "path") pairs
  level ← mandatory_number (codes "level") pairs
  group ← optional_number (codes "group") pairs
  Ok (request.Redistribute (record { incident = n; revision = revision; path = path; level = level; group = group }))

-- the Grant at an incident with these parameters
unfoldable pub grant_in : ℕ → List Pair → Read Request
grant_in n pairs = do
  _ ← only (codes "revision" ∷ codes "path" ∷ codes "person" ∷ codes "org" ∷ codes "community" ∷ codes "group" ∷ codes "until" ∷ []) pairs
  revision ← mandatory_number (codes "revision") pairs
  path ← mandatory (codes "path") pairs
  to ← grantee_in pairs
  until ← optional_moment (codes "until") pairs
  Ok (request.Grant (record { incident = n; revision = revision; path = path; grantee = to; until = until }))

-- the Withdraw at an incident with these parameters
unfoldable pub withdraw_in : ℕ → List Pair → Read Request
withdraw_in n pairs = do
  _ ← only (codes "path" ∷ codes "person" ∷ codes "org" ∷ codes "community" ∷ codes "group" ∷ []) pairs
  path ← mandatory (codes "path") pairs
  from ← grantee_in pairs
  Ok (request.Withdraw (record { incident = n; path = path; grantee = from }))

-- the request of a POST to a part of the incident of this number
unfoldable pub incident_request : IncidentChange → ℕ → List Pair → Read Request
incident_request incident.Redistribute n pairs = redistribute_in n pairs
incident_request incident.Address n pairs = target_alone pairs >>= λ to. Ok (request.Address (record { incident = n; target = to }))
incident_request incident.Unaddress n pairs = target_alone pairs >>= λ to. Ok (request.Unaddress (record { incident = n; target = to }))
incident_request incident.Grant n pairs = grant_in n pairs
incident_request incident.Withdraw n pairs = withdraw_in n pairs

-- ---- the circle

-- the name, with no parameter beside it
unfoldable pub name_alone : List Pair → Read (List ℕ)
name_alone pairs = do
  _ ← only (codes "name" ∷ []) pairs
  mandatory (codes "name") pairs

-- the AddPerson with these parameters
unfoldable pub person_in : List Pair → Read CircleCommand
person_in pairs = do
  _ ← only (codes "org" ∷ codes "name" ∷ codes "role" ∷ codes "key" ∷ []) pairs
  org ← mandatory_number (codes "org") pairs
  name ← mandatory (codes "name") pairs
  role ← mandatory (codes "role") pairs >>= role_named
  key ← mandatory (codes "key") pairs >>= digest
  Ok (command.AddPerson org name role key)

-- the NewGroup with these parameters
unfoldable pub group_in : List Pair → Read CircleCommand
group_in pairs = do
  _ ← only (codes "name" ∷ codes "releasability" ∷ []) pairs
  name ← mandatory (codes "name") pairs
  releasability ← mandatory (codes "releasability") pairs
  Ok (command.NewGroup name releasability)

-- the Arrange with these parameters
unfoldable pub arrangement_in : List Pair → Read CircleCommand
arrangement_in pairs = do
  _ ← only (codes "org" ∷ codes "handling" ∷ []) pairs
  org ← mandatory_number (codes "org") pairs
  handling ← mandatory (codes "handling") pairs >>= handling_named
  Ok (command.Arrange org handling)

-- the key with this SHA-256, with no parameter beside it
unfoldable pub key_alone : List Pair → Read (List ℕ)
key_alone pairs = do
  _ ← only (codes "key" ∷ []) pairs
  mandatory (codes "key") pairs >>= digest

-- the command of a POST to a collection or to the own key
unfoldable pub circle_command : CircleChange → List Pair → Read CircleCommand
circle_command circle.AddOrg pairs = name_alone pairs >>= λ name. Ok (command.AddOrg name)
circle_command circle.AddPerson pairs = person_in pairs
circle_command circle.AddCommunity pairs = name_alone pairs >>= λ name. Ok (command.AddCommunity name)
circle_command circle.NewGroup pairs = group_in pairs
circle_command circle.Arrange pairs = arrangement_in pairs
circle_command circle.CancelArrange pairs = number_alone (codes "org") pairs >>= λ org. Ok (command.CancelArrange org)
circle_command circle.NewKey pairs = key_alone pairs >>= λ key. Ok (command.NewKey key)

-- the GroupAdd to a group with these parameters
unfoldable pub member_in : ℕ → List Pair → Read CircleCommand
member_in n pairs = do
  _ ← only (codes "org" ∷ codes "extend" ∷ []) pairs
  org ← mandatory_number (codes "org") pairs
  extend ← mandatory (codes "extend") pairs >>= flag
  Ok (command.GroupAdd n org extend)

-- the GroupActive of a group with these parameters
unfoldable pub active_in : ℕ → List Pair → Read CircleCommand
active_in n pairs = do
  _ ← only (codes "active" ∷ []) pairs
  active ← mandatory (codes "active") pairs >>= flag
  Ok (command.GroupActive n active)

-- the value if there is no parameter
abbrev pub nothing_beside : {A : Type 0} → List Pair → A → Read A
nothing_beside pairs x = only [] pairs >>= λ _. Ok x

-- the command of a POST to a part of the organisation, person, community or group of this number
unfoldable pub part_command : PartChange → ℕ → List Pair → Read CircleCommand
part_command part.AddClient n pairs = number_alone (codes "client") pairs >>= λ client. Ok (command.AddClient n client)
part_command part.RemoveClient n pairs =
    number_alone (codes "client") pairs >>= λ client. Ok (command.RemoveClient n client)
part_command part.SuspendPerson n pairs = nothing_beside pairs (command.SuspendPerson n)
part_command part.Nominate n pairs = nothing_beside pairs (command.Nominate n)
part_command part.Unnominate n pairs = nothing_beside pairs (command.Unnominate n)
part_command part.Join n pairs = number_alone (codes "org") pairs >>= λ org. Ok (command.Join n org)
part_command part.Leave n pairs = number_alone (codes "org") pairs >>= λ org. Ok (command.Leave n org)
part_command part.Link n pairs = number_alone (codes "other") pairs >>= λ other. Ok (command.Link n other)
part_command part.Unlink n pairs = number_alone (codes "other") pairs >>= λ other. Ok (command.Unlink n other)
part_command part.GroupAdd n pairs = member_in n pairs
part_command part.GroupRemove n pairs = number_alone (codes "org") pairs >>= λ org. Ok (command.GroupRemove n org)
part_command part.GroupActive n pairs = active_in n pairs

-- ---- all

-- the request of a route, with its parameters and its body
unfoldable pub request_in : Route → List Pair → List ℕ → Read Request
request_in route.WhoAmI pairs body = nothing_beside pairs request.WhoAmI
request_in route.MyGroups pairs body = nothing_beside pairs request.MyGroups
request_in route.MyCommunities pairs body = nothing_beside pairs request.MyCommunities
request_in route.Addressed pairs body = after_alone pairs >>= λ after. Ok (request.Addressed after)
request_in route.List pairs body = after_alone pairs >>= λ after. Ok (request.List after)
request_in (route.View n) pairs body = nothing_beside pairs (request.View n)
request_in (route.Sharing n) pairs body = nothing_beside pairs (request.Sharing n)
request_in route.Search pairs body = search_in pairs
request_in route.Explain pairs body = explain_in pairs
request_in route.Post pairs body = post_in pairs body
request_in (route.Replace n) pairs body = replace_in n pairs body
request_in (route.OfCircle change) pairs body = circle_command change pairs >>= λ asked. Ok (request.Circle asked)
request_in (route.OfPart change n) pairs body = part_command change n pairs >>= λ asked. Ok (request.Circle asked)
request_in (route.OfIncident change n) pairs body = incident_request change n pairs

-- the request of a method, a target and a body
unfoldable pub request_by : List ℕ → List ℕ → List ℕ → Read Request
request_by method target body = do
  route ← route_at (verb_of method) (resource_at (path_of target)) (path_of target)
  form ← form_at (place_of route) (query_of target) body
  request_in route (pairs_of form) body
