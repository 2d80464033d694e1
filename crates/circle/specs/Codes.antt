-- The codes of refusals: their names, statuses (RFC 9110 section 15) and reasons in words.
use Rattle.std.specs.Prelude.{ℕ, List, codes}
use Rattle.circle.specs.declared.refusal.Code.{Code}
use Rattle.circle.specs.declared.refusal.Code.TheVariants.{K1, W1, B1, N1, N2, W2, W3, N3, S1, S2, S3, L1, F1, F2}

-- the order in which the grounds are asked, by their codes
abbrev pub place_in_order : Code → ℕ
place_in_order K1 = 1
place_in_order W1 = 2
place_in_order B1 = 3
place_in_order N1 = 4
place_in_order N2 = 5
place_in_order W2 = 6
place_in_order W3 = 7
place_in_order N3 = 8
place_in_order S1 = 9
place_in_order S2 = 10
place_in_order S3 = 11
place_in_order L1 = 12
place_in_order F1 = 13
place_in_order F2 = 14

-- the name of a code
abbrev pub name_of : Code → List ℕ
name_of K1 = codes "K1"
name_of W1 = codes "W1"
name_of B1 = codes "B1"
name_of N1 = codes "N1"
name_of N2 = codes "N2"
name_of W2 = codes "W2"
name_of W3 = codes "W3"
name_of N3 = codes "N3"
name_of S1 = codes "S1"
name_of S2 = codes "S2"
name_of S3 = codes "S3"
name_of L1 = codes "L1"
name_of F1 = codes "F1"
name_of F2 = codes "F2"

-- the HTTP status of a code (RFC 9110 section 15)
abbrev pub status_of : Code → ℕ
status_of K1 = 401
status_of W1 = 403
status_of B1 = 422
status_of N1 = 404
status_of N2 = 404
status_of W2 = 403
status_of W3 = 403
status_of N3 = 404
status_of S1 = 409
status_of S2 = 409
status_of S3 = 409
status_of L1 = 409
status_of F1 = 503
status_of F2 = 503

-- the reason of a code, in words
abbrev pub reason_of : Code → List ℕ
reason_of K1 = codes "unknown or suspended key"
reason_of W1 = codes "role does not allow it"
reason_of B1 = codes "bad argument"
reason_of N1 = codes "no such incident for you"
reason_of N2 = codes "no such organisation, person, community or group"
reason_of W2 = codes "group not yours to extend or change"
reason_of W3 = codes "person not yours to nominate"
reason_of N3 = codes "no such class"
reason_of S1 = codes "already so"
reason_of S2 = codes "not so"
reason_of S3 = codes "other revision"
reason_of L1 = codes "limit"
reason_of F1 = codes "store failed"
reason_of F2 = codes "no memory"
