-- The bytes of replies (RFC 9112 section 4): a status line, field lines, an empty line and the body.
use Rattle.std.specs.Prelude.{ℕ, List, [], ◌++◌, length, ◌==◌, if◌then◌else◌, Option, Some, None, codes, decimal}
use Rattle.http.specs.StatusCode.{status_text}
use Rattle.serde_json.specs.Written.{compact_text}
use Rattle.circle.specs.Codes.{status_of as code_status}
use Rattle.hub_state.specs.declared.reply.Reply.{Reply}
use Rattle.hub_http.specs.Bodies.{body_of, refusal_body}
use Rattle.hub_http.specs.declared.wire_fault.WireFault.{WireFault}
use Rattle.hub_state.specs.declared.reply.Reply.TheVariants as reply
use Rattle.hub_http.specs.declared.wire_fault.WireFault.TheVariants as fault

-- ---- statuses (RFC 9110 section 15)

-- the status of a reply: that of its code if it is a refusal, and otherwise 200
abbrev pub status_of : Reply → ℕ
status_of (reply.Refused refusal) = code_status refusal.code
status_of _ = 200

-- the name of a fault
abbrev pub fault_name : WireFault → List ℕ
fault_name fault.HeadTooLong = codes "HeadTooLong"
fault_name fault.BadHead = codes "BadHead"
fault_name fault.Chunked = codes "Chunked"
fault_name fault.NoLength = codes "NoLength"
fault_name fault.TooLarge = codes "TooLarge"
fault_name fault.Truncated = codes "Truncated"
fault_name fault.NoRoute = codes "NoRoute"
fault_name fault.BadBody = codes "BadBody"
fault_name fault.NoMemory = codes "NoMemory"

-- the status of a fault; none if nothing is replied to it
abbrev pub fault_status : WireFault → Option ℕ
fault_status fault.HeadTooLong = Some 431
fault_status fault.BadHead = Some 400
fault_status fault.Chunked = Some 501
fault_status fault.NoLength = Some 411
fault_status fault.TooLarge = Some 413
fault_status fault.Truncated = None
fault_status fault.NoRoute = Some 404
fault_status fault.BadBody = Some 400
fault_status fault.NoMemory = None

-- ---- messages

-- a field line (RFC 9112 section 5), and the rest of the message
abbrev pub field : List ℕ → List ℕ → List ℕ → List ℕ
field name value rest = name ++ (codes ": " ++ (value ++ (codes "\r\n" ++ rest)))

-- on 401 the field that asks for a bearer token (RFC 9110 section 11.6.1)
abbrev pub challenge : ℕ → List ℕ
challenge status = if status == 401 then codes "WWW-Authenticate: Bearer\r\n" else []

-- a message: the status line with its reason phrase, the fields, an empty line and the body (RFC 9112 section 2.1)
unfoldable pub message : ℕ → List ℕ → List ℕ
message status body =
    codes "HTTP/1.1 " ++ (status_text status ++ (codes "\r\n" ++
    field (codes "Content-Type") (codes "application/json")
    (field (codes "Content-Length") (decimal (length body))
    (field (codes "Connection") (codes "close")
    (challenge status ++ (codes "\r\n" ++ body))))))

-- the body of a reply as compact JSON
abbrev pub body_text : Reply → List ℕ
body_text r = compact_text (body_of r)

-- the bytes of a reply
abbrev pub reply_text : Reply → List ℕ
reply_text r = message (status_of r) (body_text r)

-- the message of a fault with this status, and no byte if it has none
abbrev pub fault_message : WireFault → Option ℕ → List ℕ
fault_message e None = []
fault_message e (Some status) = message status (compact_text (refusal_body (fault_name e) [] (codes "request refused")))

-- the bytes of a fault, and none if it has no status
abbrev pub fault_text : WireFault → List ℕ
fault_text e = fault_message e (fault_status e)
