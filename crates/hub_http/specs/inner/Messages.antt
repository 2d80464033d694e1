-- The parts of a message, as they are put.
use Rattle.std.specs.Prelude.{ℕ, List, [], ◌++◌, unwrap_or, codes, decimal}
use Rattle.http.specs.StatusCode.{reason_phrase}
use Rattle.serde_json.specs.Written.{compact_text}
use Rattle.hub_http.specs.Bodies.{refusal_body}
use Rattle.hub_http.specs.Replies.{message, body_text, challenge, fault_name}
use Rattle.hub_http.specs.declared.reply.Body.{Body}
use Rattle.hub_http.specs.declared.reply.Message.{Message}
use Rattle.hub_http.specs.declared.reply.Body.TheVariants as body

-- the reason phrase of a status (RFC 9110 section 15)
abbrev pub reason_text : ℕ → List ℕ
reason_text status = unwrap_or (reason_phrase status) (codes "<unknown status code>")

-- the version, the status and its reason phrase
abbrev pub status_line : ℕ → List ℕ
status_line status = codes "HTTP/1.1 " ++ (decimal status ++ (codes " " ++ reason_text status))

-- the fields, and the line ends around them, for a body of so many bytes
abbrev pub fields : ℕ → ℕ → List ℕ
fields status n =
    codes "\r\nContent-Type: application/json\r\nContent-Length: " ++ (decimal n ++ (codes "\r\nConnection: close\r\n" ++ (challenge status ++ codes "\r\n")))

-- the bytes of a body
abbrev pub body_bytes : Body → List ℕ
body_bytes (body.Answer reply) = body_text reply.now
body_bytes (body.Fault e) = compact_text (refusal_body (fault_name e) [] (codes "request refused"))

-- the bytes of a message
abbrev pub message_bytes : Message → List ℕ
message_bytes m = message m.status (body_bytes m.body)
