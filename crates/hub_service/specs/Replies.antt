-- What is printed of a reply, and the exit status after it.
use Rattle.std.specs.Prelude.{[], ◌∷◌, ◌++◌}
use Rattle.iodef_tree.specs.Text.{Bytes}
use Rattle.hub_state.specs.declared.reply.Reply.{Reply}
use Rattle.hub_state.specs.declared.reply.Reply.TheVariants.{Trace, Refused as Refusal}
use Rattle.hub_http.specs.Replies.{body_text}
use Rattle.hub_service.specs.declared.status.Status.{Status}
use Rattle.hub_service.specs.declared.status.Status.TheVariants.{Done, Refused}

-- the outcome of a command with this reply
abbrev pub reply_status : Reply → Status
reply_status (Refusal why) = Refused
reply_status _ = Done

-- what is printed: the lines of an explanation as they are, and otherwise the body with a newline
abbrev pub printed : Reply → Bytes
printed (Trace lines) = lines
printed reply = body_text reply ++ 10 ∷ []
