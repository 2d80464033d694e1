-- A reply to the request that was read serves the connection.
use Rattle.{std.proofs.Common.{List, ℕ, Option, Result, Ok, Err, inr}, hub_state.specs.declared.{reply.Reply.Reply, request.Request.Request}}
use Rattle.{hub.specs.declared.key.Key.Key, hub_http.specs.{Serving.{HasRead, Replies, Serves}, declared.serve.ServeFault.{ServeFault, TheVariants.Truncated}}}
use Rattle.hub_http.specs.declared.serve.{ServeFault.TheVariants.{ReadFailed, WriteFailed, NoMemory}, Served.{Served, TheVariants.{Answered, WireRefused}}}

pub serves_reply : (Does : Key × Request → Reply → Type 0) (Same : Type 0) (asked : Key × Request)
    (before after written now_written : Option (List ℕ)) (result : Result Served ServeFault)
    → HasRead before after (Ok asked) → Replies (Does asked) written now_written result
    → Serves Does Same before after written now_written result
serves_reply Does Same asked before after written now_written (Ok Answered) read told = (told.0, (asked, read, told.1), told.2)
serves_reply Does Same asked before after written now_written (Err WriteFailed) read told = inr (told.0, (asked, read, told.1))
serves_reply Does Same asked before after written now_written (Err NoMemory) read told = absurd told
serves_reply Does Same asked before after written now_written (Ok (WireRefused e)) read told = absurd told
serves_reply Does Same asked before after written now_written (Err Truncated) read told = absurd told
serves_reply Does Same asked before after written now_written (Err ReadFailed) read told = absurd told
