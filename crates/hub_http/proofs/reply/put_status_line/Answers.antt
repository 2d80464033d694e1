use Rattle.{std.proofs.Common.{◌∙◌, ap, decimal}, json_text.proofs.Puts.ok-both-are, hub_http.proofs.Messages.status_line-is}
use Rattle.hub_http.proofs.reply.put_status_line.Goals as goal

pub returns : goal.returns
returns g c =
    ok-both-are g.S.Sink.puts g.met.S.Sink.joins _ _ _ _ _ _ c.put-4.result
    (status_line-is c.args.status c.as_bytes.result.now c.as_bytes-2.result.now (c.as_bytes.ensures.value ∙ c.format.ensures.text ∙ ap decimal c.as_u16.ensures.value) (c.as_bytes-2.ensures.value ∙ c.reason.ensures))
    (g.met.S.Sink.joins _ _ _ _ _ (g.met.S.Sink.joins _ _ _ _ _ c.in_ok-put.ensures c.in_ok-put-2.ensures) c.in_ok-put-3.ensures) c.put-4.ensures
