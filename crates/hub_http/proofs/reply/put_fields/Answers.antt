use Rattle.{std.proofs.Common.◌∙◌, json_text.proofs.Puts.ok-both-are, hub_http.proofs.Messages.fields-is}
use Rattle.hub_http.proofs.reply.put_fields.Goals as goal

pub returns : goal.returns
returns g c =
    ok-both-are g.S.Sink.puts g.met.S.Sink.joins _ _ _ _ _ _ c.put-5.result
    (fields-is c.args.status c.args.length c.as_bytes.result.now c.as_bytes-2.result.now (c.as_bytes.ensures.value ∙ c.format.ensures.text) (c.as_bytes-2.ensures.value ∙ c.challenge.ensures))
    (g.met.S.Sink.joins _ _ _ _ _ (g.met.S.Sink.joins _ _ _ _ _ (g.met.S.Sink.joins _ _ _ _ _ c.in_ok-put.ensures c.in_ok-put-2.ensures) c.in_ok-put-3.ensures) c.in_ok-put-4.ensures) c.put-5.ensures
