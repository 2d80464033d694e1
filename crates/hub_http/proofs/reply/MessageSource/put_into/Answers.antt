use Rattle.{std.proofs.lemmas.Result.IfOk-weaker, json_text.proofs.Puts.both-are, hub_http.{proofs.Messages.message-is, specs.inner.Messages.body_bytes}}
use Rattle.hub_http.proofs.reply.MessageSource.put_into.Goals as goal

pub returns : goal.returns
returns g c =
    IfOk-weaker c.put_into.result _ _
    (λ after p.
    both-are g.S.Sink.puts g.met.S.Sink.joins _ _ _ _ _ _ (message-is c.args.self.now.status c.in-Some.length (body_bytes c.args.self.now.body) c.in-Some.ensures)
    (g.met.S.Sink.joins _ _ _ _ _ c.in_ok-put_status_line.ensures c.in_ok-put_fields.ensures) p)
    c.put_into.ensures
