use Rattle.{std.proofs.Common.{OnOk, sym, subst}, json_text.proofs.Escapes.{tilde-token, slash-token}}
use Rattle.json_text.proofs.escape.put_shown.Goals as goal

pub returns-in-Token-eq126 : goal.returns-in-Token-eq126
returns-in-Token-eq126 g c =
    subst (λ t. OnOk c.put.result (g.S.Sink.puts c.args.sink.now t c.put.new.self)) (sym (rw (c.in-Token-eq126.is-0, c.in-Token-eq126.is-1) tilde-token)) c.put.ensures

pub returns-in-Token-eq47 : goal.returns-in-Token-eq47
returns-in-Token-eq47 g c =
    subst (λ t. OnOk c.put-in-Token-eq47.result (g.S.Sink.puts c.args.sink.now t c.put-in-Token-eq47.new.self)) (sym (rw (c.in-Token-eq47.is-0, c.in-Token-eq47.is-1) slash-token)) c.put-in-Token-eq47.ensures
