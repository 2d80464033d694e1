use Rattle.{std.proofs.Common.ap, json.specs.Print.quoted, json_text.proofs.{Lists.pair-is, Puts.ok-both-are}}
use Rattle.hub_http.proofs.bodies.put_withheld_pair.Goals as goal

pub returns-clause-puts : goal.returns-clause-puts
returns-clause-puts g c =
    ok-both-are g.S.Sink.puts g.met.S.Sink.joins _ _ _ _ _ _ c.token-3.result
    (pair-is c.args.out.now.after_value c.token.new.self.after_value c.pointer.new.self.after_value c.token-2.new.self.after_value _ (quoted c.name.result.now) _
    c.in_ok-token.ensures.after c.in_ok-pointer.ensures.after (ap quoted c.name.ensures))
    (g.met.S.Sink.joins _ _ _ _ _ (g.met.S.Sink.joins _ _ _ _ _ c.in_ok-token.ensures.puts c.in_ok-pointer.ensures.puts) c.in_ok-token-2.ensures.puts) c.token-3.ensures.puts
