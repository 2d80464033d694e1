use Rattle.{std.proofs.Common.{[], ◌∷◌, decimal, refl, ap}, json.specs.{Print.{quoted, token_text}, Token.boolean as flag}, serde_json.specs.Data.boolean}
use Rattle.{serde_json.specs.{Data.string, Written.compact_text}, iodef_tree.specs.Pointer.pointer_text, hub_http.proofs.Arrays.{begins, next, next-token}}
use Rattle.hub_http.{proofs.Arrays.ends, specs.Bodies.{whole, grantee_kind, grantee_number, end_or_null}}
use Rattle.hub_http.proofs.bodies.put_permission.Goals as goal

pub returns-clause-puts : goal.returns-clause-puts
returns-clause-puts g c =
    ends g.S.Sink.puts g.met.S.Sink.joins _ c.token-4.result
    (next-token g.S.Sink.puts g.met.S.Sink.joins (token_text (flag c.args.shared.now.ended))
    (next g.S.Sink.puts g.met.S.Sink.joins (compact_text (end_or_null c.args.shared.now.permission.until))
    (next g.S.Sink.puts g.met.S.Sink.joins (decimal c.grantee_number.result)
    (next-token g.S.Sink.puts g.met.S.Sink.joins (quoted c.grantee_kind.result.now)
    (next g.S.Sink.puts g.met.S.Sink.joins (quoted (pointer_text c.args.shared.now.permission.path))
    (begins g.S.Sink.puts g.met.S.Sink.joins c.args.out.now.after_value
    (string (pointer_text c.args.shared.now.permission.path)
    ∷ string (grantee_kind c.args.shared.now.permission.grantee)
    ∷ whole (grantee_number c.args.shared.now.permission.grantee)
    ∷ end_or_null c.args.shared.now.permission.until
    ∷ boolean c.args.shared.now.ended
    ∷ []) c.in_ok-token.ensures.puts c.in_ok-token.ensures.after)
    c.in_ok-pointer.ensures.puts c.in_ok-pointer.ensures.after refl)
    c.in_ok-token-2.ensures.puts c.in_ok-token-2.ensures.after (ap quoted c.grantee_kind.ensures))
    c.in_ok-number.ensures.puts c.in_ok-number.ensures.after (ap decimal c.grantee_number.ensures))
    c.in_ok-put_end.ensures.puts c.in_ok-put_end.ensures.after refl)
    c.in_ok-token-3.ensures.puts c.in_ok-token-3.ensures.after refl)
    c.token-4.ensures.puts
