use Rattle.{std.proofs.Common.{◌≡◌, OnOk, sym, subst, rules}, json.specs.Print.escape}
use Rattle.json_text.proofs.escape.put_text.Goals as goal

pub returns-then-needs_no_escape : goal.returns-then-needs_no_escape
returns-then-needs_no_escape g c =
    let same : escape c.args.bytes.now ≡ c.args.bytes.now = search rules in
    subst (λ t. OnOk c.put.result (g.S.Sink.puts c.args.sink.now t c.put.new.self)) (sym same) c.put.ensures
