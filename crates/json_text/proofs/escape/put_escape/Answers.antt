use Rattle.{std.proofs.Common.{OnOk, subst}, json_text.proofs.Escapes.{letter-escape, control-escape, other-escape}}
use Rattle.json_text.proofs.escape.put_escape.Goals as goal

pub returns-then-letter-gt0 : goal.returns-then-letter-gt0
returns-then-letter-gt0 g c =
    subst (λ t. OnOk c.put.result (g.S.Sink.puts c.args.sink.now t c.put.new.self))
    (letter-escape c.args.byte c.letter_of-letter.result c.letter_of-letter.ensures c.if-letter-gt0.true) c.put.ensures

pub returns-then-byte-lt32 : goal.returns-then-byte-lt32
returns-then-byte-lt32 g c =
    subst (λ t. OnOk c.put-then-byte-lt32.result (g.S.Sink.puts c.args.sink.now t c.put-then-byte-lt32.new.self))
    (control-escape c.args.byte c.letter_of-letter.result c.digit-high.result c.digit-low.result c.letter_of-letter.ensures c.if-letter-gt0.false c.if-byte-lt32.true
    c.digit-high.ensures c.digit-low.ensures)
    c.put-then-byte-lt32.ensures

pub returns : goal.returns
returns g c =
    subst (λ t. OnOk c.put-2.result (g.S.Sink.puts c.args.sink.now t c.put-2.new.self))
    (other-escape c.args.byte c.letter_of-letter.result c.letter_of-letter.ensures c.if-letter-gt0.false c.if-byte-lt32.false) c.put-2.ensures
