use Rattle.{std.proofs.Common.sym, kept_rows.proofs.{Drawn.document_drawn, Reading.{answered, unheld}}}
use Rattle.kept_rows.proofs.kept_rows.KeptRowsShelf.may_meet.Goals as goal

pub returns-then-not-may_hold : goal.returns-then-not-may_hold
returns-then-not-may_hold g c = answered _ _ _ _ c.args.self.now _ _ c.in_ok-may_ask.ensures.asked (λ s has told.
    let drawn = document_drawn c.args.incident c.in-Some.sketch.now s has.1.sound (has.1.drawn c.args.incident c.in-Some.sketch.now (sym c.in-Some.ensures)) in
    unheld c.args.person c.args.incident c.args.now c.args.want.now s drawn.0 drawn.1
    (λ d t. c.may_hold.ensures.missing drawn.0 d t drawn.2 c.if-not-may_hold.true))
