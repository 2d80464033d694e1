use Rattle.{std.proofs.Common.{◌≡◌, true, false, sym, ◌∙◌}, iodef_tree.specs.Outline.{back, may_come}, redact.proofs.Taking.{knows-more, knows-bad}}
use Rattle.redact.proofs.rows.Progress.take.Goals as goal

pub returns-then-not-fits-clause-bad : goal.returns-then-not-fits-clause-bad
returns-then-not-fits-clause-bad c = λ same ls known.
    let p = c.args.self.now in
    let bad : may_come (back ls) c.args.line ≡ false = sym (c.in_ok-fits.ensures.exact (back ls) known.shows) ∙ c.if-not-fits.true in
    knows-bad c.args.case.now c.args.standing.now ls c.args.line p.shape p.marks p.sieve known bad

pub returns-clause-ok : goal.returns-clause-ok
returns-clause-ok c = λ ls known.
    let p = c.args.self.now in
    let fits : may_come (back ls) c.args.line ≡ true = sym (c.in_ok-fits.ensures.exact (back ls) known.shows) ∙ c.if-not-fits.false in
    knows-more c.args.case.now c.args.standing.now ls c.args.line p.shape p.marks p.sieve known c.accept.new.self c.note.new.self c.take.new.self
    fits
    (c.in_ok-fits.ensures.shows c.if-not-fits.false (back ls) known.shows)
    c.in_ok-note.ensures
    (c.in_ok-take.ensures ls known.sifts fits)
