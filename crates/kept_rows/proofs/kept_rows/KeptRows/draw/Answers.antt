use Rattle.{std.proofs.Common.{◌∙◌, sym}, kept_rows.proofs.Drawn.keeps_read}
use Rattle.kept_rows.proofs.kept_rows.KeptRows.draw.Goals as goal

pub returns-in_ok-draw-clause-reads : goal.returns-in_ok-draw-clause-reads
returns-in_ok-draw-clause-reads g c = record {
  later = c.in_ok-document.ensures.kept.cause.later;
  doubt = c.in_ok-document.ensures.kept.doubt;
  content = λ clean s has. (
    c.in_ok-document.ensures.kept.content clean s has.0,
    keeps_read c.args.incident c.in-Some.document c.args.self.now.sketches c.draw.new.self s
        (sym (c.in_ok-document.ensures.value clean s has.0) ∙ c.in-Some.is) c.in_ok-draw.ensures.only has.1,
  );
  crash = c.in_ok-document.ensures.kept.crash;
}

pub returns-in_err-draw-clause-reads : goal.returns-in_err-draw-clause-reads
returns-in_err-draw-clause-reads g c = record {
  later = c.in_ok-document.ensures.kept.cause.later;
  doubt = c.in_ok-document.ensures.kept.doubt;
  content = λ clean s has. (
    c.in_ok-document.ensures.kept.content clean s has.0,
    keeps_read c.args.incident c.in-Some.document c.args.self.now.sketches c.draw.new.self s
        (sym (c.in_ok-document.ensures.value clean s has.0) ∙ c.in-Some.is) c.in_err-draw.ensures.only has.1,
  );
  crash = c.in_ok-document.ensures.kept.crash;
}
