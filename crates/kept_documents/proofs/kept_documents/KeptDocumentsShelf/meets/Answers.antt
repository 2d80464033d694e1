use Rattle.{std.proofs.Common.{rules, ◌∙◌, arith}, kept_documents.proofs.{Again.{fewer, ok_not_failed, read_again}, Going.none_among, Told.met}}
use Rattle.kept_documents.proofs.kept_documents.KeptDocumentsShelf.meets.Goals as goal

pub returns-in-None : goal.returns-in-None
returns-in-None g c =
    let below = c.meets_below.ensures in
    let read = read_again _ _ _ _ _ _ _ _ _ _ (ok_not_failed c.in_ok-prepare.field-0) c.in_ok-prepare.ensures.shelf below.shelf in
    record {
      value = λ clean s has. read.value clean s has.0;
      kept = record {
        cause = read.kept.cause;
        doubt = read.kept.doubt;
        content = λ clean s has.
            let right = c.in_ok-prepare.ensures.documents (omega (arith, clean, below.shelf.kept.doubt)) s has.0 has.1 in
            (read.kept.content clean s has.0, fewer c.prepare.new.self.documents c.meets_below.new.self.documents s below.documents right);
        crash = read.kept.crash;
      };
    }

pub returns-in-Ok : goal.returns-in-Ok
returns-in-Ok g c = record {
  value = λ clean s has.
      let at = c.prepare.ensures.documents clean s has.0 has.1 (c.args.incident, c.in-Some.document.now) c.in-Some.ensures.kept in
      c.in-Ok.ensures ∙ met c.args.incident c.in-Some.document.now c.args.case c.args.standing c.args.want s at c.in-Some.ensures.marked;
  kept = record { cause = search rules; doubt = search rules; content = search rules; crash = search rules };
}

pub returns-in-Err : goal.returns-in-Err
returns-in-Err g c =
    let below = c.meets_below-in-Err.ensures in
    let read = read_again _ _ _ _ _ _ _ _ _ _ (ok_not_failed c.in_ok-prepare.field-0) c.in_ok-prepare.ensures.shelf below.shelf in
    record {
      value = λ clean s has. read.value clean s has.0;
      kept = record {
        cause = read.kept.cause;
        doubt = read.kept.doubt;
        content = λ clean s has.
            let right = c.in_ok-prepare.ensures.documents (omega (arith, clean, below.shelf.kept.doubt)) s has.0 has.1 in
            (read.kept.content clean s has.0, fewer c.clear.new.self c.meets_below-in-Err.new.self.documents s below.documents (fewer c.prepare.new.self.documents c.clear.new.self s (none_among c.clear.new.self c.prepare.new.self.documents c.clear.ensures) right));
        crash = read.kept.crash;
      };
    }

pub returns-in_err-prepare : goal.returns-in_err-prepare
returns-in_err-prepare g c = record {
  value = search rules;
  kept = record { cause = search rules; doubt = search rules; content = search rules; crash = search rules };
}
