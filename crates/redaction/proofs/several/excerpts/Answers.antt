use Rattle.redaction.proofs.Among.{yields-texts}
use Rattle.redaction.proofs.several.excerpts.Goals as goal

pub returns-clause-texts : goal.returns-clause-texts
returns-clause-texts c =
    yields-texts c.texts_among.result c.args.report.now c.in_ok-documents.documents.items c.as_slice.result.now c.args.descriptions.now
    c.in_ok-documents.ensures.read c.as_slice.ensures.value c.texts_among.ensures.same c.texts_among.ensures.failed
