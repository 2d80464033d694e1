use Rattle.redaction.proofs.Among.{yields-refused, yields-among}
use Rattle.redaction.proofs.excerpting.excerpt_for.Goals as goal

pub returns-in_err-documents : goal.returns-in_err-documents
returns-in_err-documents c =
    yields-refused c.from_residual.result c.in_err-documents.field-0.0 c.args.report.now c.args.view.now c.from_residual.ensures.1
    c.in_err-documents.ensures.read

pub returns : goal.returns
returns c =
    yields-among c.excerpt_among.result c.args.report.now c.in_ok-documents.documents.items c.as_slice.result.now c.args.view.now
    c.in_ok-documents.ensures.read c.as_slice.ensures.value c.excerpt_among.ensures
