use Rattle.{std.proofs.Common.{sym, ◌∙◌}, kept_documents.proofs.Told.kept_new}
use Rattle.kept_documents.proofs.kept_documents.KeptDocuments.prepare.Goals as goal

pub returns-in-Ok-Some-clause-documents : goal.returns-in-Ok-Some-clause-documents
returns-in-Ok-Some-clause-documents g c = λ clean s has old.
    kept_new c.args.incident c.in-Ok-Some.document c.args.self.now.documents c.is_wanted.new.self c.keep.new.self s c.is_wanted.ensures c.keep.ensures (sym c.in-Ok-Some.field-0-is ∙ c.in-Ok-Some.ensures.value clean s has) old
