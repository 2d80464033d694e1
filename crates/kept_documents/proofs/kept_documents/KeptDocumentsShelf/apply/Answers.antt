use Rattle.kept_documents.proofs.{Edits.kept_after, Told.{on_ok_beside, on_err_weaker}}
use Rattle.kept_documents.proofs.kept_documents.KeptDocumentsShelf.apply.Goals as goal

pub returns-clause-made : goal.returns-clause-made
returns-clause-made g c = λ clean s has sound.
    on_ok_beside _ _ c.apply.result (kept_after c.args.edits.now c.args.self.now.documents c.let_go.new.self s c.let_go.ensures has.1) (c.apply.ensures.made clean s has.0 sound)

pub returns-clause-written : goal.returns-clause-written
returns-clause-written g c = λ clean s has.
    on_ok_beside _ _ c.apply.result (kept_after c.args.edits.now c.args.self.now.documents c.let_go.new.self s c.let_go.ensures has.1) (c.apply.ensures.written clean s has.0)

pub returns-clause-none : goal.returns-clause-none
returns-clause-none g c = on_err_weaker _ _ c.apply.result (λ keeps clean s has. (keeps clean s has.0, λ e k. has.1 e (c.let_go.ensures e k).0)) c.apply.ensures.none
