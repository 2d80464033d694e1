use Rattle.{std.proofs.Common.take, kept_documents.specs.Kept.AreSpared}
use Rattle.kept_documents.proofs.documents.Documents.let_go.Given as goal

abbrev pub invariant-loop-edit : goal.invariant-loop-edit
invariant-loop-edit g l = AreSpared (take l.edit-index l.edits) l.self l.initial.self
