use Rattle.{std.proofs.Common.arith, iodef_tree.proofs.Steps.documents_from_steps}
use Rattle.iodef_tree.proofs.read.documents_from.Goals as goal

pub documents_beside-requires : goal.documents_beside-requires
documents_beside-requires c = grind (arith, documents_from_steps)

pub returns-in_err-all : goal.returns-in_err-all
returns-in_err-all c = grind (arith, documents_from_steps)

pub document_from-requires : goal.document_from-requires
document_from-requires c = grind (arith, documents_from_steps)

pub returns-in_err-document : goal.returns-in_err-document
returns-in_err-document c = grind (arith, documents_from_steps)

pub returns : goal.returns
returns c = grind (arith, documents_from_steps)
