use Rattle.iodef_tree.proofs.ReadSound.{readings-are-documents}
use Rattle.iodef_tree.proofs.laws.readings_are_documents.Goals as goal

pub returns : goal.returns
returns c = readings-are-documents
