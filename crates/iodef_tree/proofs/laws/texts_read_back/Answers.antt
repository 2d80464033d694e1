use Rattle.iodef_tree.proofs.ReadBack.{texts-read-back}
use Rattle.iodef_tree.proofs.laws.texts_read_back.Goals as goal

pub returns : goal.returns
returns c = texts-read-back
