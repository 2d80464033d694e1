-- A member that is a text.
use Rattle.iodef_tree.specs.Text.{Bytes}
use Rattle.iodef_tree.specs.Tree.{says, Bodies, one, text}

-- a plain member that is a text
abbrev pub saying : Bytes → Bodies
saying t = one (says (text t))
