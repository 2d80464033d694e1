-- One pass down a document, in which each class is judged by what it inherits from above.
use Rattle.std.specs.Prelude.{ℕ, Option, Some, None, is_none, decimal}
use Rattle.iodef_tree.specs.Text.{Bytes}
use Rattle.iodef_tree.specs.Tree.{Forest, end, leaf, branch}
use Rattle.marking.specs.Label.{LabelValue}
use Rattle.marking.specs.Members.{spelled_in}
use Rattle.policy.specs.Inherited.{Inherited, enter_array, enter_class, is_seen, hides}
use Rattle.policy.specs.declared.standing.Standing.{Standing}
use Rattle.policy.specs.declared.case.Case.{Case}
use Rattle.redact.specs.inner.Judged.{Judgment, Judged, none, plain, class}
use Rattle.redact.specs.Told.{attributes_of}

module _ (c : Case) (s : Standing) where
  -- into the class of this name, in an array or not, with the label written in it
  abbrev pub enter : Inherited → Bytes → Option ℕ → Option LabelValue → Inherited
  enter h name None written = enter_class c s h name written
  enter h name (Some k) written = enter_class c s (enter_array c s h name) (decimal k) written

  -- how a class is judged by what holds at its path and by whether a label is written in it
  abbrev pub judgment_by : Inherited → Option LabelValue → Judgment
  judgment_by k written = record { visible = is_seen s k; unmarked = is_none written; label = attributes_of k.label; rule = hides s k }

  -- the members of a class, and all below them, each class with its judgment; h is what the class inherits
  abbrev pub pass : Inherited → Forest → Judged
  pass h end = none
  pass h (leaf i rest) = plain i (pass h rest)
  pass h (branch name place kids rest) =
      let written = spelled_in kids in
      let k = enter h name place written in
      class name place (judgment_by k written) (pass k kids) (pass h rest)
