-- The lines of a document that matter to what a reader is served.
use Rattle.std.specs.Prelude.{◌≡◌, Bool, ◌&&◌, not, List, map, filter, None, is_some}
use Rattle.iodef_tree.specs.Text.{Tokens, is_root}
use Rattle.iodef_tree.specs.Paths.{LocatedLine, located}
use Rattle.iodef_tree.specs.declared.line.Line.{Line}
use Rattle.marking.specs.Marks.{first_bad_marking}
use Rattle.policy.specs.Verdict.{refusal_at}
use Rattle.policy.specs.declared.standing.Standing.{Standing}
use Rattle.policy.specs.declared.case.Case.{Case}
use Rattle.redact.specs.Told.{excerpt_of}
use Rattle.redact.specs.Excerpts.{LabelsSurvive}

module _ (c : Case) (s : Standing) where
  -- A gate at the path or above it refuses the reader, who isn't of the source. The root is no class, and its lines
  -- matter.
  abbrev pub is_refused : Tokens → Bool
  is_refused p = not (is_root p) && (not s.source && is_some (refusal_at c s p))

  -- A line matters if it is in the root or in a class to which the gates let the reader. So the line of the first
  -- class that they refuse matters, and the lines below that class don't.
  abbrev pub matters : LocatedLine → Bool
  matters e = not (is_refused e.parent)

  -- the lines of a document that matter for the reader, in their order
  abbrev pub lines_that_matter : List Line → List Line
  lines_that_matter ls = map (λ e. e.line) (filter matters (located ls))

-- The reader is served the same of the lines that matter as of all lines. If all are well marked, so are those that
-- matter. The labels that survive of them are all that have to survive.
pub record TellsAsMuch (ls : List Line) (c : Case) (s : Standing) : Type 0 where
  pub excerpt : excerpt_of ls c s ≡ excerpt_of (lines_that_matter c s ls) c s
  pub marked : first_bad_marking (located ls) ≡ None → first_bad_marking (located (lines_that_matter c s ls)) ≡ None
  pub labels : (excerpt : List Line) → LabelsSurvive (lines_that_matter c s ls) c s excerpt →
      LabelsSurvive ls c s excerpt

-- The law that the lines that matter give as much as all lines, for every reader.
abbrev pub WhatMattersIsTold : Type 0
WhatMattersIsTold = (ls : List Line) (c : Case) (s : Standing) → TellsAsMuch ls c s
