-- The state of a pass, whose path is given by its trail.
use Rattle.std.specs.Prelude.{◌≡◌, List}
use Rattle.iodef_tree.specs.Tree.{Forest}
use Rattle.policy.specs.Ahead.{ahead_of, met_by}
use Rattle.policy.specs.Inherited.{Inherited, carried}
use Rattle.policy.specs.declared.ahead.Ahead.{Ahead}
use Rattle.policy.specs.declared.inherited.Carried.{Carried}
use Rattle.redact.specs.inner.Judged.{Judged}
use Rattle.redact.specs.inner.Pass.{pass}
use Rattle.redact.specs.inner.Tokens.{path_of}
use Rattle.redact.specs.declared.reader.Reader.{Reader}
use Rattle.redact.specs.declared.trail.Token.{Token}

-- what the pass carries at its path
abbrev pub carries : List Token → Carried → Inherited
carries trail h = carried (path_of trail) h

-- this lies ahead of the path, for the reader
abbrev pub LiesAhead : Reader → List Token → Ahead → Type 0
LiesAhead r trail ahead = met_by ahead ≡ ahead_of r.case.now r.standing.now (path_of trail)

-- the members of the class at the path, each class judged for the reader
abbrev pub judged_for : Reader → List Token → Carried → Forest → Judged
judged_for r trail h f = pass r.case.now r.standing.now (carries trail h) f
