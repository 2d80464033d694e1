use Rattle.{std.proofs.Common.{◌≡◌, take}, iodef_tree.specs.Paths.located, policy.specs.{Ahead.{ahead_of, met_by}, inner.Descent.Reaches}}
use Rattle.policy.proofs.deciding.said_at.Given as goal

abbrev pub invariant-loop-place : goal.invariant-loop-place
invariant-loop-place l = record {
  ahead : met_by l.ahead ≡ ahead_of l.case l.standing (take l.place l.tokens);
  reached : Reaches (located l.document) l.case l.standing (take l.place l.tokens) l.descent;
}
