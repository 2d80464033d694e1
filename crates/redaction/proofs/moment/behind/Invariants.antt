use Rattle.{std.proofs.Common.{◌≡◌, drop}, redaction.specs.Moments.behind}
use Rattle.redaction.proofs.moment.behind.Given as goal

abbrev pub invariant-loop-byte : goal.invariant-loop-byte
invariant-loop-byte l = behind (drop l.byte-index l.pattern) l.rest ≡ behind l.pattern l.text
