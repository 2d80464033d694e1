use Rattle.{std.proofs.Common.{◌≡◌, take}, redact.specs.inner.Tokens.path_of}
use Rattle.redact.proofs.trail.path_at.Given as goal

abbrev pub invariant-loop-token : goal.invariant-loop-token
invariant-loop-token l = l.tokens.items ≡ path_of (take l.token-index l.trail)
