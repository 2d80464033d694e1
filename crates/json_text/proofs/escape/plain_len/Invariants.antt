use Rattle.{std.proofs.Common.{◌≡◌, take}, json_text.specs.Shown.shown_bytes}
use Rattle.json_text.proofs.escape.plain_len.Given as goal

abbrev pub invariant-loop-i : goal.invariant-loop-i
invariant-loop-i l = shown_bytes l.within (take l.i l.bytes) ≡ take l.i l.bytes
