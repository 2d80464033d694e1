use Rattle.{std.proofs.Common.{◌≡◌, ℕ, List, ◌++◌, length}, json_text.specs.Shown.shown_bytes}
use Rattle.json_text.proofs.escape.put_escaped.Given as goal

abbrev pub invariant-loop-byte : goal.invariant-loop-byte
invariant-loop-byte g l =
    (done : List ℕ) × g.S.Sink.puts l.fn.sink done l.sink × (done ++ shown_bytes l.within l.rest ≡ shown_bytes l.within l.bytes)

abbrev pub decreases-loop-byte : goal.decreases-loop-byte
decreases-loop-byte g l = length l.rest
