use Rattle.{std.proofs.Common.{◌≡◌, ℕ, ◌<◌, get_or, false}, iodef_tree.specs.{Text.{Bytes, bytes_lt}, declared.object.Member.Member}}
use Rattle.redact.proofs.attributes.place_for.Given as goal

abbrev pub invariant-loop-i : goal.invariant-loop-i
invariant-loop-i l = (k : ℕ) (d : Bytes × Member) → k < l.i → bytes_lt l.name (get_or l.members k d).0 ≡ false
