use Rattle.{std.proofs.Common.{◌≡◌, drop}, json.specs.Value.members_view, redaction.specs.Places.nth_name}
use Rattle.redaction.proofs.locating.nth_name.Given as goal

abbrev pub invariant-loop-name : goal.invariant-loop-name
invariant-loop-name l =
    nth_name (members_view (drop l.name-index l.name-items)) l.left ≡ nth_name (members_view l.members.items) l.place
