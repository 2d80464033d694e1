use Rattle.{std.proofs.Common.{◌≡◌, drop}, json.specs.Value.members_view, redaction.specs.Values.only_from}
use Rattle.redaction.proofs.value.only_among.Given as goal

abbrev pub invariant-loop-name : goal.invariant-loop-name
invariant-loop-name l = record {
  counted : l.place ≡ l.name-index;
  left : only_from l.known l.name-index (members_view (drop l.name-index l.name-items)) ≡ only_from l.known 0 (members_view l.members.items);
}
