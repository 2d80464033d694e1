use Rattle.{std.proofs.Common.{◌≡◌, drop}, redaction.specs.Locating.bad_class_from}
use Rattle.redaction.proofs.locating.bad_class_in.Given as goal

abbrev pub invariant-loop-document : goal.invariant-loop-document
invariant-loop-document l = record {
  counted : l.place ≡ l.document-index;
  left : bad_class_from l.document-index (drop l.document-index l.documents) ≡ bad_class_from 0 l.documents;
}
