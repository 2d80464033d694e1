use Rattle.{std.{proofs.Common.{◌≡◌, drop}, specs.List.list_all}, redaction.specs.Asked.is_well_marked}
use Rattle.redaction.proofs.asked.check_markings.Given as goal

abbrev pub invariant-loop-document : goal.invariant-loop-document
invariant-loop-document l =
    list_all is_well_marked (drop l.document-index l.documents) ≡ list_all is_well_marked l.documents
