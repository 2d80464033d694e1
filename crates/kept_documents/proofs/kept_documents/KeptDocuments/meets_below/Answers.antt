use Rattle.{std.proofs.Common.◌∙◌, kept_documents.proofs.{Again.{not_failed, read_again, read_as}, Told.met_alike}}
use Rattle.kept_documents.proofs.kept_documents.KeptDocuments.meets_below.Goals as goal

pub returns-then-give_way-clause-shelf : goal.returns-then-give_way-clause-shelf
returns-then-give_way-clause-shelf g c =
    let well = not_failed c.meets-met.result (c.give_way.ensures.memory c.if-give_way.true) in
    let same = c.in-Ok.ensures in
    read_as _ _ _ _ _ _ _ _ _
    (λ s met it. it ∙ met_alike c.args.incident c.in-Ok.same_case c.args.case c.in-Ok.same_standing c.args.standing c.in-Ok.same_want c.args.want s same.0 same.1 same.2)
    (read_again _ _ _ _ _ _ _ _ _ _ well c.meets-met.ensures.kept c.meets-then-give_way.ensures)
