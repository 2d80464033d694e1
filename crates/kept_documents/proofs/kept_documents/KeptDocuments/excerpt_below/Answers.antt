use Rattle.{std.proofs.Common.◌∙◌, kept_documents.proofs.{Again.{not_failed, read_again, read_as}, Told.served_alike}}
use Rattle.kept_documents.proofs.kept_documents.KeptDocuments.excerpt_below.Goals as goal

pub returns-then-give_way-clause-shelf : goal.returns-then-give_way-clause-shelf
returns-then-give_way-clause-shelf g c =
    let well = not_failed c.excerpt-found.result (c.give_way.ensures.memory c.if-give_way.true) in
    read_as _ _ _ _ _ _ _ _ _ (λ s found it. it ∙ served_alike c.args.incident c.in-Ok.same_case c.args.case c.in-Ok.same_standing c.args.standing s c.in-Ok.ensures)
    (read_again _ _ _ _ _ _ _ _ _ _ well c.excerpt-found.ensures.kept c.excerpt-then-give_way.ensures)
