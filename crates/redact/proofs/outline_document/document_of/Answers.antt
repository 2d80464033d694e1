use Rattle.{std.proofs.Common.{rules, ◌≡◌, ◌++◌, ◌∷◌, sym, ◌∙◌, ap}, redact.proofs.Taking.fits-next}
use Rattle.redact.proofs.outline_document.document_of.Goals as goal

pub add-requires : goal.add-requires
add-requires c =
    let next : c.loop-line.line-iterator.rest.items ≡ c.in-Some.line ∷ c.next.new.self.rest.items = search rules in
    fits-next c.args.lines.items c.loop-line.builder c.next.new.self.rest.items c.in-Some.line (ap (λ ls. c.loop-line.builder ++ ls) (sym next) ∙ c.loop-line.invariant.left) c.requires
