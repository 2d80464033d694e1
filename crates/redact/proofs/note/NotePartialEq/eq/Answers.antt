use Rattle.{std.proofs.Common.{is_eq, sym, ◌∙◌, ap}, redact.specs.inner.Ties.withheld-ties}
use Rattle.redact.proofs.note.NotePartialEq.eq.Goals as goal

pub returns : goal.returns
returns c = c.is_eq.ensures ∙ ap is_eq c.compare.ensures ∙ sym (withheld-ties c.args.self.now c.args.other.now)
