use Rattle.{std.proofs.Common.{length, sym, ap, ◌∙◌}, redaction.proofs.Numbers.count-is}
use Rattle.redaction.proofs.value.count_of.Goals as goal

pub returns : goal.returns
returns c = ap length c.as_slice.ensures.value ∙ sym (count-is c.args.items.now.items)
