use Rattle.{std.proofs.Common.arith, kept_documents.proofs.{Going.{kept_others, light_others}, Weights.{none_gone, one_gone}}}
use Rattle.kept_documents.proofs.documents.Documents.let_go_of.Goals as goal

pub returns-in-Some : goal.returns-in-Some
returns-in-Some g c = kept_others c.args.incident c.self.inside.kept c.pop_entry.new.self c.args.self.now c.len-count.ensures.valid c.pop_entry.ensures.entries c.self.view_is

pub returns-in_default : goal.returns-in_default
returns-in_default g c = kept_others c.args.incident c.self.inside.kept c.pop_entry.new.self c.args.self.now c.len-count.ensures.valid c.pop_entry.ensures.entries c.self.view_is

pub invariant_of-self : goal.invariant_of-self
invariant_of-self g c = (
  rw c.weight.ensures (one_gone c.args.incident c.self.inside.kept c.pop_entry.new.self c.in-Some.field-0-0 c.in-Some.gone c.self.inside.weight c.in-Some.ensures.value c.pop_entry.ensures.entries c.self.invariant.0),
  omega (arith, c.self.invariant.1),
  light_others c.args.incident c.self.inside.kept c.pop_entry.new.self c.len-count.ensures.valid c.pop_entry.ensures.entries c.self.invariant.2,
)

pub invariant_of-self-in_default : goal.invariant_of-self-in_default
invariant_of-self-in_default g c = (
  none_gone c.args.incident c.self.inside.kept c.pop_entry.new.self c.self.inside.weight c.pop_entry.ensures.entries c.self.invariant.0,
  c.self.invariant.1,
  light_others c.args.incident c.self.inside.kept c.pop_entry.new.self c.len-count.ensures.valid c.pop_entry.ensures.entries c.self.invariant.2,
)
