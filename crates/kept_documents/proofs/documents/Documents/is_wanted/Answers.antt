use Rattle.kept_documents.proofs.{Going.{kept_promoted, light_promoted}, Weights.promoted_fits}
use Rattle.kept_documents.proofs.documents.Documents.is_wanted.Goals as goal

pub returns-then-promote : goal.returns-then-promote
returns-then-promote g c = kept_promoted c.args.incident c.self.inside.kept c.promote.new.self c.args.self.now c.promote.ensures.entries c.self.view_is

pub returns-then-not-promote : goal.returns-then-not-promote
returns-then-not-promote g c = kept_promoted c.args.incident c.self.inside.kept c.promote.new.self c.args.self.now c.promote.ensures.entries c.self.view_is

pub returns : goal.returns
returns g c = kept_promoted c.args.incident c.self.inside.kept c.promote.new.self c.args.self.now c.promote.ensures.entries c.self.view_is

pub invariant_of-self : goal.invariant_of-self
invariant_of-self g c = (
  promoted_fits c.args.incident c.self.inside.kept c.promote.new.self c.self.inside.weight c.promote.ensures.entries c.self.invariant.0,
  c.self.invariant.1,
  light_promoted c.args.incident c.self.inside.kept c.promote.new.self c.promote.ensures.entries c.self.invariant.2,
)

pub invariant_of-self-then-not-promote : goal.invariant_of-self-then-not-promote
invariant_of-self-then-not-promote g c = (
  promoted_fits c.args.incident c.self.inside.kept c.promote.new.self c.self.inside.weight c.promote.ensures.entries c.self.invariant.0,
  c.self.invariant.1,
  light_promoted c.args.incident c.self.inside.kept c.promote.new.self c.promote.ensures.entries c.self.invariant.2,
)

pub invariant_of-self-2 : goal.invariant_of-self-2
invariant_of-self-2 g c = (
  promoted_fits c.args.incident c.self.inside.kept c.promote.new.self c.self.inside.weight c.promote.ensures.entries c.self.invariant.0,
  c.self.invariant.1,
  light_promoted c.args.incident c.self.inside.kept c.promote.new.self c.promote.ensures.entries c.self.invariant.2,
)
