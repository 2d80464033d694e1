use Rattle.{std.proofs.Common.{◌+◌, ap, ap₂, ◌∙◌}, redaction.{proofs.SoFar.{item-read, items-end}, specs.{Readings.at, Values.number_in}}}
use Rattle.redaction.specs.{declared.place.Step.TheVariants.Item, inner.SoFar.unless}
use Rattle.redaction.proofs.value.each_number.Goals as goal

pub loop-item-preserved : goal.loop-item-preserved
loop-item-preserved c = record {
  counted = ap (λ n. n + 1) c.loop-item.invariant.counted;
  read = item-read number_in c.deref-item-items.result.now _ c.loop-item.item-index c.item-item.result c.at.result (c.loop-item.first, c.loop-item.found.items) (c.collect.new.first, c.collect.new.found.items)
      c.loop-item-test.true c.item-item.is (c.at.ensures ∙ ap₂ (λ k r. at (Item k) r) c.loop-item.invariant.counted c.number_in.ensures) c.in_ok-collect.ensures c.loop-item.invariant.read;
}

pub returns : goal.returns
returns c =
    c.unless.ensures ∙ ap (unless c.loop-item.first) c.new.ensures
    ∙ items-end number_in c.deref-item-items.result.now _ c.loop-item.item-index c.loop-item.first c.loop-item.found.items c.loop-item-test.false c.loop-item.invariant.read
