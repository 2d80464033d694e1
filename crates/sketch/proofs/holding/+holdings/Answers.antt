use Rattle.{std.proofs.Common.{arith, map}, sketch.{proofs.Texts.{left_next, below_next}, specs.inner.Held.shown}}
use Rattle.sketch.proofs.holding.+holdings.Goals as goal

pub push_below-loop-name-preserved : goal.push_below-loop-name-preserved
push_below-loop-name-preserved t c = record {
  held = below_next c.deref-name-items.result.now c.loop-name.name-index c.loop-name-item.result c.loop-name.left.now (map shown c.loop-name.held.items) (omega arith) c.loop-name-item.is c.as_str.ensures
      c.in_ok-left.ensures.left c.in_ok-left.ensures.held c.loop-name.invariant.held;
  left = left_next c.deref-name-items.result.now c.loop-name.name-index c.loop-name-item.result c.loop-name.left.now (omega arith) c.loop-name-item.is c.in_ok-left.ensures.left c.loop-name.invariant.left;
}
