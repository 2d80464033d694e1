use Rattle.kept_documents.proofs.{Going.taken_among, Weights.{last_fits, last_gone}}
use Rattle.kept_documents.proofs.documents.shrink.Goals as goal

pub overflow_sub-left : goal.overflow_sub-left
overflow_sub-left c = rw c.weight-left.ensures (last_fits c.loop-left.kept.entries c.in-Some.field-0-0 c.in-Some.gone c.loop-left.left c.in-Some.ensures.value c.loop-left.invariant.counted)

pub loop-left-preserved : goal.loop-left-preserved
loop-left-preserved c = record {
  counted = rw c.weight-left.ensures (last_gone c.loop-left.kept c.pop_lru.new.self c.in-Some.field-0-0 c.in-Some.gone c.loop-left.left c.in-Some.ensures.value c.pop_lru.ensures.entries c.loop-left.invariant.counted);
  among = taken_among c.loop-left.kept c.pop_lru.new.self c.args.kept.now c.pop_lru.ensures.entries c.loop-left.invariant.among;
}
