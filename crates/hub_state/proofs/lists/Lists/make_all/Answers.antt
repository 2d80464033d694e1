use Rattle.{std.{proofs.Common.{◌∙◌, sym, ap, subst, map, length, add-one}, specs.Vec.Iter.into_iter_items}, hub_state.specs.{Edits.with_edits, Lists.HasRoom}}
use Rattle.hub_state.specs.{Lists.with_directory, inner.Changes.row_edit}
use Rattle.hub_state.proofs.lists.Lists.make_all.Goals as goal

pub loop-change-preserved : goal.loop-change-preserved
loop-change-preserved c = record {
  left = λ d. ap (with_edits (map row_edit (into_iter_items c.next.new.self))) (c.make.ensures.made d)
      ∙ (sym (ap (λ l. with_edits (map row_edit l) (with_directory d c.loop-change.self)) c.in-Some.ensures.steps.0) ∙ c.loop-change.invariant.left d);
  in_order = c.make.ensures.in_order;
  room = c.make.ensures.room (length (into_iter_items c.next.new.self))
      (subst (λ n. HasRoom n c.loop-change.self) (sym (add-one _)) (subst (λ l. HasRoom (length l) c.loop-change.self) c.in-Some.ensures.steps.0 c.loop-change.invariant.room));
}
