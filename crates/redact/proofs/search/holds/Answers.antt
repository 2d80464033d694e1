use Rattle.{std.proofs.Common.{sym, ◌∙◌, arith}, redact.proofs.Searching.hit_next}
use Rattle.redact.proofs.search.holds.Goals as goal

pub returns-then-member_hits : goal.returns-then-member_hits
returns-then-member_hits c =
    hit_next c.args.finder.now c.deref-member-items.result.now c.loop-member.member-index c.loop-member-item.result (omega arith) c.loop-member-item.is
    (sym c.if-member_hits.true ∙ c.member_hits.ensures) c.loop-member.invariant

pub loop-member-preserved : goal.loop-member-preserved
loop-member-preserved c =
    hit_next c.args.finder.now c.deref-member-items.result.now c.loop-member.member-index c.loop-member-item.result (omega arith) c.loop-member-item.is
    (sym c.if-member_hits.false ∙ c.member_hits.ensures) c.loop-member.invariant
