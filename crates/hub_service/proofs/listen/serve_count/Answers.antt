use Rattle.{std.proofs.Common.{◌≡◌, refl, arith}, hub_service.proofs.Served.{none_asked, runs_on}}
use Rattle.hub_service.proofs.listen.serve_count.Goals as goal

pub loop-init : goal.loop-init
loop-init g c = record {
  run = λ clean. none_asked g.Sh.Shelf.has g.Sh.Shelf.may_remain c.args.hub.now c.args.hub.now 0 refl;
  later = omega arith;
  doubt = omega arith;
}

pub loop-preserved : goal.loop-preserved
loop-preserved g c = record {
  run = λ clean.
      let before : g.Sh.Shelf.doubts c.loop.hub ≡ 0 = omega (arith, c.serve_next.ensures.doubt) in
      runs_on g.Sh.Shelf.has g.Sh.Shelf.may_remain c.args.hub.now c.loop.hub c.serve_next.new.hub c.loop.counter 1 (c.loop.invariant.run before) (c.serve_next.ensures.run clean);
  later = omega (arith, c.loop.invariant.later, c.serve_next.ensures.later);
  doubt = omega (arith, c.loop.invariant.doubt, c.serve_next.ensures.doubt);
}
