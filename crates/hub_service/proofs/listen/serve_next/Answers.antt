use Rattle.{std.proofs.Common.refl, hub_service.proofs.Served.none_asked}
use Rattle.hub_service.proofs.listen.serve_next.Goals as goal

pub returns-in_default-clause-run : goal.returns-in_default-clause-run
returns-in_default-clause-run g c = λ clean. none_asked g.Sh.Shelf.has g.Sh.Shelf.may_remain c.args.hub.now c.args.hub.now 1 refl

pub returns-clause-run : goal.returns-clause-run
returns-clause-run g c = λ clean. none_asked g.Sh.Shelf.has g.Sh.Shelf.may_remain c.args.hub.now c.args.hub.now 1 refl
