use Rattle.{std.proofs.Common.None, hub_service.proofs.Served.serves_run}
use Rattle.hub_service.proofs.listen.serve_stream.Goals as goal

pub returns-in_err-served-clause-run : goal.returns-in_err-served-clause-run
returns-in_err-served-clause-run g c =
    let shelf = g.Sh.Shelf in
    serves_run shelf.has shelf.doubts shelf.failed shelf.may_remain c.args.hub.now c.serve_one.new.hub _ None None None None c.serve_one.result c.serve_one.ensures.served

pub returns-clause-run : goal.returns-clause-run
returns-clause-run g c =
    let shelf = g.Sh.Shelf in
    serves_run shelf.has shelf.doubts shelf.failed shelf.may_remain c.args.hub.now c.serve_one.new.hub _ None None None None c.serve_one.result c.serve_one.ensures.served
