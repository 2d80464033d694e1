use Rattle.{std.proofs.Common.{◌≡◌, ◌≤◌}, hub_service.specs.Serving.HasRun}
use Rattle.hub_service.proofs.listen.serve_count.Given as goal

abbrev pub invariant-loop : goal.invariant-loop
invariant-loop g l =
    let shelf = g.Sh.Shelf in
    record {
      run : shelf.doubts l.hub ≡ 0 → HasRun shelf.has shelf.may_remain l.fn.hub l.hub l.counter;
      later : shelf.failed l.fn.hub ≤ shelf.failed l.hub;
      doubt : shelf.doubts l.fn.hub ≤ shelf.doubts l.hub;
    }
