use Rattle.{hub_state.specs.Shelves.IsKept, kept_rows.specs.Drawn.Keeps}
use Rattle.hub_program.proofs.opening.draw_all.Given as goal

abbrev pub invariant-loop : goal.invariant-loop
invariant-loop g l =
    let shelf = g.Sh.Shelf in
    IsKept (λ k s. shelf.has k.shelf s × Keeps k.rows k.sketches k.seen s) (λ k. shelf.doubts k.shelf) (λ k. shelf.failed k.shelf)
    (λ k left. shelf.may_remain k.shelf left) l.fn.kept l.kept
