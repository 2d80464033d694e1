use Rattle.{std.proofs.Common.{[], ◌∷◌, ◌++◌, take, ◌-◌, sym, ◌∙◌, ap}, iodef_tree.proofs.Outlines.{too_many, fits_is, shows_more}}
use Rattle.iodef_tree.specs.declared.shape.{Shape.Shape, Sibling.Sibling}
use Rattle.iodef_tree.proofs.shape.Shape.accept.Goals as goal

pub returns-in-None-clause-exact : goal.returns-in-None-clause-exact
returns-in-None-clause-exact c = λ before shows. sym (too_many c.args.self.now before c.args.line.now shows (sym c.counted_with.ensures ∙ c.in-None.is))

pub returns-then-not-branch-clause-exact : goal.returns-then-not-branch-clause-exact
returns-then-not-branch-clause-exact c = λ before shows.
    sym c.if-not-branch.true ∙ c.in_ok-fits.ensures ∙ fits_is c.args.self.now before c.args.line.now c.in-Some.counted shows (sym c.counted_with.ensures ∙ c.in-Some.is)

pub returns-clause-exact : goal.returns-clause-exact
returns-clause-exact c = λ before shows.
    sym c.if-not-branch.false ∙ c.in_ok-fits.ensures ∙ fits_is c.args.self.now before c.args.line.now c.in-Some.counted shows (sym c.counted_with.ensures ∙ c.in-Some.is)

pub returns-clause-shows : goal.returns-clause-shows
returns-clause-shows c = λ t before shows.
    let s = c.args.self.now in
    let l = c.args.line.now in
    let n = c.in-Some.counted in
    let few = sym c.counted_with.ensures ∙ c.in-Some.is in
    let new : Sibling = record { name = c.in_ok-name.name; in_array = l.in_array } in
    let after : Shape = record { alloc = s.alloc; last = c.push.new.self; deepest = c.next_depth-self.result; counted = n } in
    shows_more s after before l shows
    (sym (fits_is s before l n shows few) ∙ sym c.in_ok-fits.ensures ∙ c.if-not-branch.false)
    (c.in_ok-push.ensures.items
    ∙ ap (λ e. e ++ new ∷ []) c.truncate.ensures.items
    ∙ ap (λ m. take (l.depth - 1) s.last.items ++ (let k : Sibling = record { name = m; in_array = l.in_array } in k) ∷ []) c.in_ok-name.ensures.cases)
    c.next_depth-self.ensures
    few
