use Rattle.{std.{proofs.Common.{rules, ◌≡◌, true, false, refl, sym, ◌∙◌, ap}, specs.List.list_any}, iodef_tree.specs.Outline.back, redact.proofs.Sure.takes-met}
use Rattle.redact.{proofs.{Sure.takes-more, Taking.more-outline}, specs.inner.Seeking.is_settled}
use Rattle.redact.proofs.open_classes.Seeker.take.Goals as goal

pub returns-then-not-branch-clause-bad : goal.returns-then-not-branch-clause-bad
returns-then-not-branch-clause-bad c bad ls h =
    let refused : c.in_ok-accept.field-0 ≡ false = search rules in
    more-outline ls c.args.line h.shows.outline ∙ sym (c.in_ok-accept.ensures.exact (back ls) h.shows) ∙ refused

pub returns-then-met-clause-ok : goal.returns-then-met-clause-ok
returns-then-met-clause-ok c ls h =
    let fits : c.in_ok-accept.field-0 ≡ true = search rules in
    takes-met c.args.want.now c.args.case.now c.args.standing.now ls c.args.met c.args.line c.args.self.now _ h
    (sym (c.in_ok-accept.ensures.exact (back ls) h.shows) ∙ fits) (c.in_ok-accept.ensures.shows fits (back ls) h.shows) refl c.if-met.true

pub returns-clause-ok : goal.returns-clause-ok
returns-clause-ok c ls h =
    let fits : c.in_ok-accept.field-0 ≡ true = search rules in
    takes-more c.args.want.now c.args.case.now c.args.standing.now ls c.args.met c.args.line c.args.self.now _ h
    (sym (c.in_ok-accept.ensures.exact (back ls) h.shows) ∙ fits) (c.in_ok-accept.ensures.shows fits (back ls) h.shows) refl
    c.if-met.false c.in_ok-keep.ensures c.in_ok-opened.opened c.in_ok-note.ensures refl c.in_ok-opened.ensures.steps c.in_ok-opened.ensures.opened c.is_found.result (c.is_found.ensures ∙ ap (list_any is_settled) c.as_slice.ensures.value)
