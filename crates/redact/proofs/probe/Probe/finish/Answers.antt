use Rattle.{std.proofs.Common.{rules, ◌≡◌, true, None, sym, ◌∙◌, ap, subst}, iodef_tree.specs.{Outline.is_outline, Paths.located}}
use Rattle.{marking.specs.Marks.first_bad_marking, redact.{proofs.Sure.{sure-now, known-outline}, specs.{Probed.ProbeState, Wants.meets}}}
use Rattle.redact.proofs.probe.Probe.finish.Goals as goal

pub returns-then-met-clause-told : goal.returns-then-met-clause-told
returns-then-met-clause-told c =
    let p = c.self.inside in
    subst (λ (q : ProbeState). q.fed.fault ≡ None → first_bad_marking (located q.fed.lines) ≡ None → true ≡ meets q.want q.fed.lines q.case q.standing) c.self.view_is (λ unfaulted marked.
    sym (sure-now p.want p.fed.lines p.case p.standing (c.self.invariant.0 c.if-met.true) (known-outline p.want p.case p.standing p.fed.lines p.met p.seeker (c.self.invariant.1 unfaulted)) marked))

pub document_of-requires : goal.document_of-requires
document_of-requires c =
    let p = c.self.inside in
    let unfaulted : p.fault ≡ None = search rules in
    let known = c.self.invariant.1 unfaulted in
    ap is_outline (known.lines c.if-met.false) ∙ known-outline p.want p.case p.standing p.fed.lines p.met p.seeker known
