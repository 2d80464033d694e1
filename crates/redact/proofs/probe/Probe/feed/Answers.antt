use Rattle.{std.proofs.Common.{rules, ◌≡◌, None, Ok, sym, subst}, redact.{proofs.Sure.{takes-sure, state, probes}, specs.Probed.{ProbeState, ProbesLine}}}
use Rattle.redact.specs.{Probed.IsSure, inner.Seeking.IsKnown}
use Rattle.redact.proofs.probe.Probe.feed.Goals as goal

pub invariant_of-self : goal.invariant_of-self
invariant_of-self c =
    let p = c.self.inside in
    let unfaulted : p.fault ≡ None = search rules in
    let takes = c.in-Ok.ensures.ok p.fed.lines (c.self.invariant.1 unfaulted) in (
      λ met. subst (λ ls. IsSure p.want ls p.case p.standing) (sym c.with_line-fed.ensures)
          (takes-sure p.want p.case p.standing p.fed.lines p.met c.args.line c.in-Ok.met c.take.new.self takes c.self.invariant.0 met),
      λ none. subst (λ ls. IsKnown p.want p.case p.standing ls c.in-Ok.met c.take.new.self) (sym c.with_line-fed.ensures) takes.known,
    )

pub returns-in-Ok : goal.returns-in-Ok
returns-in-Ok c =
    let p = c.self.inside in
    let unfaulted : p.fault ≡ None = search rules in
    let takes = c.in-Ok.ensures.ok p.fed.lines (c.self.invariant.1 unfaulted) in
    subst (λ (q : ProbeState). ProbesLine q c.args.line (Ok c.in-Ok.met) (state p.want p.case p.standing c.with_line-fed.result.lines p.fault c.in-Ok.met)) c.self.view_is
    (probes p.want p.case p.standing p.fed.lines c.with_line-fed.result.lines p.fault p.met c.args.line c.in-Ok.met c.take.new.self unfaulted c.with_line-fed.ensures takes c.self.invariant.0)
