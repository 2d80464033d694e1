use Rattle.{std.proofs.{Common.{[], ◌∷◌}, lemmas.{List.map-append, Result.IfOk-weaker}}, redact.specs.inner.Tokens.{token_of, path_of}}
use Rattle.redact.proofs.reader.Reader.step.Goals as goal

pub returns-clause-ahead : goal.returns-clause-ahead
returns-clause-ahead c =
    let trail = c.args.trail.now.items in
    let here = map-append token_of trail (c.args.token ∷ []) in
    IfOk-weaker c.further.result _ _ (λ a ahead. cc (ahead c.args.self.now.case.now c.args.self.now.standing.now (path_of trail) c.requires, here, c.in_ok-push.ensures.items)) c.further.ensures
