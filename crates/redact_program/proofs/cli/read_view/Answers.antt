use Rattle.{std.proofs.Common.{◌≡◌, List, ℕ, [], Option, None, Ok, IfSome, rules, ap, subst}, redact_program.specs.Outcomes.{file_named, file_read}}
use Rattle.redact_program.specs.Streams.{Given}
use Rattle.redact_program.proofs.cli.read_view.Goals as goal

pub returns-in-None-clause-read : goal.returns-in-None-clause-read
returns-in-None-clause-read g c =
    let unnamed : None ≡ file_named c.args.asked.now = search rules in
    subst (λ (n : Option (List ℕ)). (file : Given) × IfSome n (λ name. g.H.Host.may_give c.args.host.now name file) × (Ok c.new.result.items ≡ file_read n file))
    unnamed (Ok [], tt, ap Ok c.new.ensures.items)
