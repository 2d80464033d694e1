use Rattle.{std.{proofs.Common.{IfOk, Result, subst}, specs.declared.alloc.AllocError.AllocError}, clap.specs.declared.builder.Command.Command}
use Rattle.redact_program.{proofs.Commands.adds_command, specs.Words.IsCommand}
use Rattle.redact_program.proofs.words.with.Goals as goal

pub returns : goal.returns
returns c = λ app sub built plain is. adds_command _ _ c.subcommand.result app sub c.subcommand.ensures built plain
    (subst (λ (r : Result Command AllocError). IfOk r (λ m. IsCommand m sub)) c.in_ok-command.was is)
