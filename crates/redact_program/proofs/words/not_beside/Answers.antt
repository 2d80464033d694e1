use Rattle.{std.proofs.Common.{Result, Ok, Err, IfOk, List, ℕ, Bor, [], ◌∷◌}, clap.specs.{Words.{AddsConflicts, Rule}, declared.builder.Arg.Arg}}
use Rattle.redact_program.{proofs.Commands.conflicts, specs.Words.{IsArg, bound}}
use Rattle.redact_program.proofs.words.not_beside.Goals as goal

conflicting : {E : Type 0} (old : Arg) (x : Bor (List ℕ)) (rule : Rule) (r : Result Arg E) → IfOk r (λ new. AddsConflicts old new (x ∷ []))
    → IsArg old rule → IfOk r (λ a. IsArg a (bound rule))
conflicting old x rule (Ok new) h is = conflicts old new x rule h is
conflicting old x rule (Err e) h is = tt

pub returns : goal.returns
returns c = λ rule is. conflicting c.args.option c.args.other rule c.conflicts_with.result c.conflicts_with.ensures is
