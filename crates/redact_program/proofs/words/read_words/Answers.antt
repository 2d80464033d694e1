use Rattle.{std.proofs.Common.{◌≡◌, ◌∙◌, List, IfOk, Option, map, true, refl, ap, subst}, clap.{proofs.OnLiterals.clap_on_literals, specs.Words.{App, Row}}}
use Rattle.{clap.specs.Words.{Text, app_of, is_simple, subcommand_of, subcommand_rows_of}, redact_program.specs.Words.{AsksFor, program}}
use Rattle.redact_program.proofs.words.read_words.Goals as goal

simple : is_simple program ≡ true
unfolding clap_on_literals
simple = refl

pub returns : goal.returns
returns c =
    let built : app_of c.in_ok-program.field-0 ≡ program = c.in_ok-program.ensures in
    let line : List Text = map (λ s. s.now) c.args.line.now in
    let met : subcommand_rows_of c.in_ok-matches.matches ≡ subcommand_of program line =
    (c.in_ok-matches.ensures.matches (ap is_simple built ∙ simple)).1 ∙ ap (λ (a : App). subcommand_of a line) built in
    subst (λ (o : Option (Text × List Row)). IfOk c.asked_in.result (AsksFor o)) met c.asked_in.ensures
