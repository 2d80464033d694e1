use Rattle.{std.proofs.Common.{◌≡◌, List, Option, Some, None, option_map, rules, subst, IsSomeAnd}, clap.specs.Words.{Row, Text, found_of, rows_of}}
use Rattle.{clap.specs.Words.{subcommand_name_of, subcommand_rows_of}, redact_program.specs.Words.AsksBy}
use Rattle.redact_program.proofs.words.asked_in.Goals as goal

-- a name and rows that are read apart are read together
both_read : {X A B : Type 0} (f : X → A) (h : X → B) (o : Option X) (a : A) (b : B) → Some a ≡ option_map f o
    → Some b ≡ option_map (λ (p : A × B). p.1) (option_map (λ x. (f x, h x)) o)
    → (let both : A × B = (a, b) in Some both ≡ option_map (λ x. (f x, h x)) o)
both_read f h None a b p q = cc
both_read f h (Some x) a b p q = cc

pub returns-in-None : goal.returns-in-None
returns-in-None c =
    let name : Some c.in-Some.command.now ≡ subcommand_name_of c.args.matches.now = search rules in
    let rows : Some (rows_of (found_of c.in-Some.found.now)) ≡ option_map (λ p. p.1) (subcommand_rows_of c.args.matches.now) = search rules in
    let asked : Text × List Row = (c.in-Some.command.now, rows_of (found_of c.in-Some.found.now)) in
    let met : Some asked ≡ subcommand_rows_of c.args.matches.now = both_read _ _ _ _ _ name rows in (
      subst (λ (o : Option (Text × List Row)). IsSomeAnd o (λ p. AsksBy p.0 p.1 c.asked_by-asked.result)) met c.asked_by-asked.ensures,
      c.wrong_with_words.ensures (search rules),
    )
