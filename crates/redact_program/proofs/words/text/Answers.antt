use Rattle.{std.proofs.Common.{◌≡◌, ◌∙◌, List, ℕ, Option, Some, None, option_map, option_copied, Bor, refl}, clap.proofs.WalkLemmas.first_value-rows}
use Rattle.clap.specs.Words.{found_of}
use Rattle.redact_program.proofs.words.text.Goals as goal

copied : (o : Option (Bor (List ℕ))) → option_copied o ≡ option_map (λ s. s.now) o
copied (Some s) = refl
copied None = refl

pub returns : goal.returns
returns c = copied c.get_str.result ∙ c.get_str.ensures ∙ first_value-rows (found_of c.args.found.now) c.args.id.now
