use Rattle.{std.proofs.Common.{◌≡◌, ◌∷◌, [], sym, subst}, json_text.{proofs.Escapes.{plain-text, plain-token}, specs.Shown.shown_byte}}
use Rattle.json_text.proofs.escape.is_plain.Goals as goal

pub returns-in-Text : goal.returns-in-Text
returns-in-Text c = λ h. subst (λ w. shown_byte w c.args.byte ≡ c.args.byte ∷ []) (sym c.in-Text.is) (plain-text c.args.byte h)

pub returns-in-Token : goal.returns-in-Token
returns-in-Token c = λ h. subst (λ w. shown_byte w c.args.byte ≡ c.args.byte ∷ []) (sym c.in-Token.is) (plain-token c.args.byte h)
