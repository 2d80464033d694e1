-- Texts that begin with another.
use Rattle.{std.proofs.Common.{◌≡◌, [], ◌++◌, sym, ◌∙◌, ap, append-nil, append_assoc}, json_pointer.specs.Text.{Bytes, BeginsWith}}

pub begins_with-same : (text front : Bytes) → text ≡ front → BeginsWith text front
begins_with-same text front e = ([], e ∙ sym (append-nil front))

pub begins_with-more : (text more front rest : Bytes) → BeginsWith text front → more ≡ text ++ rest → BeginsWith more front
begins_with-more text more front rest (r, is) e = (r ++ rest, e ∙ ap (λ (x : Bytes). x ++ rest) is ∙ append_assoc front r rest)

pub begins_with-through : (text between front : Bytes) → BeginsWith text between → BeginsWith between front → BeginsWith text front
begins_with-through text between front (r, is) h = begins_with-more between text front r h is
