use Rattle.{std.{proofs.Common.{◌==◌, List, ℕ, length, ap}, specs.Char.encode_utf8}, json_pointer.proofs.Unescaping.pointer_tokens-none}
use Rattle.json_pointer.proofs.path.Path.parse.Goals as goal

pub returns-in_default-clause-bad : goal.returns-in_default-clause-bad
unfolding encode_utf8
returns-in_default-clause-bad c =
    λ same. pointer_tokens-none c.args.text.now (λ e. let is_empty = ap (λ (t : List ℕ). length t == 0) e in cc) c.in_default.ensures.cases
