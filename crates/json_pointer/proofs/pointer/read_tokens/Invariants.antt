use Rattle.{std.{proofs.Common.◌≡◌, specs.Str.{Iter.split_steps, Pattern.FindsChar}}, json_pointer.{proofs.Unescaping.Comes, specs.Pointer.slash_separated}}
use Rattle.json_pointer.proofs.pointer.read_tokens.Given as goal

abbrev pub invariant-loop-token : goal.invariant-loop-token
invariant-loop-token l = Comes (split_steps FindsChar (λ a b. b ≡ a)) (λ x. x.now) (slash_separated l.written) l.token-iterator l.tokens.items
