use Rattle.{std.{proofs.Common.{◌≡◌, drop}, specs.List.list_all}, policy.specs.Numbers.is_among}
use Rattle.redaction.proofs.reader.require_active.Given as goal

abbrev pub invariant-loop-number : goal.invariant-loop-number
invariant-loop-number l =
    list_all (λ n. is_among n l.groups) (drop l.number-index l.number-items) ≡ list_all (λ n. is_among n l.groups) l.active
