use Rattle.{std.proofs.Common.{◌≡◌, drop}, redact.proofs.PrintedOrder.in_order}
use Rattle.redact.proofs.order.compare_bytes.Given as goal

abbrev pub invariant-loop-i : goal.invariant-loop-i
invariant-loop-i l =
    in_order l.one l.one_is_followed l.other l.other_is_followed ≡ in_order (drop l.i l.one) l.one_is_followed (drop l.i l.other) l.other_is_followed
