use Rattle.{std.{proofs.Common.{◌≡◌, drop}, specs.List.list_any}, hub_store.specs.inner.ShownPairs.{AreRising, is_one_of}}
use Rattle.hub_store.proofs.common_numbers.have_common.Given as goal

abbrev pub invariant-loop-number : goal.invariant-loop-number
invariant-loop-number l = AreRising l.others → list_any (is_one_of l.others) (drop l.number-index l.some) ≡ list_any (is_one_of l.others) l.some
