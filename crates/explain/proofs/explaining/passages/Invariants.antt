use Rattle.{std.proofs.Common.{◌≡◌, take}, explain.specs.Explanation.passages_on}
use Rattle.explain.proofs.explaining.passages.Given as goal

abbrev pub invariant-loop-token : goal.invariant-loop-token
invariant-loop-token l = record {
  here : l.here ≡ take l.token-index l.token-items;
  passages : l.passages.items ≡ passages_on l.case l.standing l.here;
}
