use Rattle.{std.{proofs.Common.{◌≡◌, ℕ, List, map, take}, specs.Borrow.Bor}, redact_c.specs.Delivery.descriptions_of}
use Rattle.redact_c.proofs.delivery.descriptions.Given as goal

abbrev pub invariant-loop-one : goal.invariant-loop-one
invariant-loop-one l = map (λ (d : Bor (List ℕ)). d.now) l.views.items ≡ descriptions_of (take l.one-index l.asked)
