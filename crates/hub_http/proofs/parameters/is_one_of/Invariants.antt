use Rattle.{std.proofs.Common.{◌≡◌, drop}, hub_http.specs.{Parameters.is_one_of, inner.Texts.texts}}
use Rattle.hub_http.proofs.parameters.is_one_of.Given as goal

abbrev pub invariant-loop-known : goal.invariant-loop-known
invariant-loop-known l = is_one_of (texts (drop l.known-index l.names)) l.name ≡ is_one_of (texts l.names) l.name
