use Rattle.{std.proofs.Common.{◌≡◌, ◌++◌, drop}, hub_http.{proofs.ValuesSoFar.held, specs.{Parameters.{sole, values}, inner.Texts.pair_views}}}
use Rattle.hub_http.proofs.parameters.Parameters.optional.Given as goal

abbrev pub invariant-loop-pair : goal.invariant-loop-pair
invariant-loop-pair l =
    sole (held l.found ++ values l.name (pair_views (drop l.pair-index l.pair-items))) ≡ sole (values l.name (pair_views l.pair-items))
