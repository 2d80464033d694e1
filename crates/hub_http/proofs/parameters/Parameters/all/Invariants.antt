use Rattle.{std.proofs.Common.{◌≡◌, ◌++◌, drop}, hub_http.specs.{Parameters.values, inner.Texts.{pair_views, texts}}}
use Rattle.hub_http.proofs.parameters.Parameters.all.Given as goal

abbrev pub invariant-loop-pair : goal.invariant-loop-pair
invariant-loop-pair l =
    texts l.found.items ++ values l.name (pair_views (drop l.pair-index l.pair-items)) ≡ values l.name (pair_views l.pair-items)
