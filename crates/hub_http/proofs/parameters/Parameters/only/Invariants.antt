use Rattle.{std.{proofs.Common.{◌≡◌, drop}, specs.List.list_all}, hub_http.specs.{Parameters.is_one_of, inner.Texts.{pair_views, texts}}}
use Rattle.hub_http.proofs.parameters.Parameters.only.Given as goal

abbrev pub invariant-loop-pair : goal.invariant-loop-pair
invariant-loop-pair l =
    list_all (λ pair. is_one_of (texts l.names) pair.0) (pair_views (drop l.pair-index l.pair-items))
    ≡ list_all (λ pair. is_one_of (texts l.names) pair.0) (pair_views l.pair-items)
