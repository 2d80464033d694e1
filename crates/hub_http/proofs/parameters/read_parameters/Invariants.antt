use Rattle.{std.proofs.Common.{◌≡◌, ◌++◌, map}, form_urlencoded.specs.Parse.pairs_left, hub_http.specs.Parameters.{pairs_of, decoded_pair}}
use Rattle.hub_http.specs.inner.Texts.{pair_views}
use Rattle.hub_http.proofs.parameters.read_parameters.Given as goal

abbrev pub invariant-loop-pair : goal.invariant-loop-pair
invariant-loop-pair l =
    pair_views l.pairs.items ++ map decoded_pair (pairs_left l.pair-iterator) ≡ pairs_of l.form
