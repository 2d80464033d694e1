use Rattle.{std.{proofs.Common.{◌≡◌, ◌∙◌, map, true, Ok, sym}, specs.List.list_any}, hub_store.proofs.LookUps.Reading.{read_then, read_gives}}
use Rattle.hub_store.{proofs.LookUps.Stepping.{found_above, found_below}, specs.{Pairs.Pair, inner.{PairKinds.{pairs_from, pairs_to}, ShownPairs.AreRising}}}
use Rattle.hub_store.specs.inner.ShownPairs.{is_one_of, linked_with}
use Rattle.hub_store.specs.declared.pair_kind.PairKind.TheVariants as kind
use Rattle.hub_store.proofs.find_ties.read_linked.Goals as goal

pub returns-then-have_common-clause-read : goal.returns-then-have_common-clause-read
returns-then-have_common-clause-read g c =
    let n = c.args.community in
    let others = c.args.others.now in
    read_gives _ _ (λ s above. above.items ≡ map (λ (p : Pair). p.0.1) (pairs_from kind.Connection n s.directory)) (λ s found. AreRising others → found ≡ list_any (is_one_of others) (linked_with n s.directory)) c.in_ok-above.above true c.in_ok-above.ensures.read
    (λ s sound is up. found_above others n s.directory c.in_ok-above.above.items is (sym c.if-have_common.true ∙ (rw c.deref.ensures.value at c.have_common.ensures) up))

pub returns-clause-read : goal.returns-clause-read
returns-clause-read g c =
    let n = c.args.community in
    let others = c.args.others.now in
    read_gives _ _ (λ s below. (c.in_ok-above.above.items ≡ map (λ (p : Pair). p.0.1) (pairs_from kind.Connection n s.directory)) × (below.items ≡ map (λ (p : Pair). p.0.0) (pairs_to kind.Connection n s.directory))) (λ s found. AreRising others → found ≡ list_any (is_one_of others) (linked_with n s.directory)) c.in_ok-below.below c.have_common-2.result
    (read_then _ _ _ (λ s above. above.items ≡ map (λ (p : Pair). p.0.1) (pairs_from kind.Connection n s.directory)) (λ s below. below.items ≡ map (λ (p : Pair). p.0.0) (pairs_to kind.Connection n s.directory)) c.in_ok-above.above (Ok c.in_ok-below.below) c.in_ok-above.ensures.read c.in_ok-below.ensures.read)
    (λ s sound both up. (rw c.deref-2.ensures.value at c.have_common-2.ensures) up ∙ found_below others n s.directory c.in_ok-above.above.items both.0 c.in_ok-below.below.items both.1 (sym c.if-have_common.false ∙ (rw c.deref.ensures.value at c.have_common.ensures) up))
