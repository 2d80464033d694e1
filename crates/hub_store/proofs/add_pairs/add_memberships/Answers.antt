use Rattle.{std.proofs.Common.{◌≡◌, map, ◌∙◌}, sqlite_trees.proofs.ListLemmas.map-map, hub_store.proofs.LookUps.{Adding.adds_all, Reading.read_made}}
use Rattle.hub_store.specs.{Rows.membership_pair, inner.{Adds.{Adds, pair_shown, membership_shown, membership_edit, membership_edits}, PairKinds.pairs_of}}
use Rattle.hub_store.specs.declared.pair_kind.PairKind.TheVariants as kind
use Rattle.hub_store.proofs.add_pairs.add_memberships.Goals as goal

pub returns-clause-read : goal.returns-clause-read
returns-clause-read g c =
    read_made _ _ (λ s shown. shown.items ≡ map pair_shown (pairs_of kind.Membership s.directory)) (Adds membership_edits c.args.rows) c.in_ok-shown.shown c.put_shown.result c.in_ok-shown.ensures.read
    (λ s sound is. adds_all membership_shown membership_edit s.directory.memberships c.in_ok-shown.shown.items c.args.rows c.put_shown.result (is ∙ map-map pair_shown membership_pair s.directory.memberships) (rw c.deref.ensures.value at c.put_shown.ensures))
