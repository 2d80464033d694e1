-- How an organisation stands to a source, by the communities of both.
use Rattle.{std.{proofs.Common.{◌≡◌, ℕ, List, Bool, Option, Some, None, refl, sym, ap, subst, ◌∙◌}, specs.List.list_any}, circle.specs.Reads.communities_of}
use Rattle.{circle.specs.{Reads.{share_community, are_connected, arranged}, declared.directory.Handling.Handling}, hub_state.specs.State.State}
use Rattle.{hub_state.specs.declared.look_ups.Ties.Ties, hub_store.proofs.LookUps.DirectorySets.{among_communities, communities_rise, share_is, connected_from}}
use Rattle.hub_store.specs.inner.ShownPairs.{AreRising, is_one_of, are_linked, is_peer, ties_between}
use Rattle.circle.specs.Sound as circle
use Rattle.hub_state.specs.Reads as core

module _ (org source : ℕ) (own others : List ℕ) (s : State) (is : own ≡ communities_of org s.directory) (also : others ≡ communities_of source s.directory) where
  shares : list_any (is_one_of others) own ≡ share_community org source s.directory
  shares =
      ap (λ l. list_any (is_one_of l) own) also
      ∙ (ap (list_any (is_one_of (communities_of source s.directory))) is ∙ share_is org source s.directory)

  peers : (named : Option ℕ) → is_peer own named (list_any (is_one_of others) own) ≡ core.is_peer org source named s.directory
  peers None = shares
  peers (Some n) = ap (λ l. is_one_of l n) is ∙ among_communities n org s.directory

  pub ties_are : (named : Option ℕ) (connected : Bool) (a : Option Handling) (found : Ties) → circle.IsSound s.directory → connected ≡ are_linked own (communities_of source s.directory) s.directory → a ≡ arranged source org s.directory
      → (AreRising own → AreRising others → found ≡ ties_between own others named connected a) → found ≡ core.ties_of org source named s
  ties_are named connected a found sound linked arrangement made =
      let joined : connected ≡ are_connected org source s.directory = linked ∙ connected_from org source s.directory own (communities_of source s.directory) is refl in
      made (subst AreRising (sym is) (communities_rise org s.directory sound)) (subst AreRising (sym also) (communities_rise source s.directory sound))
      ∙ (λ i. record { community = shares i; peer = peers named i; connected = joined i; arrangement = arrangement i })
