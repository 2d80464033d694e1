use Rattle.{std.{proofs.Common.{ℕ, get_or, Ok, true, false, rules, refl, sym, ap, subst, ◌∙◌}, specs.List.list_any}, circle.specs.Reads.communities_of}
use Rattle.hub_store.proofs.LookUps.{DirectorySets.communities_rise, Reading.{read_then, read_gives}, Stepping.{passed_over, settled, none_left}}
use Rattle.hub_store.specs.inner.ShownPairs.{AreRising, is_one_of, linked_with, are_linked}
use Rattle.hub_store.proofs.find_ties.read_others.Goals as goal

pub loop-community-init : goal.loop-community-init
loop-community-init g c = record {
  same_reference = search rules;
  read = read_gives _ _ _ _ c.in_ok-communities.communities tt c.in_ok-communities.ensures.read
      (λ s sound is. (is, ap (λ l. list_any (λ (n : ℕ). list_any (is_one_of l) (linked_with n s.directory)) c.args.own.now) is));
}

pub loop-community-preserved : goal.loop-community-preserved
loop-community-preserved g c =
    let others = c.in_ok-communities.communities.items in
    let own = c.args.own.now in
    let i = c.loop-community.community-index in
    record {
      same_reference = search rules;
      read = read_gives _ _ _ _ c.in_ok-read_linked.field-0 tt (read_then _ _ _ _ _ tt (Ok c.in_ok-read_linked.field-0) c.loop-community.invariant.read c.in_ok-read_linked.ensures.read)
          (λ s sound both. (
            both.0.0,
            passed_over (λ (n : ℕ). list_any (is_one_of others) (linked_with n s.directory)) own i (get_or own i 0) 0 (are_linked own (communities_of c.args.source s.directory) s.directory) c.loop-community-test.true refl both.0.1
                (sym c.if-branch.false ∙ (rw c.deref.ensures.value at both.1) (subst AreRising (sym both.0.0) (communities_rise c.args.source s.directory sound.directory))),
          ));
    }

pub returns-then-branch-clause-read : goal.returns-then-branch-clause-read
returns-then-branch-clause-read g c =
    let others = c.in_ok-communities.communities.items in
    let own = c.args.own.now in
    let i = c.loop-community.community-index in
    read_gives _ _ _ _ c.in_ok-read_linked.field-0 (record { communities = c.in_ok-communities.communities; connected = true }) (read_then _ _ _ _ _ tt (Ok c.in_ok-read_linked.field-0) c.loop-community.invariant.read c.in_ok-read_linked.ensures.read)
    (λ s sound both. (
      both.0.0,
      settled (λ (n : ℕ). list_any (is_one_of others) (linked_with n s.directory)) own i (get_or own i 0) 0 (are_linked own (communities_of c.args.source s.directory) s.directory) c.loop-community-test.true refl both.0.1
          (sym c.if-branch.true ∙ (rw c.deref.ensures.value at both.1) (subst AreRising (sym both.0.0) (communities_rise c.args.source s.directory sound.directory))),
    ))

pub returns-clause-read : goal.returns-clause-read
returns-clause-read g c =
    let others = c.in_ok-communities.communities.items in
    let own = c.args.own.now in
    read_gives _ _ _ _ tt (record { communities = c.in_ok-communities.communities; connected = false }) c.loop-community.invariant.read
    (λ s sound both. (both.0, none_left (λ (n : ℕ). list_any (is_one_of others) (linked_with n s.directory)) own c.loop-community.community-index (are_linked own (communities_of c.args.source s.directory) s.directory) c.loop-community-test.false both.1))
