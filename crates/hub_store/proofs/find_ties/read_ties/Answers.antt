use Rattle.{std.proofs.Common.{◌≡◌, Ok}, circle.specs.Reads.{communities_of, arranged}, hub_state.specs.Reads.ties_of}
use Rattle.hub_store.proofs.LookUps.{Reading.{read_then, read_gives}, Ties.ties_are}
use Rattle.hub_store.proofs.find_ties.read_ties.Goals as goal

pub returns-clause-read : goal.returns-clause-read
returns-clause-read g c =
    let org = c.args.org in
    let source = c.args.source in
    let own = c.in_ok-own.own in
    let others = c.in_ok-others.others in
    let arrangement = c.in_ok-arrangement.arrangement in
    read_gives _ _ _ (λ s found. found ≡ ties_of org source c.args.named s) arrangement c.ties_with.result
    (read_then _ _ _ _ (λ s found. found ≡ arranged source org s.directory) others (Ok arrangement)
    (read_then _ _ _ (λ s found. found.items ≡ communities_of org s.directory) _ own (Ok others) c.in_ok-own.ensures.read c.in_ok-others.ensures.read)
    c.in_ok-arrangement.ensures.read)
    (λ s sound both.
    ties_are org source own.items others.communities.items s both.0.0 both.0.1.0 c.args.named others.connected arrangement
    c.ties_with.result sound.directory (rw c.deref.ensures.value at both.0.1.1) both.1 (rw c.deref-2.ensures.value at c.ties_with.ensures))
