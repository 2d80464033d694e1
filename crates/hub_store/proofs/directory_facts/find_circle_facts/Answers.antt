use Rattle.{std.proofs.Common.{◌≡◌, subst, rules}, sqlite.specs.Held.state, circle.specs.Facts.facts_of, hub_store.proofs.LookUps.Answering.rolled}
use Rattle.hub_store.specs.inner.Queries.{IsReadOutside}
use Rattle.hub_state.specs.State as core
use Rattle.hub_store.proofs.directory_facts.find_circle_facts.Goals as goal

pub returns-clause-answers : goal.returns-clause-answers
returns-clause-answers g c =
    let end = c.rollback.new.self.0 in
    let same : end ≡ c.conn-1.given.0 = search rules in
    let result = c.read_facts-found.result in
    subst (λ h. IsReadOutside (state g.S.Store c.args.conn.now) (state g.S.Store h) (λ (s : core.State) facts. facts ≡ facts_of s.directory c.args.actor.now c.args.command.now) result) same
    (rolled g.S.Store c.args.conn.now c.read_facts-found.new.tx.conn.now end (λ (s : core.State) facts. facts ≡ facts_of s.directory c.args.actor.now c.args.command.now) result (rw c.transaction-tx.ensures.begun at c.read_facts-found.ensures.read) c.rollback.ensures.undone c.rollback.ensures.survives)
