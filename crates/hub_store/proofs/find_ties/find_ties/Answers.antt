use Rattle.{std.proofs.Common.{◌≡◌, subst, rules}, sqlite.specs.Held.state, hub_state.specs.{Reads.ties_of, declared.look_ups.Ties.Ties}}
use Rattle.hub_store.{proofs.LookUps.Answering.rolled, specs.inner.Queries.IsReadOutside}
use Rattle.hub_state.specs.State as core
use Rattle.hub_store.proofs.find_ties.find_ties.Goals as goal

pub returns-clause-answers : goal.returns-clause-answers
returns-clause-answers g c =
    let old = c.args.conn.now in
    let mid = c.read_ties-found.new.tx.conn.now in
    let end = c.rollback.new.self.0 in
    let same : end ≡ c.conn-1.given.0 = search rules in
    let Right = λ (s : core.State) (found : Ties). found ≡ ties_of c.args.org c.args.source c.args.named s in
    subst (λ h. IsReadOutside (state g.S.Store old) (state g.S.Store h) Right c.read_ties-found.result) same
    (rolled g.S.Store old mid end Right c.read_ties-found.result (rw c.transaction-tx.ensures.begun at c.read_ties-found.ensures.read)
    c.rollback.ensures.undone c.rollback.ensures.survives)
