use Rattle.{std.proofs.Common.{◌≡◌, Some, Ok}, sqlite.specs.Held.state, hub_state.specs.Reads.{case_of, naming_of}, hub_store.proofs.LookUps.Incidents.case_is}
use Rattle.hub_store.{proofs.LookUps.Reading.{read_then, read_gives}, specs.inner.{Queries.IsReadInside, Shown.IsCase}}
use Rattle.hub_store.proofs.find_case.read_case.Goals as goal

pub returns-in_ok-case-in-Some-clause-read : goal.returns-in_ok-case-in-Some-clause-read
returns-in_ok-case-in-Some-clause-read g c =
    let old = state g.S.Store c.args.tx.now.conn.now in
    let mid = state g.S.Store c.read_naming.new.tx.conn.now in
    let new = state g.S.Store c.read_policy.new.tx.conn.now in
    let n = c.args.incident in
    let k = c.in-Some.naming in
    let case = c.in_ok-case-in-Some.case in
    let first : IsReadInside old mid (λ s found. found ≡ naming_of n s) (Ok (Some k)) = rw c.in-Some.is at c.in_ok-naming.ensures.read in
    let both = read_then old mid new (λ s found. found ≡ naming_of n s) (IsCase k n) (Some k) (Ok case) first c.in_ok-case-in-Some.ensures.read in
    read_gives old new (λ s it. (Some k ≡ naming_of n s) × IsCase k n s it) (λ s found. found ≡ case_of n s) case (Some case) both (λ s sound it. case_is s n k case it.0 it.1)
