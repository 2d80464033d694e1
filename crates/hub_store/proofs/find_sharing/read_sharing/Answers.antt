use Rattle.{std.{proofs.Common.{◌≡◌, List, Some, Ok, ap, ◌∙◌}, specs.Prelude.option_map}, sqlite.specs.Held.state, hub_state.specs.Reads.naming_of}
use Rattle.hub_state.specs.{Reads.{its_recipients, shared_as, sharing_of}, declared.{look_ups.Shared.Shared, request.Target.Target}}
use Rattle.hub_store.{proofs.LookUps.Reading.{read_then, read_gives}, specs.inner.Queries.IsReadInside}
use Rattle.hub_store.proofs.find_sharing.read_sharing.Goals as goal

pub returns-in_ok-recipients-in-Some-clause-read : goal.returns-in_ok-recipients-in-Some-clause-read
returns-in_ok-recipients-in-Some-clause-read g c =
    let old = state g.S.Store c.args.tx.now.conn.now in
    let mid = state g.S.Store c.read_naming.new.tx.conn.now in
    let new = state g.S.Store c.read_recipients.new.tx.conn.now in
    let n = c.args.incident in
    let k = c.in-Some.naming in
    let recipients = c.in_ok-recipients-in-Some.recipients in
    let shared : List Target → Shared = λ r. record { naming = k; recipients = r } in
    let first : IsReadInside old mid (λ s found. found ≡ naming_of n s) (Ok (Some k)) = rw c.in-Some.is at c.in_ok-found.ensures.read in
    let both = read_then old mid new (λ s found. found ≡ naming_of n s) (λ s found. found ≡ its_recipients k.number s.recipients) (Some k) (Ok recipients) first c.in_ok-recipients-in-Some.ensures.read in
    read_gives old new (λ s it. (Some k ≡ naming_of n s) × (it ≡ its_recipients k.number s.recipients)) (λ s found. found ≡ sharing_of n s) recipients (Some (shared recipients)) both (λ s sound it. ap (λ r. Some (shared r)) it.1 ∙ ap (option_map (shared_as s)) it.0)
