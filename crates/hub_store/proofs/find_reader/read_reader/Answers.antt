use Rattle.{std.{proofs.Common.{◌≡◌, Some, Ok, ap, ◌∙◌}, specs.Prelude.option_map}, sqlite.specs.Held.state, circle.specs.Reads.person_of}
use Rattle.{hub_state.specs.Reads.{reader_of, reader_with}, hub_store.{proofs.LookUps.Reading.{read_then, read_gives}, specs.inner.Queries.IsReadInside}}
use Rattle.hub_store.proofs.find_reader.read_reader.Goals as goal

pub returns-in_ok-reader-in-Some-clause-read : goal.returns-in_ok-reader-in-Some-clause-read
returns-in_ok-reader-in-Some-clause-read g c =
    let old = state g.S.Store c.args.tx.now.conn.now in
    let mid = state g.S.Store c.read_person_of.new.tx.conn.now in
    let new = state g.S.Store c.read_own.new.tx.conn.now in
    let n = c.args.number in
    let p = c.in-Some.person in
    let reader = c.in_ok-reader-in-Some.reader in
    let first : IsReadInside old mid (λ s found. found ≡ person_of n s.directory) (Ok (Some p)) = rw c.in-Some.is at c.in_ok-found.ensures.read in
    let both = read_then old mid new (λ s found. found ≡ person_of n s.directory) (λ s found. found ≡ reader_with s p) (Some p) (Ok reader) first c.in_ok-reader-in-Some.ensures.read in
    read_gives old new (λ s it. (Some p ≡ person_of n s.directory) × (it ≡ reader_with s p)) (λ s found. found ≡ reader_of n s) reader (Some reader) both (λ s sound it. ap Some it.1 ∙ ap (option_map (reader_with s)) it.0)
