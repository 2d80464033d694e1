use Rattle.{std.proofs.Common.{[], length, refl}, sqlite.specs.Held.state, circle.specs.Directory.account_number, hub_store.proofs.LookUps.Answering.read_shown}
use Rattle.hub_store.proofs.{LookUps.Highest.{highest_listed, reads_count}, Rows.{Places.{person_place, person_tree, held_of}, TextsHighest.highest_person_is}}
use Rattle.hub_store.specs.Rows.{account_row}
use Rattle.hub_store.proofs.counts.count_persons.Goals as goal

pub returns-clause-read : goal.returns-clause-read
returns-clause-read g c =
    let rows = c.in_ok-rows.rows.items in
    read_shown g.S.Store highest_person_is [] c.args.tx.now.conn.now c.ask.new.tx.conn.now rows _ c.number_in.result c.ask.ensures.survives c.in_ok-rows.ensures.shown
    (λ s holds sound answer. reads_count (length s.directory.accounts) rows c.number_in.result
    (highest_listed (state g.S.Store c.args.tx.now.conn.now).now.trees person_tree account_row account_number s.directory.accounts rows (λ x. refl) sound.directory.accounts.numbered.0 (held_of s person_place _ refl holds.means) answer) (rw c.deref.ensures.value at c.number_in.ensures))
