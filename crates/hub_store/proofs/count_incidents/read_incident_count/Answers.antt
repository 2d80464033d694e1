use Rattle.{std.proofs.Common.{[], length, refl}, sqlite.specs.Held.state, hub_state.specs.State.incident_number, hub_store.proofs.LookUps.Answering.read_shown}
use Rattle.hub_store.proofs.{LookUps.Highest.{highest_listed, reads_count}, Rows.Places.{incident_place, incident_tree, held_of}}
use Rattle.hub_store.{proofs.Rows.TextsHighest.highest_incident_is, specs.Rows.named_row}
use Rattle.hub_store.proofs.count_incidents.read_incident_count.Goals as goal

pub returns-clause-read : goal.returns-clause-read
returns-clause-read g c =
    let rows = c.in_ok-rows.rows.items in
    read_shown g.S.Store highest_incident_is [] c.args.tx.now.conn.now c.ask.new.tx.conn.now rows _ c.number_in.result c.ask.ensures.survives c.in_ok-rows.ensures.shown
    (λ s holds sound answer. reads_count (length s.incidents) rows c.number_in.result (highest_listed (state g.S.Store c.args.tx.now.conn.now).now.trees incident_tree named_row incident_number s.incidents rows (λ i. refl) sound.incidents.numbered.0 (held_of s incident_place _ refl holds.means) answer) (rw c.deref.ensures.value at c.number_in.ensures))
