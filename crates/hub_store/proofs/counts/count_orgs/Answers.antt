use Rattle.{std.proofs.Common.{[], length, refl}, sqlite.specs.Held.state, circle.specs.Directory.org_number, hub_store.proofs.LookUps.Answering.read_shown}
use Rattle.hub_store.proofs.{LookUps.Highest.{highest_listed, reads_count}, Rows.{Places.{org_place, org_tree, held_of}, TextsHighest.highest_org_is}}
use Rattle.hub_store.specs.Rows.{org_row}
use Rattle.hub_store.proofs.counts.count_orgs.Goals as goal

pub returns-clause-read : goal.returns-clause-read
returns-clause-read g c =
    let rows = c.in_ok-rows.rows.items in
    read_shown g.S.Store highest_org_is [] c.args.tx.now.conn.now c.ask.new.tx.conn.now rows _ c.number_in.result c.ask.ensures.survives c.in_ok-rows.ensures.shown
    (λ s holds sound answer. reads_count (length s.directory.orgs) rows c.number_in.result
    (highest_listed (state g.S.Store c.args.tx.now.conn.now).now.trees org_tree org_row org_number s.directory.orgs rows (λ x. refl) sound.directory.orgs.numbered.0 (held_of s org_place _ refl holds.means) answer) (rw c.deref.ensures.value at c.number_in.ensures))
