use Rattle.{std.proofs.Common.{[], length, refl}, sqlite.specs.Held.state, circle.specs.Directory.group_number, hub_store.proofs.LookUps.Answering.read_shown}
use Rattle.hub_store.proofs.{LookUps.Highest.{highest_listed, reads_count}, Rows.{Places.{grp_place, grp_tree, held_of}, TextsHighest.highest_group_is}}
use Rattle.hub_store.specs.Rows.{group_row}
use Rattle.hub_store.proofs.counts.count_groups.Goals as goal

pub returns-clause-read : goal.returns-clause-read
returns-clause-read g c =
    let rows = c.in_ok-rows.rows.items in
    read_shown g.S.Store highest_group_is [] c.args.tx.now.conn.now c.ask.new.tx.conn.now rows _ c.number_in.result c.ask.ensures.survives c.in_ok-rows.ensures.shown
    (λ s holds sound answer. reads_count (length s.directory.groups) rows c.number_in.result
    (highest_listed (state g.S.Store c.args.tx.now.conn.now).now.trees grp_tree group_row group_number s.directory.groups rows (λ x. refl) sound.directory.groups.numbered.0 (held_of s grp_place _ refl holds.means) answer) (rw c.deref.ensures.value at c.number_in.ensures))
