use Rattle.{std.proofs.Common.{[], length, refl}, sqlite.specs.Held.state, circle.specs.Directory.community_number}
use Rattle.hub_store.proofs.{LookUps.{Answering.read_shown, Highest.{highest_listed, reads_count}}, Rows.Places.{community_place, community_tree, held_of}}
use Rattle.hub_store.{proofs.Rows.TextsHighest.highest_community_is, specs.Rows.community_row}
use Rattle.hub_store.proofs.counts.count_communities.Goals as goal

pub returns-clause-read : goal.returns-clause-read
returns-clause-read g c =
    let rows = c.in_ok-rows.rows.items in
    read_shown g.S.Store highest_community_is [] c.args.tx.now.conn.now c.ask.new.tx.conn.now rows _ c.number_in.result c.ask.ensures.survives c.in_ok-rows.ensures.shown
    (λ s holds sound answer. reads_count (length s.directory.communities) rows c.number_in.result
    (highest_listed (state g.S.Store c.args.tx.now.conn.now).now.trees community_tree community_row community_number s.directory.communities rows (λ x. refl) sound.directory.communities.numbered.0 (held_of s community_place _ refl holds.means) answer) (rw c.deref.ensures.value at c.number_in.ensures))
