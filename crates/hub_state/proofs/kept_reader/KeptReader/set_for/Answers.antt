use Rattle.{std.proofs.{Common.w64, lemmas.Int.to_z-of_z}, hub_state.proofs.Standings.set_is}
use Rattle.hub_state.proofs.kept_reader.KeptReader.set_for.Goals as goal

pub returns-clause-stands : goal.returns-clause-stands
returns-clause-stands c = λ p i is there tied.
    set_is c.args.rows.now _ c.args.self.now c.args.naming.now c.args.ties.now p i _ _ _ _ _ _ _ is there tied
    c.is_addressed-person.ensures c.is_addressed-addressed.ensures c.as_slice.ensures c.is_client-client.ensures c.is_peer-peer.ensures c.arrangement_in-standing.ensures
    (to_z-of_z w64 c.args.now c.ranges.now)
