use Rattle.hub_store.proofs.LookUps.{Extending.reads_extends, Reading.read_made}
use Rattle.hub_store.proofs.has_pair.read_has_extender.Goals as goal

pub returns-clause-read : goal.returns-clause-read
returns-clause-read g c =
    read_made _ _ _ _ c.in_ok-rows.rows c.is_flagged.result c.in_ok-rows.ensures.read (λ s sound is. reads_extends s.directory c.args.group c.args.org c.in_ok-rows.rows.items c.is_flagged.result sound.directory is (rw c.deref.ensures.value at c.is_flagged.ensures))
