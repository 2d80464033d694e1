use Rattle.{std.proofs.Common.{◌≡◌, map, refl}, hub_store.{proofs.LookUps.{PairRows.reads_numbers, Reading.read_made}, specs.Pairs.Pair}}
use Rattle.hub_store.specs.inner.PairKinds.{pairs_to, first_shown}
use Rattle.hub_store.proofs.read_pairs.read_firsts.Goals as goal

pub returns-clause-read : goal.returns-clause-read
returns-clause-read g c =
    read_made _ _ (λ s rows. rows.items ≡ map first_shown (pairs_to c.args.kind c.args.b s.directory)) (λ s found. found.items ≡ map (λ (p : Pair). p.0.0) (pairs_to c.args.kind c.args.b s.directory)) c.in_ok-rows.rows c.all.result c.in_ok-rows.ensures.read
    (λ s sound is. reads_numbers first_shown (λ (p : Pair). p.0.0) (λ p. refl) (pairs_to c.args.kind c.args.b s.directory) c.in_ok-rows.rows.items c.all.result is (rw c.deref.ensures.value at c.all.ensures))
