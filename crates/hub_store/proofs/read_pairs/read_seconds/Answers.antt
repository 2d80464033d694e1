use Rattle.{std.proofs.Common.{◌≡◌, map, refl}, hub_store.{proofs.LookUps.{PairRows.reads_numbers, Reading.read_made}, specs.Pairs.Pair}}
use Rattle.hub_store.specs.inner.PairKinds.{pairs_from, second_shown}
use Rattle.hub_store.proofs.read_pairs.read_seconds.Goals as goal

pub returns-clause-read : goal.returns-clause-read
returns-clause-read g c =
    read_made _ _ (λ s rows. rows.items ≡ map second_shown (pairs_from c.args.kind c.args.a s.directory)) (λ s found. found.items ≡ map (λ (p : Pair). p.0.1) (pairs_from c.args.kind c.args.a s.directory)) c.in_ok-rows.rows c.all.result c.in_ok-rows.ensures.read
    (λ s sound is. reads_numbers second_shown (λ (p : Pair). p.0.1) (λ p. refl) (pairs_from c.args.kind c.args.a s.directory) c.in_ok-rows.rows.items c.all.result is (rw c.deref.ensures.value at c.all.ensures))
