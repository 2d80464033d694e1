use Rattle.{std.proofs.{Common.{◌≡◌, ◌==◌, sym, ◌∙◌}, lemmas.Iterator.Adapters.option_map_id}, circle.specs.Directory.{group_number, has_group_of}}
use Rattle.{circle.specs.{Reads.group_of, declared.directory.Group.Group}, hub_store.proofs.LookUps.{Finding.once_numbered, Reading.read_gives}}
use Rattle.hub_store.proofs.LookUps.Whether.{one_passes}
use Rattle.hub_store.proofs.has_row.read_has_group_of.Goals as goal

pub returns-clause-read : goal.returns-clause-read
returns-clause-read g c =
    let n = c.args.group in
    read_gives _ _ (λ s found. found ≡ group_of n s.directory) (λ s found. found ≡ has_group_of n c.args.owner s.directory) c.in_ok-found.found c.is_owned.result c.in_ok-found.ensures.read
    (λ s sound is. one_passes (λ (g : Group). g) (λ (g : Group). g.number == n) (λ (g : Group). g.owner == c.args.owner) s.directory.groups c.in_ok-found.found c.is_owned.result (once_numbered group_number n s.directory.groups sound.directory.groups.numbered.0) (is ∙ sym (option_map_id (group_of n s.directory))) c.is_owned.ensures)
