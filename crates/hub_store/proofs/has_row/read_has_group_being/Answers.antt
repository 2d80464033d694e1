use Rattle.{std.proofs.{Common.{◌≡◌, ◌==◌, sym, ◌∙◌}, lemmas.Iterator.Adapters.option_map_id}, circle.specs.Directory.{group_number, has_group_being}}
use Rattle.{circle.specs.{Directory.same_flag, Reads.group_of, declared.directory.Group.Group}, hub_store.proofs.LookUps.Finding.once_numbered}
use Rattle.hub_store.proofs.LookUps.{Reading.read_gives, Whether.one_passes}
use Rattle.hub_store.proofs.has_row.read_has_group_being.Goals as goal

pub returns-clause-read : goal.returns-clause-read
returns-clause-read g c =
    let n = c.args.group in
    read_gives _ _ (λ s found. found ≡ group_of n s.directory) (λ s found. found ≡ has_group_being n c.args.active s.directory) c.in_ok-found.found c.is_being.result c.in_ok-found.ensures.read
    (λ s sound is. one_passes (λ (g : Group). g) (λ (g : Group). g.number == n) (λ (g : Group). same_flag c.args.active g.active) s.directory.groups c.in_ok-found.found c.is_being.result (once_numbered group_number n s.directory.groups sound.directory.groups.numbered.0) (is ∙ sym (option_map_id (group_of n s.directory))) c.is_being.ensures)
