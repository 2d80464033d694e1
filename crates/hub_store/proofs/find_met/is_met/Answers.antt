use Rattle.hub_store.proofs.LookUps.Probing.{met_there}
use Rattle.hub_store.proofs.find_met.is_met.Goals as goal

pub returns-in-Ok : goal.returns-in-Ok
returns-in-Ok c = λ n s sound first.
    met_there c.lines_are_an_outline.ensures n s c.args.probe c.in-Ok.met sound first c.requires.sure (c.in-Ok.ensures.told c.requires.unfaulted) (c.in-Ok.ensures.stays c.requires.unfaulted)
