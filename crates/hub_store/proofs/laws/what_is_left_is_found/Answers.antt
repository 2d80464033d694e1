use Rattle.{sqlite.specs.Held.state, hub_store.proofs.Shelf.Left.found_has}
use Rattle.hub_store.proofs.laws.what_is_left_is_found.Goals as goal

pub returns : goal.returns
returns g c old new db left may finds is = ((db, may, is), found_has (state g.T.Store new) db left finds is)
