use Rattle.hub_store.proofs.Shelf.Telling.{reads}
use Rattle.hub_store.proofs.sql_shelf.look_ups.SqlShelfLookUps.naming.Goals as goal

pub returns : goal.returns
returns g c =
    reads g.S.Store c.self.inside.conn c.self.inside.failures _ _ _ _ _ c.self.view_is
    c.find_naming-found.ensures.answers c.count_failure.ensures.cause c.count_failure.ensures.value
