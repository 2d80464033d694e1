-- The grounds of each command are in the order of the codes.
use Rattle.{std.proofs.Common.refl, circle.specs.{Order.GroundsAscend, declared.command.CircleCommand.TheVariants.{AddOrg, AddPerson, SuspendPerson}}}
use Rattle.circle.specs.declared.command.CircleCommand.TheVariants.{AddClient, RemoveClient, AddCommunity, Join, Leave, Link, Unlink, NewGroup, GroupAdd}
use Rattle.circle.specs.declared.command.CircleCommand.TheVariants.{GroupRemove, GroupActive, Arrange, CancelArrange, Nominate, Unnominate, NewKey}

pub in_order : GroundsAscend
in_order d a (AddOrg name) = refl
in_order d a (AddPerson org name role key) = refl
in_order d a (SuspendPerson person) = refl
in_order d a (AddClient org client) = refl
in_order d a (RemoveClient org client) = refl
in_order d a (AddCommunity name) = refl
in_order d a (Join community org) = refl
in_order d a (Leave community org) = refl
in_order d a (Link community other) = refl
in_order d a (Unlink community other) = refl
in_order d a (NewGroup name releasability) = refl
in_order d a (GroupAdd group org extend) = refl
in_order d a (GroupRemove group org) = refl
in_order d a (GroupActive group active) = refl
in_order d a (Arrange org handling) = refl
in_order d a (CancelArrange org) = refl
in_order d a (Nominate person) = refl
in_order d a (Unnominate person) = refl
in_order d a (NewKey key) = refl
