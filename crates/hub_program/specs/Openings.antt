-- The fault that is printed for a store that isn't opened.
use Rattle.hub_store.specs.declared.sql_shelf.OpenFault.{OpenFault}
use Rattle.hub_service.specs.declared.fault.Fault.{Fault}
use Rattle.hub_service.specs.declared.fault.Fault.TheVariants.{NotOurs, WrongVersion, Failed, NoMemory}
use Rattle.hub_store.specs.declared.sql_shelf.OpenFault.TheVariants as opening

-- the fault for a store that isn't opened
abbrev pub told_of_opening : OpenFault → Fault
told_of_opening opening.NotOurs = NotOurs
told_of_opening (opening.WrongVersion n) = WrongVersion
told_of_opening opening.Failed = Failed
told_of_opening opening.NoMemory = NoMemory
