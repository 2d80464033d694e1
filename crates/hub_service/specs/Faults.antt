-- Why a command over a store isn't done: the name that is printed, the reason after it if there is one, and the exit
-- status.
use Rattle.std.specs.Prelude.{Option, None, Some, codes}
use Rattle.iodef_tree.specs.Text.{Bytes}
use Rattle.hub_state.specs.declared.shelf.ShelfFault.{ShelfFault}
use Rattle.hub_service.specs.declared.fault.Fault.{Fault}
use Rattle.hub_service.specs.declared.fault.Fault.TheVariants.{BadArgument, NotOurs, WrongVersion, Failed, FileFailed, ListenFailed, ReadFailed, WriteFailed}
use Rattle.hub_service.specs.declared.fault.Fault.TheVariants.{NoMemory}
use Rattle.hub_service.specs.declared.fault.Reason.{Reason}
use Rattle.hub_service.specs.declared.fault.Reason.TheVariants.{NoSuchFile, NoPermission, SecondName, Locked, DiskFull}
use Rattle.hub_service.specs.declared.status.Status.{Status}
use Rattle.hub_state.specs.declared.shelf.ShelfFault.TheVariants as shelf
use Rattle.hub_service.specs.declared.status.Status.TheVariants as status

-- the name of a fault, as it is printed
abbrev pub fault_name : Fault → Bytes
fault_name BadArgument = codes "B1"
fault_name NotOurs = codes "NotOurs"
fault_name WrongVersion = codes "WrongVersion"
fault_name Failed = codes "Failed"
fault_name (FileFailed reason) = codes "Failed"
fault_name ListenFailed = codes "ListenFailed"
fault_name ReadFailed = codes "ReadFailed"
fault_name WriteFailed = codes "WriteFailed"
fault_name NoMemory = codes "NoMemory"

-- why the store's file can't be opened or written, if the system says so
abbrev pub reason_of : Fault → Option Reason
reason_of (FileFailed reason) = Some reason
reason_of _ = None

-- a reason in words
abbrev pub reason_text : Reason → Bytes
reason_text NoSuchFile = codes "no such file"
reason_text NoPermission = codes "no permission"
reason_text SecondName = codes "a second hard link"
reason_text Locked = codes "locked by another program"
reason_text DiskFull = codes "disk full"

-- a bad argument is a refusal, and all else a failure
abbrev pub fault_status : Fault → Status
fault_status BadArgument = status.Refused
fault_status _ = status.Failed

-- the fault for a shelf's fault
abbrev pub told_of_shelf : ShelfFault → Fault
told_of_shelf shelf.NoMemory = NoMemory
told_of_shelf shelf.Failed = Failed
