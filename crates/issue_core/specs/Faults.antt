-- What faults of the layers below are to a desk (this project's own).
use Rattle.keeper.specs.declared.keeping.KeepRefusal.{KeepRefusal}
use Rattle.keeper.specs.declared.keeping.KeepRefusal.TheVariants as refusal
use Rattle.issue_core.specs.declared.fault.IssueFault.{IssueFault}
use Rattle.issue_core.specs.declared.fault.IssueFault.TheVariants as fault

-- A reading is refused for a fault and for want of memory alone.
abbrev pub fault_in : KeepRefusal → IssueFault
fault_in refusal.Failed = fault.KeeperFault
fault_in refusal.Full = fault.NoMemory
fault_in (refusal.Twice row) = fault.NoMemory
fault_in refusal.Absent = fault.NoMemory
fault_in refusal.NoMemory = fault.NoMemory
