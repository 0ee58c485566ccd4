-- The name of each fault, as a message of a run prints it.
use Rattle.std.specs.Prelude.{ℕ, List, codes}
use Rattle.c_tree.specs.declared.outcome.CFault.{CFault}
use Rattle.c_tree.specs.declared.outcome.CFault.TheVariants as fault

unfoldable pub fault_name : CFault → List ℕ
fault_name fault.Overflow = codes "Overflow"
fault_name fault.ZeroDivide = codes "ZeroDivide"
fault_name fault.Unset = codes "Unset"
fault_name fault.Outside = codes "Outside"
fault_name fault.Kind = codes "Kind"
fault_name fault.Disagree = codes "Disagree"
fault_name fault.Active = codes "Active"
fault_name fault.Library = codes "Library"
