use Rattle.std.proofs.Common.{◌≡◌, List, drop, bytes_eq}
use Rattle.std.specs.HashMap.{get_by}
use Rattle.f_tree.specs.Values.{Bytes}
use Rattle.unit_translation.specs.UnitContents.{LoweredUnit, procedure_callee}
use Rattle.unit_writer.specs.ToldUnits.{callees_told}
use Rattle.translator.specs.LoweredFiles.{AreTold, added}
use Rattle.translator.proofs.ProcedureLemmas.{callee_from}
use Rattle.translator.proofs.functions.procedures_of.Given as goal

abbrev pub invariant-loop-unit : goal.invariant-loop-unit
invariant-loop-unit l =
    (us : List LoweredUnit) (x : Bytes) → AreTold us l.units
    → procedure_callee us x ≡ added (callees_told (λ y. get_by (λ k. bytes_eq y k.now) l.procedures) x) (callee_from us l.unit-index (drop l.unit-index us) x)
