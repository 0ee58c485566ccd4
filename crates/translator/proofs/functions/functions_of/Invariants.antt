use Rattle.std.proofs.Common.{List, bytes_eq}
use Rattle.std.specs.HashMap.{get_by}
use Rattle.unit_translation.specs.UnitContents.{LoweredUnit}
use Rattle.unit_writer.specs.ToldUnits.{TellsProcedures}
use Rattle.translator.specs.LoweredFiles.{AreTold}
use Rattle.translator.proofs.ListLemmas.{AreMade}
use Rattle.translator.proofs.functions.functions_of.Given as goal

abbrev pub invariant-loop-unit : goal.invariant-loop-unit
invariant-loop-unit l =
    (all us : List LoweredUnit) → AreTold us l.units → TellsProcedures all (λ x. get_by (λ k. bytes_eq x k.now) l.fn.procedures)
    → AreMade l.fn.constants all us l.units l.unit-index l.found.items l.refusal
