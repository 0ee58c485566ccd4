use Rattle.std.proofs.Common.{take, []}
use Rattle.f_tree.specs.Attributes.{from_all, constants_in, constants_from}
use Rattle.constant_values.specs.KnownConstants.{AreConstants}
use Rattle.decl_table.proofs.constants.constants_among.Given as goal

abbrev pub invariant-loop-statement : goal.invariant-loop-statement
invariant-loop-statement l = AreConstants (constants_from l.unit [] (from_all constants_in (take l.statement-index l.statements))) l.constants
