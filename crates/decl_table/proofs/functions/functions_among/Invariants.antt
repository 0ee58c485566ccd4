use Rattle.std.proofs.Common.{take}
use Rattle.name_table.specs.Named.{texts}
use Rattle.decl_table.specs.UnitFacts.{AreFunctionsAmong}
use Rattle.decl_table.proofs.functions.functions_among.Given as goal

abbrev pub invariant-loop-name : goal.invariant-loop-name
invariant-loop-name l = AreFunctionsAmong l.unit (texts (take l.name-index l.names)) l.functions
