use Rattle.std.proofs.Common.{take}
use Rattle.name_classes.specs.KnownSigns.{AreDeclared}
use Rattle.name_classes.proofs.declarations.declared_names.Given as goal

abbrev pub invariant-loop-statement : goal.invariant-loop-statement
invariant-loop-statement l = AreDeclared (take l.statement-index l.statements) l.names
