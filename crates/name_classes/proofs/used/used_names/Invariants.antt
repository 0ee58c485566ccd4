use Rattle.std.proofs.Common.{take}
use Rattle.name_table.specs.Named.{names_in}
use Rattle.name_classes.specs.KnownSigns.{AreUsed}
use Rattle.name_classes.proofs.used.used_names.Given as goal

abbrev pub invariant-loop-statement : goal.invariant-loop-statement
invariant-loop-statement l = AreUsed (names_in l.arrays) (take l.statement-index l.statements) l.names
