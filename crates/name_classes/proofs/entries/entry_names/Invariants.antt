use Rattle.std.proofs.Common.{take}
use Rattle.name_classes.specs.KnownSigns.{AreEntries}
use Rattle.name_classes.proofs.entries.entry_names.Given as goal

abbrev pub invariant-loop-statement : goal.invariant-loop-statement
invariant-loop-statement l = AreEntries l.unit (take l.statement-index l.unit.statements) l.names
