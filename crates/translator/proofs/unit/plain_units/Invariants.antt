use Rattle.std.proofs.Common.{take, []}
use Rattle.name_table.specs.Named.{names_in}
use Rattle.declaration_rows.specs.GlobalRows.{all_units}
use Rattle.translator.specs.LoweredFiles.{AddsUnits}
use Rattle.translator.proofs.unit.plain_units.Given as goal

abbrev pub invariant-loop-file : goal.invariant-loop-file
invariant-loop-file l = AddsUnits l.fn.options (names_in l.fn.procedures) (all_units (take l.file-index l.files)) [] l.found.items l.refusal
