use Rattle.std.proofs.Common.{◌≡◌, ◌++◌, drop}
use Rattle.call_shapes.specs.declaration_rows.GlobalRows.{all_units}
use Rattle.call_shapes.specs.ProcedureShapes.{procedures_of}
use Rattle.call_check.proofs.procedures.procedures_of.Given as goal

abbrev pub invariant-loop-file : goal.invariant-loop-file
invariant-loop-file l = procedures_of (all_units l.files) ≡ l.shapes.items ++ procedures_of (all_units (drop l.file-index l.files))
