use Rattle.std.proofs.Common.{◌≡◌, ◌++◌, drop}
use Rattle.declaration_rows.specs.GlobalRows.{globals_of, all_units}
use Rattle.set_judge.specs.GlobalSteps.{globals_in}
use Rattle.set_judge.proofs.globals.global_names.Given as goal

abbrev pub invariant-loop-file : goal.invariant-loop-file
invariant-loop-file l = globals_of (all_units l.files) ≡ globals_in l.names.items ++ globals_of (all_units (drop l.file-index l.files))
