use Rattle.std.proofs.Common.{◌≡◌, ◌++◌, drop, false}
use Rattle.declaration_rows.specs.GlobalRows.{main_rows, all_units}
use Rattle.set_judge.proofs.judge.add_mains_rows.Given as goal

abbrev pub invariant-loop-file : goal.invariant-loop-file
invariant-loop-file l =
    l.initial.found.items ++ main_rows false (all_units l.files) ≡ l.found.items ++ main_rows l.main (all_units (drop l.file-index l.files))
