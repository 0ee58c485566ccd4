use Rattle.std.proofs.Common.{◌≡◌, ◌++◌, map, drop}
use Rattle.main_translation.specs.main_file.MainFile.{constant_for}
use Rattle.unit_writer.proofs.files.constants.Given as goal

abbrev pub invariant-loop-value : goal.invariant-loop-value
invariant-loop-value l = map constant_for l.values ≡ l.found.items ++ map constant_for (drop l.value-index l.values)
