use Rattle.std.proofs.Common.{◌≡◌, ◌++◌, map, drop}
use Rattle.unit_writer.specs.ToldUnits.{bound_told}
use Rattle.translator.specs.UnitFiles.{kept_among}
use Rattle.translator.proofs.bounds.bounds_kept.Given as goal

abbrev pub invariant-loop-dummy : goal.invariant-loop-dummy
invariant-loop-dummy l = kept_among l.unit l.dummies ≡ map bound_told l.found.items ++ kept_among l.unit (drop l.dummy-index l.dummies)
