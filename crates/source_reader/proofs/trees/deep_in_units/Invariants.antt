use Rattle.std.proofs.Common.{take}
use Rattle.file_parse.specs.FirstRefusals.{IsFirstAmong}
use Rattle.source_acceptance.specs.Acceptance.{deep_rows_of}
use Rattle.source_reader.proofs.trees.deep_in_units.Given as goal

abbrev pub invariant-loop-unit : goal.invariant-loop-unit
invariant-loop-unit l = IsFirstAmong (deep_rows_of (take l.unit-index l.units)) l.found
